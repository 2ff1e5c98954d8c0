-- Prefixed names and words: which of them stands at a place, and how far it reaches.
use Rattle.std.proofs.Common.{◌≡◌, ℕ, ◌<◌, true, List, length, refl, sym, ◌⊎◌, inl, inr, arith, true≢false}
use Rattle.std.proofs.Common.{Option, Some, None, MatchOption}
use Rattle.ttl_tokens.specs.declared.group.Group.TheVariants.{Name}
use Rattle.ttl_tokens.specs.declared.token.TokenKind.{TokenKind}
use Rattle.ttl_tokens.specs.declared.token.TokenKind.TheVariants.{PnameNs, PnameLn, WordA, WordTrue}
use Rattle.ttl_tokens.specs.declared.token.TokenKind.TheVariants.{WordFalse, WordPrefix, WordBase}
use Rattle.ttl_tokens.specs.Form.{Takes}
use Rattle.ttl_tokens.specs.Walks.{Never, Only}
use Rattle.ttl_tokens.specs.Chars.{Longest, PastChar}
use Rattle.ttl_tokens.specs.Terminals.{pname_ns, pname_ln, pn_local, terminal}
use Rattle.ttl_tokens.specs.Tokens.{Stands}
use Rattle.ttl_tokens.specs.inner.Groups.{kind_group, IsTokenOf, IsNoTokenOf}
use Rattle.ttl_tokens.specs.inner.NameForms.{is_word, IsWord, IsNoWord}
use Rattle.ttl_tokens.proofs.FormLemmas.{same_never, then_same}
use Rattle.ttl_tokens.proofs.CharLemmas.{same_longest, takes_shorter}
use Rattle.ttl_tokens.proofs.RestLemmas.{longest_other}
use Rattle.ttl_tokens.proofs.PrefixLemmas.{word_shorter}

-- of the kinds of the group, from what each of them says
name_kinds : (A : TokenKind → Type 0) (xs zs : List ℕ) → (Takes PastChar pname_ns xs zs → A PnameNs)
    → (Takes PastChar pname_ln xs zs → A PnameLn)
    → ((k : TokenKind) → is_word k ≡ true → Takes PastChar (terminal k) xs zs → A k)
    → (k : TokenKind) → kind_group k ≡ Name → Stands k xs zs → A k
name_kinds A xs zs ns ln word PnameNs e t = ns t
name_kinds A xs zs ns ln word PnameLn e t = ln t
name_kinds A xs zs ns ln word WordA e t = word WordA refl t
name_kinds A xs zs ns ln word WordTrue e t = word WordTrue refl t
name_kinds A xs zs ns ln word WordFalse e t = word WordFalse refl t
name_kinds A xs zs ns ln word WordPrefix e t = word WordPrefix refl t
name_kinds A xs zs ns ln word WordBase e t = word WordBase refl t
name_kinds A xs zs ns ln word k e t = absurd cc

-- k is the kind of the token, and leaves ys too, or leaves more
abbrev Yields : TokenKind → List ℕ → TokenKind → List ℕ → Type 0
Yields kind ys k zs = ((k ≡ kind) × (zs ≡ ys)) ⊎ (length ys < length zs)

pub local_token : {xs m ys : List ℕ} → Only PastChar pname_ns xs m → Longest pn_local m ys
    → IsTokenOf Name xs PnameLn ys
local_token {xs = xs} {m = m} {ys = ys} ns local = record {
  stands = found.takes;
  longest = λ k zs. name_kinds (λ j. Yields PnameLn ys j zs) xs zs (prefix zs)
      (λ t. same zs (longest_other found zs t))
      (λ j. word j zs) k;
}
  where
    found : Longest pname_ln xs ys
    found = same_longest (then_same ns) local

    prefix : (zs : List ℕ) → Takes PastChar pname_ns xs zs → Yields PnameLn ys PnameNs zs
    prefix zs t =
        let less = takes_shorter pn_local m ys refl local.takes in
        let e = ns.only zs t in
        inr (rw (sym e) less)

    word : (j : TokenKind) (zs : List ℕ) → is_word j ≡ true → Takes PastChar (terminal j) xs zs
        → Yields PnameLn ys j zs
    word j zs is t =
        let less = takes_shorter pn_local m ys refl local.takes in
        let before = word_shorter j xs m zs is t ns.takes in
        inr (omega (arith, less, before))

    same : (zs : List ℕ) → (zs ≡ ys) ⊎ (length ys < length zs) → Yields PnameLn ys PnameLn zs
    same zs (inl e) = inl (refl, e)
    same zs (inr less) = inr less

pub namespace_token : {xs m : List ℕ} → Only PastChar pname_ns xs m → Never PastChar pn_local m
    → IsTokenOf Name xs PnameNs m
namespace_token {xs = xs} {m = m} ns never = record {
  stands = ns.takes;
  longest = λ k zs. name_kinds (λ j. Yields PnameNs m j zs) xs zs (λ t. inl (refl, sym (ns.only zs t)))
      (λ t. absurd ((no_local).none zs t))
      (λ j is t. inr (word_shorter j xs m zs is t ns.takes)) k;
}
  where
    no_local : Never PastChar pname_ln xs
    no_local = same_never (then_same ns) never

word_stands : (k : TokenKind) (xs ys : List ℕ) → is_word k ≡ true → Takes PastChar (terminal k) xs ys
    → Stands k xs ys
word_stands WordA xs ys is t = t
word_stands WordTrue xs ys is t = t
word_stands WordFalse xs ys is t = t
word_stands WordPrefix xs ys is t = t
word_stands WordBase xs ys is t = t
word_stands k xs ys is t = absurd (true≢false (sym is))

word_token : {xs ys : List ℕ} {kind : TokenKind} → Never PastChar pname_ns xs → IsWord xs kind ys
    → IsTokenOf Name xs kind ys
word_token {xs = xs} {ys = ys} {kind = kind} never word = record {
  stands = word_stands kind xs ys word.word word.takes;
  longest = λ k zs. name_kinds (λ j. Yields kind ys j zs) xs zs (λ t. absurd (never.none zs t))
      (λ t. absurd (never.none t.0 t.1)) (λ j is t. inl (word.only j zs is t)) k;
}

no_name : {xs : List ℕ} → Never PastChar pname_ns xs → IsNoWord xs → IsNoTokenOf Name xs
no_name {xs = xs} never word = record {
  none = λ k zs. name_kinds (λ j. ⊥) xs zs (λ t. never.none zs t) (λ t. never.none t.0 t.1)
      (λ j is t. word.none j zs is t) k;
}

-- where no prefixed name stands, the word is the token
pub match_word : {A : Type 0} (kind : A → TokenKind) (rest : A → List ℕ) (r : Option A) (xs : List ℕ)
    → Never PastChar pname_ns xs → MatchOption r (IsNoWord xs) (λ t. IsWord xs (kind t) (rest t))
    → MatchOption r (IsNoTokenOf Name xs) (λ t. IsTokenOf Name xs (kind t) (rest t))
match_word kind rest None xs never h = no_name never h
match_word kind rest (Some t) xs never h = word_token never h
