-- Each terminal begins with a character of its group.
use Rattle.std.proofs.Common.{◌≡◌, ℕ, Bool, true, false, ◌||◌, ◌==◌, List, [], ◌∷◌, length, refl, sym, ap}
use Rattle.std.proofs.Common.{◌∙◌, arith, subst, true≢false, Option, Some, None}
use Rattle.std.proofs.lemmas.Bool.Decides.{nat_tests}
use Rattle.std.specs.Prelude.{MatchOption}
use Rattle.ttl_tokens.specs.declared.group.Group.{Group}
use Rattle.ttl_tokens.specs.declared.group.Group.TheVariants.{Number, Name, Square, Other}
use Rattle.ttl_tokens.specs.declared.token.TokenKind.{TokenKind}
use Rattle.ttl_tokens.specs.declared.token.TokenKind.TheVariants.{IriRef, PnameNs, PnameLn, BlankLabel}
use Rattle.ttl_tokens.specs.declared.token.TokenKind.TheVariants.{LangTag, Integer, Decimal, Double, Anon}
use Rattle.ttl_tokens.specs.declared.token.TokenKind.TheVariants.{StringQuote, StringSingleQuote}
use Rattle.ttl_tokens.specs.declared.token.TokenKind.TheVariants.{StringLongSingleQuote, StringLongQuote}
use Rattle.ttl_tokens.specs.declared.token.TokenKind.TheVariants.{WordA, WordTrue, WordFalse, WordPrefix}
use Rattle.ttl_tokens.specs.declared.token.TokenKind.TheVariants.{WordBase, Carets, Dot, Semicolon, Comma}
use Rattle.ttl_tokens.specs.declared.token.TokenKind.TheVariants.{OpenSquare, CloseSquare, OpenRound}
use Rattle.ttl_tokens.specs.declared.token.TokenKind.TheVariants.{CloseRound, End}
use Rattle.ttl_tokens.specs.Chars.{is_digit, is_letter, is_name_start}
use Rattle.ttl_tokens.specs.Terminals.{terminal}
use Rattle.ttl_tokens.specs.Tokens.{Stands, IsAnon, IsToken, IsNoToken}
use Rattle.ttl_tokens.specs.inner.Groups.{char_group, kind_group, IsTokenOf, IsNoTokenOf}
use Rattle.ttl_tokens.proofs.CharLemmas.{first, takes_begins, never_at_end}

-- ---- which group a character is of

one_char : (c n : ℕ) → (c == n) ≡ true → char_group c ≡ char_group n
one_char c n b = let same : c ≡ n = grind (arith, nat_tests) in ap char_group same

one_char_or : (c n : ℕ) → ((c == n) || false) ≡ true → char_group c ≡ char_group n
one_char_or c n b = let same : c ≡ n = grind (arith, nat_tests) in ap char_group same

in_numbers : (c : ℕ) → (is_digit c || (c == 43) || (c == 45) || (c == 46)) ≡ true → char_group c ≡ Number
in_numbers c b = rw b refl

is_no_number : (c : ℕ) → (is_name_start c || (c == 58)) ≡ true
    → (is_digit c || (c == 43) || (c == 45) || (c == 46)) ≡ false
is_no_number c b = grind (arith, nat_tests)

in_names : (c : ℕ) → (is_name_start c || (c == 58)) ≡ true → char_group c ≡ Name
in_names c b = rw (is_no_number c b, b) refl

letter_in_names : (c : ℕ) → is_letter c ≡ true → (is_name_start c || (c == 58)) ≡ true
letter_in_names c b = rw b refl

-- what stays of a form's beginnings where the rest of it plays no part
drop_false : (x : Bool) → (x || false) ≡ true → x ≡ true
drop_false true b = refl
drop_false false b = b

either : (x y : Bool) → ((x || false) || y) ≡ true → (x || y) ≡ true
either true y b = refl
either false y b = b

-- a character with which a terminal begins is of its group
begins_in_group : (k : TokenKind) (c : ℕ) → first (terminal k) c ≡ true → char_group c ≡ kind_group k
begins_in_group IriRef c b = one_char_or c 60 b
begins_in_group PnameNs c b = in_names c (either (is_name_start c) (c == 58) b)
begins_in_group PnameLn c b = in_names c (either (is_name_start c) (c == 58) (drop_false _ b))
begins_in_group BlankLabel c b = one_char_or c 95 (drop_false _ b)
begins_in_group LangTag c b = one_char_or c 64 b
begins_in_group Integer c b = in_numbers c (grind (arith, nat_tests))
begins_in_group Decimal c b = in_numbers c (grind (arith, nat_tests))
begins_in_group Double c b = in_numbers c (grind (arith, nat_tests))
begins_in_group StringQuote c b = one_char_or c 34 b
begins_in_group StringSingleQuote c b = one_char_or c 39 b
begins_in_group StringLongSingleQuote c b = one_char_or c 39 (drop_false _ b)
begins_in_group StringLongQuote c b = one_char_or c 34 (drop_false _ b)
begins_in_group WordA c b = one_char c 97 b
begins_in_group WordTrue c b = one_char_or c 116 b
begins_in_group WordFalse c b = one_char_or c 102 b
begins_in_group WordPrefix c b = in_names c (letter_in_names c (grind (arith, nat_tests)))
begins_in_group WordBase c b = in_names c (letter_in_names c (grind (arith, nat_tests)))
begins_in_group Carets c b = one_char_or c 94 b
begins_in_group Dot c b = one_char c 46 b
begins_in_group Semicolon c b = one_char c 59 b
begins_in_group Comma c b = one_char c 44 b
begins_in_group OpenSquare c b = one_char c 91 b
begins_in_group CloseSquare c b = one_char c 93 b
begins_in_group OpenRound c b = one_char c 40 b
begins_in_group CloseRound c b = one_char c 41 b
begins_in_group Anon c b = absurd (true≢false (sym b))
begins_in_group End c b = absurd (true≢false (sym b))

anon_in_group : (c : ℕ) (cs zs : List ℕ) → IsAnon (c ∷ cs) zs → char_group c ≡ Square
anon_in_group c cs zs t = ap char_group (ap (head_or 0) t.1)
  where
    head_or : ℕ → List ℕ → ℕ
    head_or n [] = n
    head_or n (x ∷ xs) = x

pub stands_in_group : (k : TokenKind) (c : ℕ) (cs zs : List ℕ) → Stands k (c ∷ cs) zs
    → kind_group k ≡ char_group c
stands_in_group Anon c cs zs t = sym (anon_in_group c cs zs t)
stands_in_group StringQuote c cs zs t =
    sym (begins_in_group StringQuote c (takes_begins (terminal StringQuote) c cs zs refl t.0))
stands_in_group StringSingleQuote c cs zs t =
    sym (begins_in_group StringSingleQuote c (takes_begins (terminal StringSingleQuote) c cs zs refl t.0))
stands_in_group k c cs zs t = sym (begins_in_group k c (takes_begins (terminal k) c cs zs refl t))

pub nothing_stands_at_end : (k : TokenKind) (zs : List ℕ) → Stands k [] zs → ⊥
nothing_stands_at_end Anon zs t = absurd (omega (arith, ap length t.1))
nothing_stands_at_end StringQuote zs t = (never_at_end (terminal StringQuote) refl).none zs t.0
nothing_stands_at_end StringSingleQuote zs t = (never_at_end (terminal StringSingleQuote) refl).none zs t.0
nothing_stands_at_end k zs t = (never_at_end (terminal k) refl).none zs t

pub none_at_end : (xs : List ℕ) → xs ≡ [] → IsNoToken xs
none_at_end xs e = record { none = λ k zs t. nothing_stands_at_end k zs (subst (λ v. Stands k v zs) e t) }

-- what is alone in its group is alone
pub alone : (c : ℕ) (cs : List ℕ) (group : Group) (kind : TokenKind) (ys : List ℕ) → char_group c ≡ group
    → IsTokenOf group (c ∷ cs) kind ys → IsToken (c ∷ cs) kind ys
alone c cs group kind ys here t = record {
  stands = t.stands;
  longest = λ k zs s. t.longest k zs (stands_in_group k c cs zs s ∙ here) s;
}

pub none_alone : (c : ℕ) (cs : List ℕ) (group : Group) → char_group c ≡ group → IsNoTokenOf group (c ∷ cs)
    → IsNoToken (c ∷ cs)
none_alone c cs group here t = record { none = λ k zs s. t.none k zs (stands_in_group k c cs zs s ∙ here) s }

-- a group's walk answers for all terminals, where the text begins with a character of the group
pub group_answer : {T : Type 0} (kind : T → TokenKind) (rest : T → List ℕ) {xs cs : List ℕ} {c : ℕ}
    {group : Group}
    (answer : Option T) → xs ≡ c ∷ cs → char_group c ≡ group
    → MatchOption answer (IsNoTokenOf group xs) (λ t. IsTokenOf group xs (kind t) (rest t))
    → MatchOption answer (IsNoToken xs) (λ t. IsToken xs (kind t) (rest t))
group_answer kind rest {xs = xs} {cs = cs} {c = c} {group = group} None begins here m =
    subst IsNoToken (sym begins) (none_alone c cs group here (subst (IsNoTokenOf group) begins m))
group_answer kind rest {xs = xs} {cs = cs} {c = c} {group = group} (Some t) begins here m =
    subst (λ v. IsToken v (kind t) (rest t)) (sym begins)
    (alone c cs group (kind t) (rest t) here (subst (λ v. IsTokenOf group v (kind t) (rest t)) begins m))

abbrev is_other : Group → Bool
is_other Other = true
is_other group = false

-- no terminal is of the group of the other characters
pub none_of_others : (xs cs : List ℕ) (c : ℕ) → xs ≡ c ∷ cs → char_group c ≡ Other → IsNoToken xs
none_of_others xs cs c begins here =
    subst IsNoToken (sym begins) (none_alone c cs Other here (record { none = λ k zs e s. others k e zs s }))
  where
    others : (k : TokenKind) → kind_group k ≡ Other → (zs : List ℕ) → Stands k (c ∷ cs) zs → ⊥
    others End e zs s = true≢false (sym s.0)
    others k e zs s = true≢false (sym (ap is_other e))
