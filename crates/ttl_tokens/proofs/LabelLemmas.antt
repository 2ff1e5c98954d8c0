-- The label of a blank node: how far it reaches; no other terminal of its group stands there.
use Rattle.std.proofs.Common.{◌≡◌, ℕ, codes, ◌<◌, List, length, refl, ◌⊎◌, inl, inr}
use Rattle.ttl_tokens.specs.declared.group.Group.TheVariants.{Underscore}
use Rattle.ttl_tokens.specs.declared.token.TokenKind.{TokenKind}
use Rattle.ttl_tokens.specs.declared.token.TokenKind.TheVariants.{BlankLabel}
use Rattle.ttl_tokens.specs.Form.{Then}
use Rattle.ttl_tokens.specs.Walks.{Never, Only, Same}
use Rattle.ttl_tokens.specs.Chars.{Longest, PastChar, word}
use Rattle.ttl_tokens.specs.Terminals.{blank_label}
use Rattle.ttl_tokens.specs.Tokens.{Stands}
use Rattle.ttl_tokens.specs.inner.Groups.{kind_group, IsTokenOf, IsNoTokenOf}
use Rattle.ttl_tokens.specs.inner.NameForms.{label_start, name_tail}
use Rattle.ttl_tokens.proofs.FormLemmas.{same_trans, same_never, then_same, then_never}
use Rattle.ttl_tokens.proofs.CharLemmas.{same_longest}
use Rattle.ttl_tokens.proofs.RestLemmas.{longest_other}

only_label : (P : TokenKind → Type 0) → P BlankLabel → (k : TokenKind) → kind_group k ≡ Underscore → P k
only_label P p BlankLabel e = p
only_label P p k e = absurd cc

label_token : {xs ys : List ℕ} → Longest blank_label xs ys → IsTokenOf Underscore xs BlankLabel ys
label_token {xs = xs} {ys = ys} found = record {
  stands = found.takes;
  longest = λ k zs e. only_label
      (λ k. Stands k xs zs → ((k ≡ BlankLabel) × (zs ≡ ys)) ⊎ (length ys < length zs))
      (λ t. other zs (longest_other found zs t)) k e;
}
  where
    other : (zs : List ℕ) → (zs ≡ ys) ⊎ (length ys < length zs)
        → ((BlankLabel ≡ BlankLabel) × (zs ≡ ys)) ⊎ (length ys < length zs)
    other zs (inl e) = inl (refl, e)
    other zs (inr less) = inr less

no_label : {xs : List ℕ} → Never PastChar blank_label xs → IsNoTokenOf Underscore xs
no_label {xs = xs} never = record {
  none = λ k zs e. only_label (λ k. Stands k xs zs → ⊥) (λ t. never.none zs t) k e;
}

label_same : {xs m : List ℕ} → Only PastChar (word (codes "_:")) xs m
    → Same PastChar blank_label xs (Then label_start name_tail) m
label_same mark = then_same mark

pub label_found : {xs m d ys : List ℕ} → Only PastChar (word (codes "_:")) xs m
    → Only PastChar label_start m d
    → Longest name_tail d ys → IsTokenOf Underscore xs BlankLabel ys
label_found mark start tail = label_token (same_longest (same_trans (label_same mark) (then_same start)) tail)

pub label_not_begun : {xs m : List ℕ} → Only PastChar (word (codes "_:")) xs m → Never PastChar label_start m
    → IsNoTokenOf Underscore xs
label_not_begun mark never = no_label (same_never (label_same mark) (then_never never))

pub label_not_marked : {xs : List ℕ} → Never PastChar (word (codes "_:")) xs → IsNoTokenOf Underscore xs
label_not_marked never = no_label (then_never never)
