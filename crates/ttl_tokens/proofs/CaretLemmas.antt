-- `^^`
use Rattle.std.proofs.Common.{◌≡◌, ◌==◌, ℕ, List, refl, codes}
use Rattle.ttl_tokens.specs.declared.group.Group.TheVariants.{Caret}
use Rattle.ttl_tokens.specs.declared.token.TokenKind.{TokenKind}
use Rattle.ttl_tokens.specs.declared.token.TokenKind.TheVariants.{Carets}
use Rattle.ttl_tokens.specs.Form.{Item, Takes}
use Rattle.ttl_tokens.specs.Walks.{Never, Only}
use Rattle.ttl_tokens.specs.Chars.{Chars, PastChar, word}
use Rattle.ttl_tokens.specs.Tokens.{Stands}
use Rattle.ttl_tokens.specs.inner.Groups.{kind_group, IsTokenOf, IsNoTokenOf}
use Rattle.ttl_tokens.proofs.FormLemmas.{then_same, then_never, same_only, same_never}
use Rattle.ttl_tokens.proofs.LeavesLemmas.{only_leaves}
use Rattle.ttl_tokens.proofs.OneKindLemmas.{IsOneKind, one_kind_token, one_kind_none}

abbrev pub caret : Chars
caret = Item (λ c. c == 94)

only_carets : (k : TokenKind) (xs ys : List ℕ) → kind_group k ≡ Caret → Stands k xs ys
    → (k ≡ Carets) × Takes PastChar (word (codes "^^")) xs ys
only_carets Carets xs ys g s = (refl, s)
only_carets k xs ys g s = absurd (cc)

one_kind : IsOneKind Caret Carets (word (codes "^^"))
one_kind = record { stands = λ xs ys t. t; only = only_carets }

pub carets_found : {xs m ys : List ℕ} → Only PastChar caret xs m → Only PastChar caret m ys
    → IsTokenOf Caret xs Carets ys
carets_found o p = one_kind_token one_kind (only_leaves (same_only (then_same o) p))

pub no_caret : {xs : List ℕ} → Never PastChar caret xs → IsNoTokenOf Caret xs
no_caret n = one_kind_none one_kind (then_never n)

pub one_caret : {xs m : List ℕ} → Only PastChar caret xs m → Never PastChar caret m → IsNoTokenOf Caret xs
one_caret o n = one_kind_none one_kind (same_never (then_same o) n)
