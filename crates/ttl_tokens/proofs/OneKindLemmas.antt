-- Groups of one kind.
use Rattle.std.proofs.Common.{◌≡◌, ℕ, ◌<◌, List, length, refl, sym, ◌⊎◌, inl, inr}
use Rattle.ttl_tokens.specs.declared.group.Group.{Group}
use Rattle.ttl_tokens.specs.declared.token.TokenKind.{TokenKind}
use Rattle.ttl_tokens.specs.Form.{Empty, Takes}
use Rattle.ttl_tokens.specs.Walks.{Never}
use Rattle.ttl_tokens.specs.Chars.{Chars, PastChar}
use Rattle.ttl_tokens.specs.inner.Leaves.{Leaves}
use Rattle.ttl_tokens.specs.Tokens.{Stands}
use Rattle.ttl_tokens.specs.inner.Groups.{kind_group, IsTokenOf, IsNoTokenOf}

-- the group has this kind alone, and the kind this form
pub record IsOneKind (group : Group) (kind : TokenKind) (f : Chars) : Type 0 where
  pub stands : (xs ys : List ℕ) → Takes PastChar f xs ys → Stands kind xs ys
  pub only : (k : TokenKind) (xs ys : List ℕ) → kind_group k ≡ group → Stands k xs ys
      → (k ≡ kind) × Takes PastChar f xs ys

pub one_kind_token : {group : Group} {kind : TokenKind} {f : Chars} {xs ys : List ℕ} → IsOneKind group kind f
    → Leaves f xs Empty ys → IsTokenOf group xs kind ys
one_kind_token {group = group} {kind = kind} {f = f} {xs = xs} {ys = ys} one l = record {
  stands = one.stands xs ys (l.back ys refl);
  longest = λ k zs g s. longest k zs (one.only k xs zs g s);
}
  where
    either : (k : TokenKind) (zs : List ℕ) → k ≡ kind → (ys ≡ zs) ⊎ (length ys < length zs)
        → ((k ≡ kind) × (zs ≡ ys)) ⊎ (length ys < length zs)
    either k zs e (inl same) = inl (e, sym same)
    either k zs e (inr less) = inr less

    longest : (k : TokenKind) (zs : List ℕ) → (k ≡ kind) × Takes PastChar f xs zs
        → ((k ≡ kind) × (zs ≡ ys)) ⊎ (length ys < length zs)
    longest k zs t = either k zs t.0 (l.on zs t.1)

pub one_kind_none : {group : Group} {kind : TokenKind} {f : Chars} {xs : List ℕ} → IsOneKind group kind f
    → Never PastChar f xs → IsNoTokenOf group xs
one_kind_none {xs = xs} one n = record { none = λ k zs g s. n.none zs (one.only k xs zs g s).1 }
