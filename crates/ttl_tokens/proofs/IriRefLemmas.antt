-- How an IRI reference goes on, and that it is the only terminal of its group.
use Rattle.std.proofs.Common.{◌≡◌, ℕ, true, false, ◌||◌, ◌==◌, List, ◌∷◌, refl, sym, inl, arith}
use Rattle.std.proofs.lemmas.Bool.Decides.{nat_tests}
use Rattle.std.specs.Prelude.{codes}
use Rattle.ttl_tokens.specs.declared.group.Group.TheVariants.{Angle}
use Rattle.ttl_tokens.specs.declared.token.TokenKind.{TokenKind}
use Rattle.ttl_tokens.specs.declared.token.TokenKind.TheVariants.{IriRef}
use Rattle.ttl_tokens.specs.Form.{Takes}
use Rattle.ttl_tokens.specs.Walks.{Never, Only, Same, Apart, Greedy}
use Rattle.ttl_tokens.specs.Chars.{Chars, PastChar, word}
use Rattle.ttl_tokens.specs.Terminals.{iri_ref, is_iri_char, uchar}
use Rattle.ttl_tokens.specs.inner.IriRefForms.{iri_item}
use Rattle.ttl_tokens.specs.inner.Groups.{IsNoTokenOf, IsTokenOf, kind_group}
use Rattle.ttl_tokens.specs.Tokens.{Stands}
use Rattle.ttl_tokens.proofs.FormLemmas.{same_trans, then_same, many_same, right_same}
use Rattle.ttl_tokens.proofs.CharLemmas.{apart_begins, char_never}
use Rattle.ttl_tokens.proofs.EscapeLemmas.{begins_uchar}

-- ---- the walk

abbrev open_angle : Chars
open_angle = word (codes "<")

abbrev close_angle : Chars
close_angle = word (codes ">")

pub item_escaped : {xs cs : List ℕ} {c : ℕ} → xs ≡ c ∷ cs → is_iri_char c ≡ false
    → Same PastChar iri_item xs uchar xs
item_escaped e f = right_same (char_never {p = is_iri_char} e f)

item_close : Apart PastChar iri_item close_angle
item_close = apart_begins iri_item close_angle refl refl (λ c h. other c h)
  where
    other : (c : ℕ) → (is_iri_char c || begins_uchar c) ≡ true → (c == 62) ≡ false
    other c h = grind (arith, nat_tests)

pub behind_items : {xs ms ys : List ℕ} → Only PastChar open_angle xs ms → Greedy PastChar iri_item ms ys
    → Same PastChar iri_ref xs close_angle ys
behind_items o g = same_trans (then_same o) (many_same item_close g)

-- ---- the token

-- the group has this kind alone
angle_kind : (xs : List ℕ) (k : TokenKind) (ys : List ℕ) → kind_group k ≡ Angle → Stands k xs ys
    → (k ≡ IriRef) × Takes PastChar iri_ref xs ys
angle_kind xs IriRef ys e t = (refl, t)
angle_kind xs k ys e t = absurd (cc)

pub iri_found : {xs ys : List ℕ} → Only PastChar iri_ref xs ys → IsTokenOf Angle xs IriRef ys
iri_found {xs = xs} o = record {
  stands = o.takes;
  longest = λ k zs e t. let this = angle_kind xs k zs e t in inl (this.0, sym (o.only zs this.1));
}

pub iri_missing : {xs : List ℕ} → Never PastChar iri_ref xs → IsNoTokenOf Angle xs
iri_missing {xs = xs} n = record { none = λ k zs e t. n.none zs (angle_kind xs k zs e t).1 }
