-- Places in a list of distinct numbers, and the declaration that a loop is at.
use Rattle.std.specs.Prelude.{◌≡◌, ℕ, ◌<◌, ◌≤◌, nat_eq, List, length, map, take, slice_get, Some, Contains}
use Rattle.std.specs.List.{IsDistinct}
use Rattle.std.proofs.Common.{sym, ap, ◌∙◌, arith, get_or}
use Rattle.std.proofs.lemmas.Option.{get_or_from_slice_get, slice_get_within}
use Rattle.shape_decl.specs.Declarations.{told_decl}
use Rattle.shape_decl.specs.declared.declaration.ShapeDecl.{ShapeDecl}
use Rattle.shape_order.proofs.OrderLemmas.{taken}
use Rattle.shape_refs.proofs.NodeLemmas.{one_place}
use Rattle.shape_refs.proofs.PlaceLemmas.{told_at}

pub Contains-place : {X : Type 0} (xs : List X) (i : ℕ) (x : X) → slice_get xs i ≡ Some x → Contains xs x
Contains-place xs i x e = (i, slice_get_within xs i x e, get_or_from_slice_get xs i x x e)

-- the item of a loop, as it is told
pub told_item : (decls : List ShapeDecl) (i : ℕ) (item : ShapeDecl) → i < length decls
    → item ≡ get_or decls i item → slice_get (map told_decl decls) i ≡ Some (told_decl item)
told_item decls i item inside is =
    told_at decls i item inside ∙ ap (λ d. Some (told_decl d)) (sym is)

-- where a number stands among the first ones, its place is one of theirs
pub place_before : (xs : List ℕ) → IsDistinct nat_eq xs → (i j x : ℕ) → i ≤ length xs
    → Contains (take i xs) x → slice_get xs j ≡ Some x → j < i
place_before xs distinct i j x far c e =
    let at = taken xs i x far c in
    let low : at.0 < i = at.1 in
    let same : at.0 ≡ j =
    one_place xs distinct x at.0 j (record { within = omega arith; is = at.2 })
    (record { within = slice_get_within xs j x e; is = get_or_from_slice_get xs j x 0 e }) in
    omega arith
