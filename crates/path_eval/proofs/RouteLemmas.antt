-- What a sequence and an alternative say, by the lists of their parts.
use Rattle.std.specs.Prelude.{◌≡◌, map}
use Rattle.std.proofs.Common.{Vec, Global, refl, ap, ◌∙◌}
use mathlib.Core.Former.{Count}
use Rattle.path_eval.specs.declared.path.Path.{Path, Row_of-Path, end_of-Path, more_of-Path, Seq', Alt'}
use Rattle.path_eval.specs.declared.path.Path.{items-the_row-Path, items_hidden-the_row-Path-0}
use Rattle.path_eval.specs.declared.path.Path.TheViews.{Seq, Alt}
use Rattle.path_eval.specs.Route.{first_then, one_or_other, sequence, alternative}
use Rattle.path_eval.specs.Route.{route_of, in_sequence, among}

abbrev row_of : Path → (n : Count) × Row_of-Path n
row_of (Seq' _ row) = (_, row)
row_of (Alt' _ row) = (_, row)
row_of _ = (_, end_of-Path)

sequence_items : (n : _) (row : Row_of-Path n)
    → in_sequence row ≡ sequence (map route_of (items-the_row-Path n row))
sequence_items n end_of-Path = refl
sequence_items n (more_of-Path p rest) = ap (first_then (route_of p)) (sequence_items _ rest)

alternative_items : (n : _) (row : Row_of-Path n)
    → among row ≡ alternative (map route_of (items-the_row-Path n row))
alternative_items n end_of-Path = refl
alternative_items n (more_of-Path p rest) = ap (one_or_other (route_of p)) (alternative_items _ rest)

pub route_Seq : (parts : Vec Path Global) → route_of (Seq parts) ≡ sequence (map route_of parts.items)
route_Seq parts =
    let row = row_of (Seq parts) in
    sequence_items row.0 row.1
    ∙ ap (λ paths. sequence (map route_of paths)) (items_hidden-the_row-Path-0 parts)

pub route_Alt : (members : Vec Path Global)
    → route_of (Alt members) ≡ alternative (map route_of members.items)
route_Alt members =
    let row = row_of (Alt members) in
    alternative_items row.0 row.1
    ∙ ap (λ paths. alternative (map route_of paths)) (items_hidden-the_row-Path-0 members)
