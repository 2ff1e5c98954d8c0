-- Which pairs a change of a graph touches: those that are to be evaluated anew.
use Rattle.std.specs.Prelude.{Bool, not, ◌||◌, List, filter}
use Rattle.std.specs.List.{list_any}
use Rattle.shx_term.specs.declared.triple.Triple.{Triple}
use Rattle.graph_view.specs.declared.key.Key.{Key}
use Rattle.graph_view.specs.Graph.{Graph}
use Rattle.graph_view.specs.Key.{is_touching}
use Rattle.comp_core.specs.declared.pair.Pair.{Pair}
use Rattle.comp_core.specs.Pairs.{same_pair}
use Rattle.shape_eval.specs.Plan.{Planned}
use Rattle.shape_eval.specs.Report.{pairs}
use Rattle.shape_eval.specs.Results.{pair_reads}

-- one of the triples touches one of the keys
abbrev pub is_any_touched : List Triple → List Key → Bool
is_any_touched changed keys = list_any (λ t. list_any (is_touching t) keys) changed

abbrev pub is_among_pairs : List Pair → Pair → Bool
is_among_pairs all p = list_any (same_pair p) all

-- the pairs of the new graph that were none in the old one, or of whose reads there a changed triple touches
-- one
abbrev pub touched_pairs : Planned → Graph → Graph → List Triple → List Pair
touched_pairs plan old new changed =
    filter (λ p. not (is_among_pairs (pairs plan old) p)
    || is_any_touched changed (pair_reads plan.shapes old p))
    (pairs plan new)
