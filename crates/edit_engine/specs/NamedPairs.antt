-- Pairs by the terms of their shape and their node.
use Rattle.std.specs.Prelude.{List, Option, Some, None, if◌then◌else◌}
use Rattle.std.specs.Option.{option_and_then, option_map}
use Rattle.shx_term.specs.declared.term.Term.{Term}
use Rattle.shx_term.specs.TripleTerms.{number_in}
use Rattle.graph_view.specs.Graph.{Graph}
use Rattle.comp_core.specs.declared.pair.Pair.{Pair}
use Rattle.shape_eval.specs.Plan.{Planned, number_of}
use Rattle.shape_eval.specs.Report.{at_shape, pairs}
use Rattle.edit_engine.specs.Touched.{is_among_pairs}

-- the shape that one term is, at the node that the other is
abbrev pub named_pair : Planned → List Term → Term → Term → Option Pair
named_pair plan terms shape node =
    option_and_then (λ n. option_map (at_shape n) (number_in terms node))
    (option_and_then (number_of plan.shapes) (number_in terms shape))

-- where it is a pair of the graph
abbrev pub pair_in : Planned → Graph → Term → Term → Option Pair
pair_in plan g shape node =
    option_and_then (λ p. if is_among_pairs (pairs plan g) p then Some p else None)
    (named_pair plan g.terms shape node)
