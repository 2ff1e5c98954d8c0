-- Slices: the triples of a graph that touch some keys, and that those suffice which touch what was read.
use Rattle.std.specs.Prelude.{◌<◌, List, filter, length}
use Rattle.std.specs.List.{list_any}
use Rattle.shx_term.specs.declared.triple.Triple.{Triple}
use Rattle.shx_term.specs.TripleOrder.{in_triple_order}
use Rattle.graph_view.specs.declared.key.Key.{Key}
use Rattle.graph_view.specs.Graph.{AllKnown, Graph}
use Rattle.graph_view.specs.Key.{is_touching}
use Rattle.comp_core.specs.declared.pair.Pair.{Pair}
use Rattle.shape_eval.specs.declared.shape.PlanShape.{PlanShape}
use Rattle.shape_eval.specs.Laws.{IsSamePair}
use Rattle.shape_eval.specs.Plan.{IsKnownPlan, RefersLower}
use Rattle.shape_eval.specs.Results.{pair_reads}

-- the triples of the graph that touch one of the keys, in the order of triples, none of them twice
abbrev pub slice_triples : Graph → List Key → List Triple
slice_triples g keys = in_triple_order g.terms (filter (λ t. list_any (is_touching t) keys) g.triples)

-- these triples alone, over the same terms
abbrev pub slice_graph : Graph → List Key → Graph
slice_graph g keys = record { terms = g.terms; triples = slice_triples g keys }

-- where a plan is asked of the slice by what was read for a pair, the pair has the same results there, and
-- the same is read for it
abbrev pub SlicesSuffice : Type 0
SlicesSuffice =
    (shapes : List PlanShape) → RefersLower shapes → (g : Graph) → AllKnown g → IsKnownPlan g.terms shapes
    → (p : Pair) → p.node < length g.terms → IsSamePair shapes g (slice_graph g (pair_reads shapes g p)) p
