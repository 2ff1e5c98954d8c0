-- What is read for a pair itself: parts of the graph, and what was found of the pairs that it asks.
use Rattle.std.specs.Prelude.{List, [], ◌∷◌, slice_get, if◌then◌else◌}
use Rattle.graph_view.specs.declared.key.Key.{Key}
use Rattle.graph_view.specs.Graph.{Graph}
use Rattle.comp_core.specs.declared.pair.Pair.{Pair}
use Rattle.comp_core.specs.Pairs.{answer_key}
use Rattle.shape_eval.specs.declared.shape.PlanShape.{PlanShape}
use Rattle.shape_eval.specs.Nested.{is_evaluated_at}
use Rattle.shape_eval.specs.Results.{shape_reads}

-- of a pair that is asked the key of what was found of it, where its shape is evaluated
abbrev pub asked_key : List PlanShape → Pair → List Key
asked_key shapes d = if is_evaluated_at shapes d then answer_key d ∷ [] else []

abbrev pub own_reads : List PlanShape → Graph → Pair → List Key
own_reads shapes g p = shape_reads g (asked_key shapes) (slice_get shapes p.shape) p
