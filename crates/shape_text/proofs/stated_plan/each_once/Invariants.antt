use Rattle.std.specs.Prelude.{◌≡◌, take}
use Rattle.graph_view.specs.Graph.{first_places}
use Rattle.shape_text.proofs.stated_plan.each_once.Given as goal

abbrev pub invariant-loop-t : goal.invariant-loop-t
invariant-loop-t l = l.once.keys ≡ first_places (take l.t-index l.triples)
