use Rattle.graph_view.specs.Graph.{objects_of}
use Rattle.pair_components.proofs.PairLemmas.{missing_in_turn}
use Rattle.pair_components.proofs.equals.EqualsComponent.check.Goals as goal

pub returns-clause-rows : goal.returns-clause-rows
returns-clause-rows g c =
    missing_in_turn c.args.at c.args.values.now c.deref.result.now c.deref-2.result.now
    (objects_of (g.V.GraphView.graph c.args.view.now) c.args.at.focus c.args.self.now.value)
    c.args.out.now.items c.check_members.new.out.items c.check_members-2.new.out.items
    (rw c.in_ok-objects.ensures.objects at c.deref.ensures.value)
    (rw c.in_ok-objects.ensures.objects at c.deref-2.ensures.value) c.in_ok-check_members.ensures
    c.in_ok-check_members-2.ensures
