use Rattle.shape_eval.specs.Planned.{plan_of}
use Rattle.edit_engine.proofs.SettledLemmas.{is_whole_entered}
use Rattle.edit_engine.proofs.engine.Engine.enter.Goals as goal

pub invariant_of-self : goal.invariant_of-self
invariant_of-self g c =
    let law = c.changes_rest_on.ensures in
    let entered = c.enter.ensures in
    is_whole_entered (plan_of c.self.inside.plan) (g.V.GraphView.graph c.self.inside.view)
    (g.V.GraphView.graph c.enter.new.self) c.self.inside.kept c.self.inside.settled c.args.term.now
    c.enter.result c.self.invariant c.requires entered.entered entered.triples entered.refused law.results
    law.targets law.nested c.reads_are_own_or_below.ensures.depend
