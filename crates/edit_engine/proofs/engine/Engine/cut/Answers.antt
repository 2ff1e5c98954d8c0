use Rattle.std.proofs.Common.{subst, sym, ◌≤◌}
use Rattle.shape_eval.specs.Planned.{plan_of}
use Rattle.edit_engine.specs.EngineState.{EngineState}
use Rattle.edit_engine.proofs.SettledLemmas.{is_whole_cut}
use Rattle.edit_engine.proofs.engine.Engine.cut.Goals as goal

pub invariant_of-self : goal.invariant_of-self
invariant_of-self g c =
    let law = c.changes_rest_on.ensures in
    let own = c.reads_are_own_or_below.ensures.depend in
    let le = subst (λ (state : EngineState). state.settled ≤ c.args.len) (sym c.self.view_is)
    c.requires.settled in
    is_whole_cut (plan_of c.self.inside.plan) (g.V.GraphView.graph c.self.inside.view) c.self.inside.kept
    c.self.inside.settled c.args.len c.self.invariant le law.results law.targets law.nested own
    (g.V.GraphView.graph c.cut.new.self) c.cut.ensures.terms c.cut.ensures.triples
