use Rattle.std.proofs.Common.{refl, subst, sym, ◌∙◌, ap, length}
use Rattle.shape_eval.specs.Planned.{plan_of}
use Rattle.edit_engine.specs.EngineState.{EngineState}
use Rattle.edit_engine.specs.MayBeAsked.{MayBeAsked}
use Rattle.edit_engine.proofs.RememberedLemmas.{adopts_told}
use Rattle.edit_engine.proofs.SettledLemmas.{IsSettled-all}
use Rattle.edit_engine.proofs.engine.Engine.adopt.Goals as goal

pub invariant_of-self : goal.invariant_of-self
invariant_of-self g c =
    let plan = plan_of c.args.plan in
    let asked = subst (λ (state : EngineState). MayBeAsked plan state.graph) (sym c.self.view_is)
    c.requires.asked in
    let held = c.in_ok-adopted.ensures.kept in (
      asked,
      held,
      IsSettled-all plan (g.V.GraphView.graph c.self.inside.view) c.in_ok-adopted.adopted.kept
          c.pool.result.now.terms c.len-self-inside.result asked held c.pool.ensures.terms
          c.len-self-inside.ensures.vocabulary c.len-self-inside.ensures.count,
    )

pub returns-clause-adopted : goal.returns-clause-adopted
returns-clause-adopted g c =
    let done = c.in_ok-adopted.ensures in
    adopts_told _ c.args.self.now c.self.view_is c.self.inside.kept.recall
    c.in_ok-adopted.adopted.kept.recall refl (plan_of c.args.plan) c.args.alikes.now
    c.in_ok-adopted.adopted.evaluated c.len-self-inside.result c.args.nested.now c.adopted_by.new.nested
    done.evaluated done.nested (c.len-self-inside.ensures.count ∙ ap length c.pool.ensures.terms)
