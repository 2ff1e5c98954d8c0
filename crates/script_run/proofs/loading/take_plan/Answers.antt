use Rattle.std.proofs.Common.{subst}
use Rattle.shape_eval.specs.Plan.{Planned}
use Rattle.shape_eval.specs.Planned.{plan_of}
use Rattle.plan_swap.specs.Alike.{AreAlikes}
use Rattle.script_run.proofs.ObeysLemmas.{MovesOn-answered}
use Rattle.script_run.proofs.TakenShapesLemmas.{MovesOn-taken, TakesPlan-adopted}
use Rattle.script_run.proofs.loading.take_plan.Goals as goal

pub adopt-requires : goal.adopt-requires
adopt-requires g c = record {
  asked = c.requires.asked;
  alikes = subst (λ (p : Planned). AreAlikes p.shapes (plan_of c.args.plan).shapes c.in_ok-alikes.alikes)
      c.plan.ensures c.in_ok-alikes.ensures;
}

pub returns-clause-taken : goal.returns-clause-taken
returns-clause-taken g c = λ manner s is.
    let script = c.args.script.now in
    let plan = plan_of c.args.plan in
    let law = c.same_graphs_answer_alike.ensures in
    let asked = c.view.ensures.asked in
    let alike = subst (λ (p : Planned). AreAlikes p.shapes plan.shapes c.in_ok-alikes.alikes) c.plan.ensures
    c.in_ok-alikes.ensures in
    rw (c.said.ensures.reply, c.said.ensures.counted)
    (TakesPlan-adopted script plan c.in_ok-alikes.alikes c.in_ok-evaluated.evaluated c.adopt.new.self
    c.args.nested.now c.adopt.new.nested c.in_ok-evaluated.ensures.adopted manner s is c.args.steps.now
    c.adopt.new.steps c.in_ok-evaluated.ensures.steps
    (law.pairs script.engine.plan s.graph script.engine.graph is.stores asked)
    (law.pairs plan s.graph script.engine.graph is.stores c.requires.asked)
    (law.nested plan s.graph script.engine.graph is.stores c.requires.asked) alike)

pub returns-clause-moves : goal.returns-clause-moves
returns-clause-moves g c =
    let script = c.args.script.now in
    let plan = plan_of c.args.plan in
    rw (c.said.ensures.reply, c.said.ensures.counted)
    (MovesOn-answered _ script _ _ _
    (MovesOn-taken script plan c.in_ok-alikes.alikes c.in_ok-evaluated.evaluated c.adopt.new.self
    c.args.nested.now c.adopt.new.nested c.in_ok-evaluated.ensures.adopted c.args.steps.now c.adopt.new.steps
    c.in_ok-evaluated.ensures.steps c.requires.goes_on))
