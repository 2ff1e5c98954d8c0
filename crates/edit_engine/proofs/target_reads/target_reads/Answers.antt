use Rattle.std.proofs.Common.{◌≡◌, ◌∙◌, ap, sym, take_all}
use Rattle.std.specs.Prelude.{flat_map, slice_get}
use Rattle.shape_eval.specs.declared.target.Target.TheVariants as target
use Rattle.shape_eval.specs.Targets.{reads_of_target, targets_of}
use Rattle.shx_term.proofs.SetLemmas.{Adds-take_more}
use Rattle.edit_engine.proofs.TargetChangeLemmas.{SameMembers-from_nothing}
use Rattle.edit_engine.proofs.target_reads.target_reads.Goals as goal

pub loop-target-preserved : goal.loop-target-preserved
loop-target-preserved g c =
    Adds-take_more (reads_of_target (g.V.GraphView.graph c.args.view.now)) c.deref-target-items.result.now
    c.loop-target.target-index (target.Node 0) c.loop-target-test.true c.loop-target.invariant
    c.in_ok-add_reads.ensures

pub returns : goal.returns
returns g c =
    let view = g.V.GraphView.graph c.args.view.now in
    let items = c.deref-target-items.result.now in
    let shape = slice_get c.args.plan.now.shapes.items c.args.shape in
    let stated = targets_of shape in
    let all = take_all c.loop-target.target-index items c.loop-target-test.false in
    let same : items ≡ stated =
    c.deref-target-items.ensures.value ∙ sym (ap targets_of {x = shape} c.shape.ensures) in
    rw c.pack.ensures
    (SameMembers-from_nothing (flat_map (reads_of_target view) stated) c.new-reads.ensures
    (rw (all, same) at c.loop-target.invariant))
