use Rattle.std.proofs.lemmas.List.{take_all}
use Rattle.std.specs.Prelude.{flat_map}
use Rattle.shx_term.proofs.SetLemmas.{Adds-same, Adds-take_more, Adds-then}
use Rattle.path_eval.specs.declared.direction.Direction.TheVariants.{Forward}
use Rattle.path_eval.specs.Values.{nodes_reached, path_reads}
use Rattle.edit_engine.specs.inner.Told.{subclass_route}
use Rattle.edit_engine.proofs.TargetReadLemmas.{class_reads, type_keys}
use Rattle.edit_engine.proofs.target_reads.add_class_reads.Goals as goal

pub loop-subclass-preserved : goal.loop-subclass-preserved
loop-subclass-preserved g c =
    Adds-take_more type_keys c.deref-subclass-items.result.now c.loop-subclass.subclass-index 0
    c.loop-subclass-test.true c.loop-subclass.invariant c.in_ok-add.ensures.added

pub returns : goal.returns
returns g c =
    let view = g.V.GraphView.graph c.args.view.now in
    let class = c.args.class in
    let items = c.deref-subclass-items.result.now in
    let found = c.in_ok-values.ensures in
    let reads = rw c.requires.below at found.reads in
    let all = take_all c.loop-subclass.subclass-index items c.loop-subclass-test.false in
    Adds-same _ _ (class_reads view class)
    (Adds-then (path_reads view Forward subclass_route class)
    (flat_map type_keys (nodes_reached view Forward subclass_route class)) reads
    (rw (all, c.deref-subclass-items.ensures.value, found.values, c.requires.below)
    at c.loop-subclass.invariant))
