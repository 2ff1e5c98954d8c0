use Rattle.edit_engine.specs.inner.Told.{is_only_in}
use Rattle.shape_eval.specs.Targets.{target_reads, targets_of}
use Rattle.shx_term.specs.Members.{SameMembers}
use Rattle.graph_view.specs.declared.key.Key.{Key}
use Rattle.std.specs.Prelude.{List, ◌++◌, slice_get}
use Rattle.edit_engine.proofs.ToldLemmas.{IsDifference-entering, IsDifference-leaving, SameBeside-patched}
use Rattle.edit_engine.proofs.ToldLemmas.{gone_over, listed_at, match_weaker, SameMembers-reads_told}
use Rattle.edit_engine.proofs.ToldLemmas.{NoneChanges-both}
use Rattle.edit_engine.proofs.target_change.target_change.Goals as goal

pub returns-clause-entering : goal.returns-clause-entering
returns-clause-entering g c =
    let before = g.V.GraphView.graph c.args.before.now in
    let after = g.W.GraphView.graph c.args.after.now in
    let shapes = c.args.plan.now.shapes.items in
    let n = c.args.shape in
    let changed = c.args.added.now ++ c.args.removed.now in
    let told = c.in_ok-told.told.items in
    IsDifference-entering before after c.pool.ensures.known c.pool-2.ensures.known
    (SameBeside-patched before after c.args.added.now c.args.removed.now c.requires.patched) shapes n told
    c.loop-node.entering.items
    (listed_at before shapes n c.shape.result.now c.deref.result.now changed told c.shape.ensures
    c.deref.ensures.value c.in_ok-told.ensures)
    (gone_over (is_only_in after before (targets_of (slice_get shapes n))) c.loop-node.entering.items
    c.deref-node-items.result.now told c.loop-node.node-index c.loop-node.invariant.entering
    c.deref-node-items.ensures.value c.loop-node-test.false)

pub returns-clause-leaving : goal.returns-clause-leaving
returns-clause-leaving g c =
    let before = g.V.GraphView.graph c.args.before.now in
    let after = g.W.GraphView.graph c.args.after.now in
    let shapes = c.args.plan.now.shapes.items in
    let n = c.args.shape in
    let changed = c.args.added.now ++ c.args.removed.now in
    let told = c.in_ok-told.told.items in
    IsDifference-leaving before after c.pool.ensures.known c.pool-2.ensures.known
    (SameBeside-patched before after c.args.added.now c.args.removed.now c.requires.patched) shapes n told
    c.loop-node.leaving.items
    (listed_at before shapes n c.shape.result.now c.deref.result.now changed told c.shape.ensures
    c.deref.ensures.value c.in_ok-told.ensures)
    (gone_over (is_only_in before after (targets_of (slice_get shapes n))) c.loop-node.leaving.items
    c.deref-node-items.result.now told c.loop-node.node-index c.loop-node.invariant.leaving
    c.deref-node-items.ensures.value c.loop-node-test.false)

pub returns-clause-reads : goal.returns-clause-reads
returns-clause-reads g c =
    let before = g.V.GraphView.graph c.args.before.now in
    let after = g.W.GraphView.graph c.args.after.now in
    let added = c.args.added.now in
    let removed = c.args.removed.now in
    let shapes = c.args.plan.now.shapes.items in
    match_weaker (λ (keys : List Key). SameMembers keys (target_reads shapes after c.args.shape))
    c.in_ok-reads.reads
    (λ none. SameMembers-reads_told before after c.pool.ensures.known c.pool-2.ensures.known
    (NoneChanges-both added removed none) (SameBeside-patched before after added removed c.requires.patched)
    shapes c.args.shape) c.in_ok-reads.ensures
