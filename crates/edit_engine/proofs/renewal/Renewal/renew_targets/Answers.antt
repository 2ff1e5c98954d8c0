use Rattle.std.proofs.Common.{◌<◌, length}
use Rattle.read_records.specs.declared.reader.Reader.TheVariants.{OfTarget}
use Rattle.edit_engine.proofs.RenewalLemmas.{RenewsTargets-more, RenewsTargets-none, RenewsTargets-same}
use Rattle.edit_engine.proofs.RenewalLemmas.{target_new, target_within, targets-pair, targets-target}
use Rattle.edit_engine.proofs.renewal.Renewal.renew_targets.Goals.{in_default}
use Rattle.edit_engine.proofs.renewal.Renewal.renew_targets.Goals.{in-OfTarget+in_ok-renew_target}
use Rattle.edit_engine.proofs.renewal.Renewal.renew_targets.Goals as goal

pub loop-reader-init : goal.loop-reader-init
loop-reader-init g c = record {
  targets = RenewsTargets-none c.requires.empty;
  evaluated = c.requires.empty.evaluated;
}

pub renew_target-requires-clause-shape : goal.renew_target-requires-clause-shape
renew_target-requires-clause-shape g c =
    target_within c.args.touched.now c.loop-reader.reader-index (OfTarget 0) c.loop-reader-test.true
    c.in-OfTarget.shape c.in-OfTarget.is (λ n. n < length c.args.plan.now.shapes.items) c.requires.within

pub loop-reader-preserved : goal.loop-reader-preserved
loop-reader-preserved g c =
    let readers = c.args.touched.now in
    let at = c.loop-reader.reader-index in
    let inside = c.loop-reader-test.true in
    let before = c.loop-reader.invariant in
    elim c.match-reader.branch [
      | in-OfTarget+in_ok-renew_target w ↦ rw w.self-is (record {
        targets = RenewsTargets-more
            (targets-target readers at (OfTarget 0) inside w.in-OfTarget.shape w.in-OfTarget.is)
            (target_new readers at (OfTarget 0) inside w.in-OfTarget.shape w.in-OfTarget.is c.requires.once)
            w.in_ok-renew_target.ensures.target before.targets;
        evaluated = rw w.in_ok-renew_target.ensures.evaluated before.evaluated;
      })
      | in_default w ↦ rw w.self-is (record {
        targets = RenewsTargets-same _ _
            (targets-pair readers at (OfTarget 0) inside w.in_default.field-0 w.in_default.is) before.targets;
        evaluated = before.evaluated;
      })
    ]
