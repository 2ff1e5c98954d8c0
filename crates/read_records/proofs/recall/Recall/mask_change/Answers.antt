use Rattle.std.specs.Prelude.{◌++◌, Contains, ◌↔◌}
use Rattle.std.proofs.Common.{refl}
use Rattle.comp_core.specs.declared.pair.Pair.{Pair}
use Rattle.read_records.proofs.GainLemmas.{AreReaders-all, AreReaders-more}
use Rattle.read_records.proofs.RecallLemmas.{KeepsSame-noted, MasksAtMost-among, MasksReached-among}
use Rattle.read_records.specs.Recall.{IsReached}
use Rattle.read_records.specs.declared.reader.Reader.TheVariants.{OfPair}
use Rattle.read_records.specs.inner.Remembered.{as_recalled}
use Rattle.read_records.proofs.recall.Recall.mask_change.Goals.{After-mask}
use Rattle.read_records.proofs.recall.Recall.mask_change.Goals as goal

pub loop-pair-init : goal.loop-pair-init
loop-pair-init c = rw c.in_ok-readers.ensures.items (record { is = refl })

pub loop-pair-preserved : goal.loop-pair-preserved
loop-pair-preserved c =
    rw c.in_ok-push.ensures.items (AreReaders-more c.in-Some.ensures.steps c.loop-pair.invariant)

-- whom is masked
readers : (c : After-mask) → (p : Pair) → Contains c.deref.result.now (OfPair p)
    ↔ IsReached (as_recalled c.self.inside.store) (c.args.added.now ++ c.args.removed.now) p
readers c =
    rw (c.deref.ensures.value)
    (AreReaders-all c.loop-pair.invariant c.in-None.ensures.steps.0
    (rw c.into_iter-pair-iterator.ensures.into_iter_gives.0 c.in_ok-reached.ensures))

pub returns-in_err-mask-clause-kept : goal.returns-in_err-mask-clause-kept
returns-in_err-mask-clause-kept c = rw (← c.self.view_is) (KeepsSame-noted c.mask.ensures.kept)

pub returns-in_err-mask-clause-only : goal.returns-in_err-mask-clause-only
returns-in_err-mask-clause-only c =
    rw (← c.self.view_is)
    (MasksAtMost-among c.self.inside.store c.mask.new.self (c.args.added.now ++ c.args.removed.now)
    c.deref.result.now (readers (goal.at.returns-in_err-mask-clause-only c).After-mask) c.mask.ensures.only)

pub returns-clause-kept : goal.returns-clause-kept
returns-clause-kept c = rw (← c.self.view_is) (KeepsSame-noted c.mask.ensures.kept)

pub returns-clause-only : goal.returns-clause-only
returns-clause-only c =
    rw (← c.self.view_is)
    (MasksAtMost-among c.self.inside.store c.mask.new.self (c.args.added.now ++ c.args.removed.now)
    c.deref.result.now (readers (goal.at.returns-clause-only c).After-mask) c.mask.ensures.only)

pub returns-clause-masked : goal.returns-clause-masked
returns-clause-masked c =
    rw (← c.self.view_is)
    (MasksReached-among c.self.inside.store c.mask.new.self (c.args.added.now ++ c.args.removed.now)
    c.deref.result.now (readers (goal.at.returns-clause-masked c).After-mask) c.mask.ensures.only
    c.in_ok-mask.ensures.staged)

pub returns-clause-reached : goal.returns-clause-reached
returns-clause-reached c = rw (← c.self.view_is) c.in_ok-reached.ensures
