use Rattle.std.proofs.Common.{refl}
use Rattle.read_records.proofs.MaskLemmas.{AreStaged-more, AreStaged-none, MasksAmong-itself, MasksAmong-one}
use Rattle.read_records.proofs.MaskLemmas.{MasksAmong-then, SameNotes-then}
use Rattle.read_records.specs.declared.reader.Reader.TheVariants.{OfTarget}
use Rattle.read_records.proofs.store.Store.mask.Goals as goal

pub loop-reader-init : goal.loop-reader-init
loop-reader-init g c = record {
  same = record { each = λ reader. refl };
  only = MasksAmong-itself c.args.self.now c.args.readers.now;
  staged = AreStaged-none c.args.self.now;
}

pub loop-reader-preserved : goal.loop-reader-preserved
loop-reader-preserved g c =
    let readers = c.args.readers.now in
    let at = c.loop-reader.reader-index in
    let inside = c.loop-reader-test.true in
    let only = MasksAmong-one readers at (OfTarget 0) inside c.mask_one.ensures.only in
    record {
      same = SameNotes-then c.loop-reader.invariant.same c.mask_one.ensures.kept;
      only = MasksAmong-then c.loop-reader.invariant.only only;
      staged = AreStaged-more readers at (OfTarget 0) inside c.loop-reader.invariant.staged only
          c.in_ok-mask_one.ensures.staged;
    }

pub returns-in_err-mask_one-clause-only : goal.returns-in_err-mask_one-clause-only
returns-in_err-mask_one-clause-only g c =
    MasksAmong-then c.loop-reader.invariant.only
    (MasksAmong-one c.args.readers.now c.loop-reader.reader-index (OfTarget 0) c.loop-reader-test.true
    c.mask_one.ensures.only)
