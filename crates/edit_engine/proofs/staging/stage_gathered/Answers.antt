use Rattle.std.proofs.Common.{rules, subst}
use Rattle.read_records.specs.Records.{change_of}
use Rattle.read_records.specs.inner.ReaderLaws.{same_reader_equiv}
use Rattle.edit_engine.specs.inner.Put.{IsPut, entry_change, entry_reader}
use Rattle.edit_engine.proofs.PutLemmas.{IsPut-none, IsPut-step, PutsOne-reader}
use Rattle.edit_engine.proofs.StagedLemmas.{SameRecords-itself, SameRecords-then}
use Rattle.edit_engine.proofs.LeftLemmas.{IsLeft-end, IsLeft-more, IsLeft-start}
use Rattle.edit_engine.proofs.staging.stage_gathered.Goals as goal

pub loop-reader-init : goal.loop-reader-init
loop-reader-init c =
    let gives = c.into_iter-reader-iterator.ensures.into_iter_gives in
    record {
      left = IsLeft-start _ _ _ _ gives.0 gives.1 (search rules);
      same = SameRecords-itself _;
      put = IsPut-none entry_reader entry_change _;
    }

pub loop-reader-preserved : goal.loop-reader-preserved
loop-reader-preserved c =
    let at = c.loop-reader.invariant in
    let steps = c.in-Some.ensures.steps in
    let staged = c.in_ok-stage.ensures in
    record {
      left = IsLeft-more _ _ _ _ _ _ _ at.left steps.0 steps.1;
      same = SameRecords-then at.same staged.recorded;
      put = IsPut-step entry_reader entry_change _ same_reader_equiv entry_reader _ _ _ _ _ _
          c.requires.once at.left steps.0 (λ y e. e) _ _ _ at.put (PutsOne-reader _ _ _ _ staged.staged);
    }

pub returns-in_err-stage-clause-records : goal.returns-in_err-stage-clause-records
returns-in_err-stage-clause-records c =
    SameRecords-then c.loop-reader.invariant.same c.stage.ensures.recorded

pub returns-clause-staged : goal.returns-clause-staged
returns-clause-staged c =
    let at = c.loop-reader.invariant in
    subst (λ items. IsPut entry_reader entry_change items (change_of c.args.records.now)
    (change_of c.loop-reader.records)) (IsLeft-end _ _ _ _ at.left c.in-None.ensures.steps.0) at.put
