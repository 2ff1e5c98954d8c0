use Rattle.std.proofs.Common.{sym, subst, ap, ◌∙◌, ◌<◌, length, refl, arith}
use Rattle.std.proofs.lemmas.List.{map-append}
use Rattle.std.specs.Prelude.{[], ◌∷◌}
use Rattle.comp_core.specs.Pairs.{same_pair_equiv}
use Rattle.read_records.specs.declared.reader.Reader.TheVariants.{OfPair}
use Rattle.read_records.specs.Records.{change_of}
use Rattle.edit_engine.specs.inner.Put.{HaveRows, IsPut, no_reads, no_rows}
use Rattle.edit_engine.proofs.EntryLemmas.{told_pair}
use Rattle.edit_engine.proofs.PutLemmas.{IsPut-none, IsPut-step, PutsOne-reader}
use Rattle.edit_engine.proofs.StagedLemmas.{HaveRows-more, HaveRows-none, SameRecords-itself}
use Rattle.edit_engine.proofs.StagedLemmas.{SameRecords-then, SameRows-then, next_so}
use Rattle.edit_engine.proofs.LeftLemmas.{IsLeft-end, IsLeft-more, IsLeft-start, map_itself}
use Rattle.edit_engine.proofs.staging.stage_leaving.Goals as goal

pub loop-pair-init : goal.loop-pair-init
loop-pair-init c =
    let gives = c.into_iter-pair-iterator.ensures.into_iter_gives in
    record {
      left = IsLeft-start _ _ _ _ gives.0 refl (ap length gives.0);
      same = SameRecords-itself _;
      gone = IsPut-none OfPair no_reads _;
      staged = HaveRows-none _ _ _ _;
    }

pub term-requires : goal.term-requires
term-requires c =
    next_so (λ p. p) (λ p. p.node < length c.args.pool.now.terms) _ _ _ _ _ _
    (rw map_itself c.requires.known) c.loop-pair.invariant.left c.in-Some.ensures.steps

pub stage-requires : goal.stage-requires
stage-requires c =
    subst (λ n. c.in-Some.pair.now.shape < n) (sym c.loop-pair.invariant.staged.places)
    (next_so (λ p. p) (λ p. p.shape < length c.args.results.now.shapes) _ _ _ _ _ _
    (rw map_itself c.requires.within) c.loop-pair.invariant.left c.in-Some.ensures.steps)

pub loop-pair-preserved : goal.loop-pair-preserved
loop-pair-preserved c =
    let at = c.loop-pair.invariant in
    let steps = c.in-Some.ensures.steps in
    let rows = c.in_ok-stage.ensures in
    let reads = c.in_ok-stage_removal.ensures in
    let more = map-append (λ p. p.now) c.loop-pair.yielded (c.in-Some.pair ∷ []) in
    let long = ap length steps in
    record {
      left = rw more (IsLeft-more _ _ _ _ _ _ _ at.left steps (omega arith));
      same = SameRecords-then at.same reads.recorded;
      gone = rw more (IsPut-step OfPair no_reads _ same_pair_equiv (λ p. p) _ _ _ _ c.in-Some.pair.now _
          (rw map_itself c.requires.once) at.left steps (λ q e. told_pair c.in-Some.pair.now q e) _ _ _
          at.gone (PutsOne-reader _ _ _ _ reads.staged));
      staged = rw more (HaveRows-more (λ p. p) no_rows c.args.pool.now.terms c.requires.distinct _ _ _ _
          c.in-Some.pair.now _ (rw map_itself c.requires.once) at.left steps _ _ _ at.staged
          c.term.result.now c.term.ensures rows.kept rows.shapes
          (rw c.new-rows.ensures.items at rows.staged));
    }

pub returns-in_err-stage-clause-records : goal.returns-in_err-stage-clause-records
returns-in_err-stage-clause-records c = c.loop-pair.invariant.same

pub returns-in_err-stage-clause-rows : goal.returns-in_err-stage-clause-rows
returns-in_err-stage-clause-rows c = SameRows-then c.loop-pair.invariant.staged.rows c.stage.ensures.kept

pub returns-in_err-stage-clause-places : goal.returns-in_err-stage-clause-places
returns-in_err-stage-clause-places c = c.stage.ensures.shapes ∙ c.loop-pair.invariant.staged.places

pub returns-in_err-stage_removal-clause-records : goal.returns-in_err-stage_removal-clause-records
returns-in_err-stage_removal-clause-records c =
    SameRecords-then c.loop-pair.invariant.same c.stage_removal.ensures.recorded

pub returns-in_err-stage_removal-clause-rows : goal.returns-in_err-stage_removal-clause-rows
returns-in_err-stage_removal-clause-rows c =
    SameRows-then c.loop-pair.invariant.staged.rows c.in_ok-stage.ensures.kept

pub returns-in_err-stage_removal-clause-places : goal.returns-in_err-stage_removal-clause-places
returns-in_err-stage_removal-clause-places c =
    c.in_ok-stage.ensures.shapes ∙ c.loop-pair.invariant.staged.places

pub returns-clause-rows : goal.returns-clause-rows
returns-clause-rows c = c.loop-pair.invariant.staged.rows

pub returns-clause-places : goal.returns-clause-places
returns-clause-places c = c.loop-pair.invariant.staged.places

pub returns-clause-gone : goal.returns-clause-gone
returns-clause-gone c =
    let at = c.loop-pair.invariant in
    let none = ap length c.in-None.ensures.steps.0 in
    subst (λ ps. IsPut OfPair no_reads ps (change_of c.args.records.now) (change_of c.loop-pair.records))
    (IsLeft-end _ _ _ _ at.left none) at.gone

pub returns-clause-staged : goal.returns-clause-staged
returns-clause-staged c =
    let at = c.loop-pair.invariant in
    let none = ap length c.in-None.ensures.steps.0 in
    subst (λ ps. HaveRows (λ p. p) no_rows c.args.pool.now.terms ps c.args.results.now c.loop-pair.results)
    (IsLeft-end _ _ _ _ at.left none) at.staged
