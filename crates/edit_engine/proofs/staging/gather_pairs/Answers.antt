use Rattle.std.proofs.Common.{rules, sym, ap, subst, ◌∙◌, ◌<◌, ◌++◌, append-nil, length, map}
use Rattle.edit_engine.specs.inner.Put.{HaveRows, answer_rows, pair_entry}
use Rattle.edit_engine.specs.declared.renewal.Evaluated.{Evaluated}
use Rattle.edit_engine.proofs.EntryLemmas.{gathered_more}
use Rattle.edit_engine.proofs.StagedLemmas.{HaveRows-more, HaveRows-none, SameRows-then, next_so}
use Rattle.edit_engine.proofs.LeftLemmas.{IsLeft-end, IsLeft-more, IsLeft-start}
use Rattle.edit_engine.proofs.staging.gather_pairs.Goals as goal

pub loop-pair-init : goal.loop-pair-init
loop-pair-init c =
    let gives = c.into_iter-pair-iterator.ensures.into_iter_gives in
    record {
      left = IsLeft-start _ _ _ _ gives.0 gives.1 (search rules);
      staged = HaveRows-none _ _ _ _;
      gathered = sym (append-nil c.args.all.now.items);
    }

pub term-requires : goal.term-requires
term-requires c =
    next_so (λ (found : Evaluated). found.pair) (λ p. p.node < length c.args.pool.now.terms) _ _ _ _ _ _
    c.requires.known c.loop-pair.invariant.left c.in-Some.ensures.steps.0

pub stage-requires : goal.stage-requires
stage-requires c =
    subst (λ n. c.in-Some.field-0.pair.shape < n) (sym c.loop-pair.invariant.staged.places)
    (next_so (λ (found : Evaluated). found.pair) (λ p. p.shape < length c.args.results.now.shapes) _ _ _ _ _ _
    c.requires.within c.loop-pair.invariant.left c.in-Some.ensures.steps.0)

pub loop-pair-preserved : goal.loop-pair-preserved
loop-pair-preserved c =
    let at = c.loop-pair.invariant in
    let steps = c.in-Some.ensures.steps in
    let rows = c.in_ok-stage.ensures in
    record {
      left = IsLeft-more _ _ _ _ _ _ _ at.left steps.0 steps.1;
      staged = HaveRows-more (λ found. found.pair) answer_rows c.args.pool.now.terms c.requires.distinct
          _ _ _ _ c.in-Some.field-0 _ c.requires.once at.left steps.0 _ _ _ at.staged c.term.result.now
          c.term.ensures rows.kept rows.shapes rows.staged;
      gathered = gathered_more pair_entry c.args.all.now.items c.loop-pair.all.items _ c.loop-pair.yielded
          c.in-Some.field-0 at.gathered c.in_ok-push.ensures.items;
    }

pub returns-in_err-stage-clause-rows : goal.returns-in_err-stage-clause-rows
returns-in_err-stage-clause-rows c = SameRows-then c.loop-pair.invariant.staged.rows c.stage.ensures.kept

pub returns-in_err-stage-clause-places : goal.returns-in_err-stage-clause-places
returns-in_err-stage-clause-places c = c.stage.ensures.shapes ∙ c.loop-pair.invariant.staged.places

pub returns-in_err-push-clause-rows : goal.returns-in_err-push-clause-rows
returns-in_err-push-clause-rows c =
    SameRows-then c.loop-pair.invariant.staged.rows c.in_ok-stage.ensures.kept

pub returns-in_err-push-clause-places : goal.returns-in_err-push-clause-places
returns-in_err-push-clause-places c = c.in_ok-stage.ensures.shapes ∙ c.loop-pair.invariant.staged.places

pub returns-clause-rows : goal.returns-clause-rows
returns-clause-rows c = c.loop-pair.invariant.staged.rows

pub returns-clause-places : goal.returns-clause-places
returns-clause-places c = c.loop-pair.invariant.staged.places

pub returns-clause-staged : goal.returns-clause-staged
returns-clause-staged c =
    let at = c.loop-pair.invariant in
    subst (λ items. HaveRows (λ found. found.pair) answer_rows c.args.pool.now.terms items c.args.results.now
    c.loop-pair.results) (IsLeft-end _ _ _ _ at.left c.in-None.ensures.steps.0) at.staged

pub returns-clause-gathered : goal.returns-clause-gathered
returns-clause-gathered c =
    let at = c.loop-pair.invariant in
    at.gathered
    ∙ ap (λ es. c.args.all.now.items ++ map pair_entry es)
    (IsLeft-end _ _ _ _ at.left c.in-None.ensures.steps.0)
