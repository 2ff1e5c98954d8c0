use Rattle.std.proofs.Common.{rules, sym, ap, ◌∙◌, ◌++◌, append-nil, map}
use Rattle.edit_engine.specs.inner.Put.{target_entry}
use Rattle.edit_engine.proofs.EntryLemmas.{gathered_more}
use Rattle.edit_engine.proofs.LeftLemmas.{IsLeft-end, IsLeft-more, IsLeft-start}
use Rattle.edit_engine.proofs.staging.gather_targets.Goals as goal

pub loop-shape-init : goal.loop-shape-init
loop-shape-init c =
    let gives = c.into_iter-shape-iterator.ensures.into_iter_gives in
    record {
      left = IsLeft-start _ _ _ _ gives.0 gives.1 (search rules);
      gathered = sym (append-nil c.args.all.now.items);
    }

pub loop-shape-preserved : goal.loop-shape-preserved
loop-shape-preserved c =
    let at = c.loop-shape.invariant in
    let steps = c.in-Some.ensures.steps in
    record {
      left = IsLeft-more _ _ _ _ _ _ _ at.left steps.0 steps.1;
      gathered = gathered_more target_entry c.args.all.now.items c.loop-shape.all.items _ c.loop-shape.yielded
          c.in-Some.field-0 at.gathered c.in_ok-push.ensures.items;
    }

pub returns : goal.returns
returns c =
    let at = c.loop-shape.invariant in
    at.gathered
    ∙ ap (λ ts. c.args.all.now.items ++ map target_entry ts)
    (IsLeft-end _ _ _ _ at.left c.in-None.ensures.steps.0)
