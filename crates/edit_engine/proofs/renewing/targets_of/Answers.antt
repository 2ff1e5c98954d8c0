use Rattle.std.proofs.Common.{◌∙◌, take_all}
use Rattle.std.proofs.lemmas.List.{take_more}
use Rattle.edit_engine.proofs.OpeningLemmas.{OpensTargets-more, OpensTargets-none}
use Rattle.edit_engine.proofs.renewing.targets_of.Goals as goal

pub loop-shape-init : goal.loop-shape-init
loop-shape-init g c = OpensTargets-none c.new-renewal.ensures

pub loop-shape-preserved : goal.loop-shape-preserved
loop-shape-preserved g c =
    rw (take_more c.targeted-shape-items.result.now c.loop-shape.shape-index 0 c.loop-shape-test.true)
    (OpensTargets-more c.loop-shape.invariant c.in_ok-open_target.ensures)

pub returns : goal.returns
returns g c =
    let all = take_all c.loop-shape.shape-index c.targeted-shape-items.result.now c.loop-shape-test.false
    ∙ c.targeted-shape-items.ensures.targeted in
    rw all at c.loop-shape.invariant
