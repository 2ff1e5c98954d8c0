use Rattle.std.specs.Prelude.{◌≡◌, ◌+◌, max}
use Rattle.std.proofs.Common.{sym, ap, ◌∙◌, rules, get_or}
use Rattle.shape_order.proofs.LevelLemmas.{above_more}
use Rattle.shape_order.proofs.levels.level_above.Goals as goal

pub loop-shape-preserved : goal.loop-shape-preserved
loop-shape-preserved c =
    let shapes = c.args.shapes.now in
    let levels = c.args.levels.now in
    let at = c.loop-shape.shape-index in
    let next = get_or levels (get_or shapes at 0) 0 + 1 in
    let taken : c.max-level.result ≡ max c.loop-shape.level next = search rules in
    taken ∙ ap (λ l. max l next) c.loop-shape.invariant
    ∙ sym (above_more (λ j. get_or levels j 0) shapes at c.loop-shape-test.true)
