use Rattle.std.specs.Prelude.{◌≡◌, ℕ, List, length, map, slice_index}
use Rattle.std.proofs.Common.{ap, ◌∙◌, arith, rules, get_or}
use Rattle.shape_order.specs.Levels.{above}
use Rattle.shape_order.specs.Refs.{refs_of}
use Rattle.shape_order.proofs.LevelLemmas.{refs_within, leveled_more, leveled_end}
use Rattle.shape_order.proofs.OrderLemmas.{shape_within, order_short}
use Rattle.shape_order.proofs.levels.levels_of.Goals as goal

pub shapes_of-requires : goal.shapes_of-requires
shapes_of-requires c =
    shape_within (length c.args.refs.now) c.args.order.now c.requires.each
    c.loop-shape.shape-index c.loop-shape-test.true

pub level_above-level-requires-clause-within : goal.level_above-level-requires-clause-within
level_above-level-requires-clause-within c =
    let count = length c.args.refs.now in
    let within =
    refs_within (refs_of c.args.refs.now) count c.args.order.now c.requires.ordered c.requires.each
    c.loop-shape.shape-index c.loop-shape-test.true in
    let long : length c.deref.result.now ≡ count =
    ap length c.deref.ensures.value ∙ c.loop-shape.invariant.long in
    rw (c.shapes_of.ensures, long) within

pub level_above-level-requires-clause-small : goal.level_above-level-requires-clause-small
level_above-level-requires-clause-small c = λ k.
    let bound = c.loop-shape.invariant.bound k in
    let short = order_short (length c.args.refs.now) c.args.order.now c.requires.each c.requires.distinct in
    let small = c.requires.small in
    let here = c.loop-shape-test.true in
    rw c.deref.ensures.value (omega arith)

pub index_mut-requires : goal.index_mut-requires
index_mut-requires c =
    let within =
    shape_within (length c.args.refs.now) c.args.order.now c.requires.each
    c.loop-shape.shape-index c.loop-shape-test.true in
    let long = c.loop-shape.invariant.long in
    search rules

pub loop-shape-preserved : goal.loop-shape-preserved
loop-shape-preserved c =
    let to = refs_of c.args.refs.now in
    let levels = c.loop-shape.levels.items in
    let shape = get_or c.args.order.now c.loop-shape.shape-index 0 in
    let is : c.level_above-level.result ≡ above (map (λ j. get_or levels j 0) (to shape)) =
    c.level_above-level.ensures
    ∙ ap (λ (ls : List ℕ). above (map (slice_index ls) c.shapes_of.result.now)) c.deref.ensures.value
    ∙ ap (λ (xs : List ℕ). above (map (slice_index levels) xs)) c.shapes_of.ensures in
    leveled_more to (length c.args.refs.now) c.args.order.now c.requires.ordered c.requires.distinct
    c.requires.each c.loop-shape.shape-index c.loop-shape-test.true levels c.level_above-level.result
    c.loop-shape.invariant is

pub returns-clause-levels : goal.returns-clause-levels
returns-clause-levels c =
    leveled_end (refs_of c.args.refs.now) (length c.args.refs.now) c.args.order.now c.requires.each
    c.loop-shape.shape-index c.loop-shape.levels.items c.loop-shape-test.false c.loop-shape.invariant
