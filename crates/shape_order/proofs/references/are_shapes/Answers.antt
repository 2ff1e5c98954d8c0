use Rattle.std.specs.Prelude.{◌<◌, ◌≤◌, ℕ, List, length, slice_index}
use Rattle.std.proofs.Common.{refl, subst}
use Rattle.shape_order.specs.Refs.{refs_of}
use Rattle.shape_order.proofs.LeastLemmas.{all_within, not_within}
use Rattle.shape_order.proofs.references.are_shapes.Goals as goal

pub returns-clause-within : goal.returns-clause-within
returns-clause-within c = λ _.
    all_within c.args.refs.now (length c.args.refs.now) c.loop-shape.shape c.loop-shape-test.false
    c.loop-shape.invariant

pub returns-then-not-are_below-clause-not : goal.returns-then-not-are_below-clause-not
returns-then-not-are_below-clause-not c = λ _ within small.
    let to = refs_of c.args.refs.now in
    let count = length c.args.refs.now in
    let shape = c.loop-shape.shape in
    let some : (k : ℕ) × (k < length (to shape)) × (count ≤ slice_index (to shape) k) =
    subst (λ (shapes : List ℕ). (k : ℕ) × (k < length shapes) × (count ≤ slice_index shapes k))
    c.shapes_of.ensures (c.if-not-are_below.ensures.some refl) in
    not_within to count shape some.0 some.1 some.2 within
