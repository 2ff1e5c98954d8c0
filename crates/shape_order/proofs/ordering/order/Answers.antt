use Rattle.std.specs.Prelude.{◌≡◌, ◌<◌, ◌≤◌, ℕ, nat_eq, List, length, slice_index}
use Rattle.std.specs.List.{IsDistinct}
use Rattle.std.proofs.Common.{subst, sym, rules}
use Rattle.shape_order.specs.Order.{HasEach, IsOrdered}
use Rattle.shape_order.specs.Outcome.{IsLeastTooDeep, IsNumbering}
use Rattle.shape_order.specs.Refs.{refs_of}
use Rattle.shape_order.specs.inner.FirstAbove.{IsFirstAbove}
use Rattle.shape_order.specs.inner.Placed.{ArePlaced}
use Rattle.shape_order.proofs.OutcomeLemmas.{exact_cycle, exact_numbering, exact_too_deep}
use Rattle.shape_order.proofs.OutcomeLemmas.{least_too_deep, numbering_of}
use Rattle.shape_order.proofs.ordering.order.Goals as goal

pub returns-in-Some-clause-exact : goal.returns-in-Some-clause-exact
returns-in-Some-clause-exact c = λ _.
    exact_cycle c.args.refs.now c.args.depth_limit c.in_ok-cycle.cycle c.in_ok-cycle.ensures

too_deep : (c : goal.After-drop-order-in-Some-first_above)
    → IsLeastTooDeep (refs_of c.args.refs.now) c.args.depth_limit c.in-Some-first_above.shape
too_deep c =
    let limit = c.args.depth_limit in
    let shape = c.in-Some-first_above.shape in
    let levels = c.in_ok-levels.levels.items in
    let all : HasEach (length c.args.refs.now) c.in_ok-numbered.numbered.order =
    rw c.in_default.is at c.in_ok-numbered.ensures.all in
    let long : length levels ≡ length c.args.refs.now = search rules in
    let first : IsFirstAbove limit (length c.args.refs.now) (slice_index levels) shape =
    subst (λ (n : ℕ). IsFirstAbove limit n (slice_index levels) shape) long
    (subst (λ (ls : List ℕ). IsFirstAbove limit (length ls) (slice_index ls) shape) c.deref-2.ensures.value
    c.in-Some-first_above.ensures.some) in
    least_too_deep c.args.refs.now c.in_ok-numbered.numbered.order c.in_ok-numbered.ensures.ordered
    c.into_shapes-order.ensures.distinct all c.requires.within limit (slice_index levels) shape
    c.in_ok-levels.ensures.levels first

pub returns-in-Some-first_above-clause-fault : goal.returns-in-Some-first_above-clause-fault
returns-in-Some-first_above-clause-fault c = too_deep c

pub returns-in-Some-first_above-clause-exact : goal.returns-in-Some-first_above-clause-exact
returns-in-Some-first_above-clause-exact c = λ _.
    exact_too_deep c.args.refs.now c.args.depth_limit c.in-Some-first_above.shape (too_deep c)

numbering : (c : goal.In_ok-places) → IsNumbering (refs_of c.args.refs.now) (length c.args.refs.now)
    c.args.depth_limit (record {
      order = c.into_shapes-order.result;
      places = c.in_ok-places.places;
      levels = c.in_ok-levels.levels;
    })
numbering c =
    let to = refs_of c.args.refs.now in
    let count = length c.args.refs.now in
    let order = c.into_shapes-order.result.items in
    let levels = c.in_ok-levels.levels.items in
    let all : HasEach count c.in_ok-numbered.numbered.order =
    rw c.in_default.is at c.in_ok-numbered.ensures.all in
    let placed : ArePlaced count order (length order) c.in_ok-places.places.items =
    subst (λ (xs : List ℕ). ArePlaced count xs (length xs) c.in_ok-places.places.items)
    c.deref-3.ensures.value c.in_ok-places.ensures in
    let long : length levels ≡ count = search rules in
    let shallow : (i : ℕ) → i < count → slice_index levels i ≤ c.args.depth_limit = search rules in
    numbering_of to count c.args.depth_limit _
    (subst (IsOrdered to) (sym c.into_shapes-order.ensures.value) c.in_ok-numbered.ensures.ordered)
    (subst (IsDistinct nat_eq) (sym c.into_shapes-order.ensures.value) c.into_shapes-order.ensures.distinct)
    (subst (HasEach count) (sym c.into_shapes-order.ensures.value) all)
    placed long c.in_ok-levels.ensures.levels shallow

pub returns-clause-numbering : goal.returns-clause-numbering
returns-clause-numbering c = numbering c

pub returns-clause-exact : goal.returns-clause-exact
returns-clause-exact c = λ _.
    exact_numbering c.args.refs.now c.args.depth_limit c.requires.within _ (numbering c)
