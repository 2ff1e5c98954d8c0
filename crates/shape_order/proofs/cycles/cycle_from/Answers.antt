use Rattle.std.specs.Prelude.{◌≡◌, ◌<◌, ◌+◌, ◌*◌, ◌-◌, nat_eq, List, [], ◌∷◌, ◌++◌, length}
use Rattle.std.specs.List.{IsDistinct}
use Rattle.std.proofs.Common.{refl, sym, ap, ◌∙◌, subst, rules}
use Rattle.std.proofs.lemmas.List.{nil_from_length}
use Rattle.shape_order.specs.declared.visits.Visit.{Visit}
use Rattle.shape_order.specs.Chain.{IsCycle}
use Rattle.shape_order.specs.Refs.{refs_of}
use Rattle.shape_order.specs.inner.Listed.{with_shape}
use Rattle.shape_order.specs.inner.Visits.{way_of}
use Rattle.shape_order.proofs.CycleLemmas.{Closes, closes_start, closes_done, closes_back, closes_on}
use Rattle.shape_order.proofs.CycleLemmas.{closes_end}
use Rattle.shape_order.proofs.OrderLemmas.{none_recursive}
use Rattle.shape_order.proofs.SearchLemmas.{met_one}
use Rattle.shape_order.proofs.cycles.cycle_from.Goals as goal

pub returns-then-holds-clause-none : goal.returns-then-holds-clause-none
returns-then-holds-clause-none c =
    none_recursive (refs_of c.args.refs.now) c.args.order.now c.requires.ordered c.if-holds.ensures.distinct
    c.args.start (c.if-holds.ensures.held.0 refl)

pub loop-visit-init : goal.loop-visit-init
loop-visit-init c =
    rw (c.in_ok-push.ensures.items, c.new-visits.ensures.items, c.new-seen.ensures)
    (closes_start (refs_of c.args.refs.now) (length c.args.refs.now) c.requires.within c.args.start
    c.requires.start)

pub returns-then-next-start-clause-cycle : goal.returns-then-next-start-clause-cycle
returns-then-next-start-clause-cycle c =
    let to = refs_of c.args.refs.now in
    let rest = c.pop.new.self.items in
    let visit = c.in-Some.visit in
    let next = c.in-Some-first_unlisted.next in
    let here : Visit = record { shape = visit.shape; place = next.place } in
    let is : c.in_ok-cycle.cycle.items ≡ way_of (rest ++ here ∷ []) =
    c.in_ok-cycle.ensures ∙ ap way_of (c.deref.ensures.value ∙ c.in_ok-push-2.ensures.items) in
    subst (IsCycle to c.args.start) (sym is)
    (closes_back to (length c.args.refs.now) c.requires.within c.args.start c.loop-visit.seen rest visit
    c.in-Some.ensures.items c.loop-visit.invariant next c.shapes_of-shapes.ensures
    c.in-Some-first_unlisted.ensures.some (search rules))

pub loop-visit-smaller : goal.loop-visit-smaller
loop-visit-smaller c =
    let count = length c.args.refs.now in
    let seen = c.loop-visit.seen in
    let rest = c.pop.new.self.items in
    let visit = c.in-Some.visit in
    let next = c.in-Some-first_unlisted.next in
    let on =
    closes_on (refs_of c.args.refs.now) count c.requires.within c.args.start seen rest visit
    c.in-Some.ensures.items c.loop-visit.invariant next c.shapes_of-shapes.ensures
    c.in-Some-first_unlisted.ensures.some (search rules) in
    let distinct : IsDistinct nat_eq (with_shape seen next.shape) =
    subst (IsDistinct nat_eq) c.in_ok-add.ensures.added c.in_ok-add.ensures.distinct in
    let falls : length c.push-in-Some-2.new.self.items + 2 * (count - length c.add.new.self)
    < length c.loop-visit.visits.items + 2 * (count - length seen) =
    rw (
      c.in-Some.ensures.items,
      c.in_ok-push-3.ensures.items,
      c.in_ok-push-2.ensures.items,
      c.in_ok-add.ensures.added,
    )
    (met_one seen rest next.shape count visit (record { shape = visit.shape; place = next.place })
    (record { shape = next.shape; place = 0 }) distinct on.seen_within
    c.in-Some-first_unlisted.ensures.some.new) in
    falls

pub loop-visit-preserved : goal.loop-visit-preserved
loop-visit-preserved c =
    rw (c.in_ok-push-3.ensures.items, c.in_ok-push-2.ensures.items, c.in_ok-add.ensures.added)
    (closes_on (refs_of c.args.refs.now) (length c.args.refs.now) c.requires.within c.args.start
    c.loop-visit.seen c.pop.new.self.items c.in-Some.visit c.in-Some.ensures.items c.loop-visit.invariant
    c.in-Some-first_unlisted.next c.shapes_of-shapes.ensures c.in-Some-first_unlisted.ensures.some
    (search rules))

pub loop-visit-preserved-in_default-first_unlisted : goal.loop-visit-preserved-in_default-first_unlisted
loop-visit-preserved-in_default-first_unlisted c =
    closes_done (refs_of c.args.refs.now) (length c.args.refs.now) c.requires.within c.args.start
    c.loop-visit.seen c.pop.new.self.items c.in-Some.visit c.in-Some.ensures.items c.loop-visit.invariant
    c.shapes_of-shapes.ensures c.in_default-first_unlisted.ensures.none

pub returns-clause-none : goal.returns-clause-none
returns-clause-none c =
    let to = refs_of c.args.refs.now in
    let count = length c.args.refs.now in
    let seen = c.loop-visit.seen in
    let none : c.loop-visit.visits.items ≡ [] = nil_from_length c.loop-visit.visits.items (search rules) in
    closes_end to count c.requires.within c.args.start seen
    (subst (λ (ways : List Visit). Closes to count c.args.start seen ways) none c.loop-visit.invariant)
