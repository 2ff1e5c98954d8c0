use Rattle.std.specs.Prelude.{◌≡◌, ◌<◌, ◌+◌, ◌*◌, ◌-◌, List, [], length, Contains, nat_eq}
use Rattle.std.specs.List.{IsDistinct}
use Rattle.std.proofs.Common.{sym, subst, rules, true≢false}
use Rattle.std.proofs.lemmas.List.{nil_from_length}
use Rattle.shape_order.specs.declared.visits.Visit.{Visit}
use Rattle.shape_order.specs.Refs.{refs_of}
use Rattle.shape_order.specs.inner.Listed.{with_shape}
use Rattle.shape_order.specs.inner.Numbered.{AreNumbered, HasAlso}
use Rattle.shape_order.proofs.NumberingLemmas.{Numbers, numbers_start, numbers_done, numbers_closed}
use Rattle.shape_order.proofs.NumberingLemmas.{numbers_on, numbers_fewer, numbers_end}
use Rattle.shape_order.proofs.numbering.number_from.Goals as goal

pub loop-visit-init : goal.loop-visit-init
loop-visit-init c =
    rw (c.in_ok-push.ensures.items, c.new-visits.ensures.items, c.in_ok-add.ensures.added)
    (numbers_start (refs_of c.args.refs.now) (length c.args.refs.now) c.requires.within c.args.order.now
    c.args.root c.args.seen.now c.requires.root c.requires.numbered)

pub loop-visit-preserved-in_default-first_unlisted : goal.loop-visit-preserved-in_default-first_unlisted
loop-visit-preserved-in_default-first_unlisted c =
    rw (c.in_ok-add-2.ensures.added)
    (numbers_done (refs_of c.args.refs.now) (length c.args.refs.now) c.requires.within c.args.order.now
    c.args.root c.loop-visit.order c.loop-visit.seen c.pop.new.self.items c.in-Some.visit
    c.in-Some.ensures.items c.loop-visit.invariant c.shapes_of-shapes.ensures
    c.in_default-first_unlisted.ensures.none)

pub returns-then-holds-2-clause-recursive : goal.returns-then-holds-2-clause-recursive
returns-then-holds-2-clause-recursive c =
    numbers_closed (refs_of c.args.refs.now) (length c.args.refs.now) c.requires.within c.args.order.now
    c.args.root c.loop-visit.order c.loop-visit.seen c.pop.new.self.items c.in-Some.visit
    c.in-Some.ensures.items c.loop-visit.invariant c.in-Some-first_unlisted.next c.shapes_of-shapes.ensures
    c.in-Some-first_unlisted.ensures.some (search rules)

pub loop-visit-smaller : goal.loop-visit-smaller
loop-visit-smaller c =
    let count = length c.args.refs.now in
    let seen = c.loop-visit.seen in
    let next = c.in-Some-first_unlisted.next in
    let new : Contains seen next.shape → ⊥ = λ held. true≢false (sym (c.if-holds-2.ensures.held.1 held)) in
    let distinct : IsDistinct nat_eq (with_shape seen next.shape) =
    subst (IsDistinct nat_eq) c.in_ok-add-3.ensures.added c.in_ok-add-3.ensures.distinct in
    let falls : length c.push-in-Some-2.new.self.items + 2 * (count - length c.add-in-Some.new.self)
    < length c.loop-visit.visits.items + 2 * (count - length seen) =
    rw (
      c.in-Some.ensures.items,
      c.in_ok-push-3.ensures.items,
      c.in_ok-push-2.ensures.items,
      c.in_ok-add-3.ensures.added,
    )
    (numbers_fewer (refs_of c.args.refs.now) count c.requires.within c.args.order.now
    c.args.root c.loop-visit.order seen c.pop.new.self.items c.in-Some.visit
    c.in-Some.ensures.items c.loop-visit.invariant next c.shapes_of-shapes.ensures
    c.in-Some-first_unlisted.ensures.some new distinct) in
    falls

pub loop-visit-preserved : goal.loop-visit-preserved
loop-visit-preserved c =
    rw (c.in_ok-push-3.ensures.items, c.in_ok-push-2.ensures.items, c.in_ok-add-3.ensures.added)
    (numbers_on (refs_of c.args.refs.now) (length c.args.refs.now) c.requires.within c.args.order.now
    c.args.root c.loop-visit.order c.loop-visit.seen c.pop.new.self.items c.in-Some.visit
    c.in-Some.ensures.items c.loop-visit.invariant c.in-Some-first_unlisted.next c.shapes_of-shapes.ensures
    c.in-Some-first_unlisted.ensures.some)

-- nothing is on the way
ended : (c : goal.After-drop-visits-2)
    → AreNumbered (refs_of c.args.refs.now) (length c.args.refs.now) c.loop-visit.order c.loop-visit.seen
    × HasAlso c.args.order.now c.loop-visit.order c.args.root
ended c =
    let to = refs_of c.args.refs.now in
    let count = length c.args.refs.now in
    let order = c.loop-visit.order in
    let seen = c.loop-visit.seen in
    let none : c.loop-visit.visits.items ≡ [] = nil_from_length c.loop-visit.visits.items (search rules) in
    numbers_end to count c.requires.within c.args.order.now c.args.root order seen
    (subst (λ (ways : List Visit). Numbers to count c.args.order.now c.args.root order seen ways) none
    c.loop-visit.invariant)

pub returns-clause-numbered : goal.returns-clause-numbered
returns-clause-numbered c = (ended c).0

pub returns-clause-also : goal.returns-clause-also
returns-clause-also c = (ended c).1
