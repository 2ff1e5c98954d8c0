use Rattle.std.specs.Prelude.{◌≡◌, ◌++◌, map}
use Rattle.std.proofs.Common.{refl, sym, ap, ◌∙◌, subst}
use Rattle.path_eval.specs.Route.{alternative, route_of, sequence, here, none}
use Rattle.path_eval.proofs.RouteLemmas.{route_Seq, route_Alt}
use Rattle.path_eval.specs.inner.Laid.{after, laid}
use Rattle.path_eval.specs.inner.Laying.{Lays}
use Rattle.path_eval.proofs.LayLemmas.{Completes-part, Completes-member, Completes-parts, Completes-members}
use Rattle.path_eval.proofs.LayLemmas.{Completes-end, Lays-none}
use Rattle.path_eval.proofs.lay.+lay.Goals as goal

pub lay-returns-in_ok-lay_parts-in-Seq : goal.lay-returns-in_ok-lay_parts-in-Seq
lay-returns-in_ok-lay_parts-in-Seq t c =
    let e : route_of c.args.path.now ≡ sequence (map route_of c.deref.result.now) =
    ap route_of c.in-Seq.is ∙ route_Seq c.in-Seq.parts
    ∙ ap (λ ps. sequence (map route_of ps)) (sym c.deref.ensures.value) in
    subst (λ r. Lays c.args.edges.now c.args.direction r c.args.from c.args.to c.lay_parts.new.edges) (sym e)
    c.in_ok-lay_parts-in-Seq.ensures

pub lay-returns-in_ok-lay_members-in-Alt : goal.lay-returns-in_ok-lay_members-in-Alt
lay-returns-in_ok-lay_members-in-Alt t c =
    let e : route_of c.args.path.now ≡ alternative (map route_of c.deref-in-Alt.result.now) =
    ap route_of c.in-Alt.is ∙ route_Alt c.in-Alt.members
    ∙ ap (λ ps. alternative (map route_of ps)) (sym c.deref-in-Alt.ensures.value) in
    subst (λ r. Lays c.args.edges.now c.args.direction r c.args.from c.args.to c.lay_members.new.edges)
    (sym e)
    c.in_ok-lay_members-in-Alt.ensures

pub lay_parts-loop-part-init : goal.lay_parts-loop-part-init
lay_parts-loop-part-init t c = record { edges = refl; places = refl }

pub lay_members-loop-member-init : goal.lay_members-loop-member-init
lay_members-loop-member-init t c = record { edges = refl; places = refl }

pub lay_parts-loop-part-preserved : goal.lay_parts-loop-part-preserved
lay_parts-loop-part-preserved t c =
    let old = c.args.edges.now in
    let whole = sequence (map route_of c.args.parts.now) in
    Completes-part c.args.direction
    (old.edges.items ++ laid c.args.direction whole c.args.from c.args.to old.places) (after whole old.places)
    c.args.parts.now c.loop-part.part-index c.part-item.result c.loop-part-test.true c.part-item.is
    c.loop-part.start c.loop-part.end c.loop-part.edges c.loop-part.invariant
    c.place.new.self c.lay.new.edges c.in_ok-mid.mid c.picked-first.result c.picked-last.result
    c.in_ok-mid.ensures.place c.in_ok-mid.ensures.places c.in_ok-mid.ensures.edges
    c.picked-first.ensures c.picked-last.ensures c.in_ok-lay.ensures
    c.picked-start.result c.picked-end.result c.picked-start.ensures c.picked-end.ensures

pub lay_members-loop-member-preserved : goal.lay_members-loop-member-preserved
lay_members-loop-member-preserved t c =
    let old = c.args.edges.now in
    let whole = alternative (map route_of c.args.members.now) in
    Completes-member c.args.direction
    (old.edges.items ++ laid c.args.direction whole c.args.from c.args.to old.places) (after whole old.places)
    c.args.members.now c.loop-member.member-index c.member-item.result c.loop-member-test.true
    c.member-item.is
    c.args.from c.args.to c.loop-member.edges c.loop-member.invariant c.lay.new.edges c.in_ok-lay.ensures

pub lay_parts-returns : goal.lay_parts-returns
lay_parts-returns t c =
    let old = c.args.edges.now in
    let now = c.loop-part.edges in
    let whole = sequence (map route_of c.args.parts.now) in
    let d = c.args.direction in
    let left =
    Completes-parts d (old.edges.items ++ laid d whole c.args.from c.args.to old.places)
    (after whole old.places)
    c.args.parts.now c.loop-part.part-index c.loop-part-test.false c.loop-part.start c.loop-part.end now
    c.loop-part.invariant in
    let last : Lays now d here c.loop-part.start c.loop-part.end c.add.new.self =
    record { edges = c.in_ok-add.ensures.edges; places = c.in_ok-add.ensures.places } in
    Completes-end d c.loop-part.start c.loop-part.end old now whole here c.args.from c.args.to left
    c.add.new.self
    last

pub lay_members-returns : goal.lay_members-returns
lay_members-returns t c =
    let old = c.args.edges.now in
    let now = c.loop-member.edges in
    let whole = alternative (map route_of c.args.members.now) in
    let d = c.args.direction in
    let left =
    Completes-members d (old.edges.items ++ laid d whole c.args.from c.args.to old.places)
    (after whole old.places)
    c.args.members.now c.loop-member.member-index c.loop-member-test.false c.args.from c.args.to now
    c.loop-member.invariant in
    Completes-end d c.args.from c.args.to old now whole none c.args.from c.args.to left now
    (Lays-none d c.args.from c.args.to now)
