use Rattle.std.proofs.Common.{arith, ap, length}
use Rattle.graph_view.proofs.ValidLemmas.{AllKnown-valid}
use Rattle.shape_eval.specs.Answered.{answered}
use Rattle.edit_engine.proofs.BringsLemmas.{BringsNested-same}
use Rattle.edit_engine.proofs.KnownLemmas.{pairs_known}
use Rattle.edit_engine.proofs.OpenedLemmas.{IsRecallOf-none, answered-none}
use Rattle.edit_engine.proofs.OpeningLemmas.{IsOpening-made}
use Rattle.edit_engine.proofs.renewing.opening_of.Goals as goal

pub evaluate_entering-requires-clause-known : goal.evaluate_entering-requires-clause-known
evaluate_entering-requires-clause-known g c =
    let graph = g.V.GraphView.graph c.args.view.now in
    let shapes = c.args.plan.now.shapes.items in
    pairs_known (λ g p t held. ((c.look_ups_give_what_is_held.ensures.by_predicate g p t).0 held).0) graph
    (AllKnown-valid graph c.requires.plan.valid) shapes c.requires.plan.known _ c.requires.plan.within
    c.in_ok-renewal.renewal.entering.items c.in_ok-renewal.ensures.entering

pub evaluate_entering-requires-clause-recall : goal.evaluate_entering-requires-clause-recall
evaluate_entering-requires-clause-recall g c =
    IsRecallOf-none (answered c.args.answers.now) (answered-none c.args.answers.now c.requires.none)
    c.args.plan.now.shapes.items (g.V.GraphView.graph c.args.view.now)

pub returns-clause-renewal : goal.returns-clause-renewal
returns-clause-renewal g c =
    let done = c.in_ok-evaluate_entering.ensures in
    IsOpening-made c.in_ok-renewal.ensures done.evaluated done.targets

pub returns-clause-steps : goal.returns-clause-steps
returns-clause-steps g c =
    let entering = ap length c.in_ok-renewal.ensures.entering in
    let steps = c.in_ok-evaluate_entering.ensures.steps in
    omega arith

pub returns-clause-nested : goal.returns-clause-nested
returns-clause-nested g c =
    BringsNested-same _ _ c.in_ok-renewal.ensures.entering c.in_ok-evaluate_entering.ensures.nested
