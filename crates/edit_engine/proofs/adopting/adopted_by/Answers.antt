use Rattle.std.proofs.Common.{◌∙◌, ap}
use Rattle.graph_view.proofs.ValidLemmas.{AllKnown-valid}
use Rattle.read_records.specs.Recall.{RecallState, kept_of}
use Rattle.shape_eval.specs.Answered.{answered}
use Rattle.shape_eval.specs.Report.{pairs}
use Rattle.plan_swap.specs.Swap.{plan_after}
use Rattle.edit_engine.proofs.BringsLemmas.{BringsNested-same}
use Rattle.edit_engine.proofs.CopiedLemmas.{staying_recalled}
use Rattle.edit_engine.proofs.KnownPairLemmas.{pairs_known}
use Rattle.edit_engine.proofs.OpenedLemmas.{kept_answers}
use Rattle.edit_engine.proofs.OpeningLemmas.{IsKeptOf-adopted, IsOpening-made, MayBeAdopted-opening}
use Rattle.edit_engine.proofs.SwappedLemmas.{swapped_same, swaps_fresh}
use Rattle.edit_engine.proofs.adopting.adopted_by.Goals as goal

pub evaluate_swapped-requires-clause-known : goal.evaluate_swapped-requires-clause-known
evaluate_swapped-requires-clause-known g c =
    let graph = g.V.GraphView.graph c.args.view.now in
    let plan = plan_after c.args.swap.now in
    pairs_known plan.shapes graph (AllKnown-valid graph c.requires.after.valid) c.requires.after.known
    plan.targeted c.requires.after.within c.in_ok-renewal.renewal.entering.items
    c.in_ok-renewal.ensures.entering

pub of_all-requires : goal.of_all-requires
of_all-requires g c = record { once = c.in_ok-into_all.ensures.once }

pub adopt-requires : goal.adopt-requires
adopt-requires g c =
    let graph = g.V.GraphView.graph c.args.view.now in
    let done = c.in_ok-evaluated.ensures in
    rw (c.pool-2.ensures.terms, c.len.ensures)
    (MayBeAdopted-opening (IsOpening-made c.in_ok-renewal.ensures done.evaluated done.targets)
    c.requires.after.once (AllKnown-valid graph c.requires.after.valid) c.requires.after.known
    c.requires.after.within)

pub returns-clause-kept : goal.returns-clause-kept
returns-clause-kept g c =
    let adopted = rw (c.pool-2.ensures.terms, c.len.ensures) at c.in_ok-kept.ensures.adopted in
    let distinct = rw c.pool.ensures.terms at c.terms_are_distinct.ensures in
    let same = c.in_ok-kept.ensures.recall in
    let kept = kept_answers c.evaluate_swapped.new.answers c.in_ok-into_all.field-0.items
    c.in_ok-recall.recall c.in_ok-kept.kept.recall c.in_ok-into_all.ensures.entries
    c.in_ok-recall.ensures.kept same in
    let done = c.in_ok-evaluated.ensures in
    let nested = BringsNested-same _ _ c.in_ok-renewal.ensures.entering done.nested in
    IsKeptOf-adopted (IsOpening-made c.in_ok-renewal.ensures done.evaluated done.targets)
    c.requires.after.once c.in_ok-kept.kept distinct adopted (rw kept nested.remembers)
    (ap (λ (state : RecallState). state.staged) same ∙ c.in_ok-recall.ensures.staged)

pub returns-clause-evaluated : goal.returns-clause-evaluated
returns-clause-evaluated g c =
    let swap = c.args.swap.now in
    let graph = g.V.GraphView.graph c.args.view.now in
    swapped_same swap graph c.in_ok-evaluated.evaluated c.in_ok-renewal.renewal.entering.items
    (pairs (plan_after swap) graph) c.in_ok-renewal.ensures.entering c.in_ok-evaluated.ensures.count

pub returns-clause-nested : goal.returns-clause-nested
returns-clause-nested g c =
    let swap = c.args.swap.now in
    let was = kept_of c.args.kept.now.recall in
    let first = answered c.in_ok-answers.answers in
    let kept = kept_answers c.evaluate_swapped.new.answers c.in_ok-into_all.field-0.items
    c.in_ok-recall.recall c.in_ok-kept.kept.recall c.in_ok-into_all.ensures.entries
    c.in_ok-recall.ensures.kept c.in_ok-kept.ensures.recall in
    rw kept
    (swaps_fresh (plan_after swap) swap.alikes.now (g.V.GraphView.graph c.args.view.now) was first
    (answered c.evaluate_swapped.new.answers) c.in_ok-renewal.renewal.entering.items c.args.nested.now
    c.evaluate_swapped.new.nested c.in_ok-renewal.ensures.entering
    (staying_recalled swap was first c.in_ok-answers.ensures) c.in_ok-evaluated.ensures.nested)
