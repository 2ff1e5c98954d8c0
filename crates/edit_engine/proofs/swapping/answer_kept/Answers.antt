use Rattle.std.proofs.Common.{◌∙◌, ap, arith, length}
use Rattle.plan_swap.specs.Renumbered.{rows_renumbered}
use Rattle.plan_swap.specs.Swap.{number_after, plan_after, plan_before}
use Rattle.plan_swap.proofs.LevelLemmas.{within_both}
use Rattle.edit_engine.proofs.TakenOverLemmas.{alike_before, none_recorded, taken_over}
use Rattle.edit_engine.proofs.swapping.answer_kept.Goals as goal

pub returns-in_default-reads_of : goal.returns-in_default-reads_of
returns-in_default-reads_of g c =
    let graph = g.V.GraphView.graph c.args.view.now in
    let none =
    none_recorded c.args.swap.now c.requires.swap c.shapes_are_numbered.ensures
    c.shapes_are_numbered-2.ensures graph in
    none c.args.kept.now c.requires.kept c.args.pair c.in-Some.before c.in-Some.ensures
    c.in_default-reads_of.ensures

pub rows_of-rows-requires : goal.rows_of-rows-requires
rows_of-rows-requires g c =
    let alike = alike_before c.args.swap.now c.requires.swap c.shapes_are_numbered.ensures
    c.shapes_are_numbered-2.ensures (g.V.GraphView.graph c.args.view.now) c.args.kept.now c.requires.kept
    c.args.pair c.in-Some.before c.in-Some.ensures in
    let within = (within_both (plan_before c.args.swap.now).shapes (plan_after c.args.swap.now).shapes
    (length (plan_after c.args.swap.now).shapes) c.in-Some.before.shape c.args.pair.shape alike.shapes).0 in
    omega (arith, within, c.requires.kept.places)

pub returns : goal.returns
returns g c =
    let found = c.in_ok-answer.ensures in
    let at = rw c.pool.ensures.terms at c.term.ensures in
    taken_over c.args.swap.now c.requires.swap c.shapes_are_numbered.ensures c.shapes_are_numbered-2.ensures
    (g.V.GraphView.graph c.args.view.now) c.args.kept.now c.requires.kept c.args.pair c.in-Some.before
    c.in-Some.ensures c.in-Some-reads_of.reads.now c.in-Some-reads_of.ensures
    c.alike_shapes_find_alike.ensures c.term.result.now at c.in_ok-answer.field-0
    (found.rows ∙ ap (rows_renumbered (number_after c.args.swap.now)) c.rows_of-rows.ensures) found.reads
