use Rattle.std.proofs.Common.{◌≡◌, List, None, ap, map, sym, ◌∙◌, subst}
use Rattle.shx_term.specs.declared.triple.Triple.{Triple}
use Rattle.graph_view.specs.Graph.{Graph}
use Rattle.pair_slice.specs.Slice.{slice_triples}
use Rattle.report_write.specs.Answers.{slice_answers}
use Rattle.script_run.specs.Replies.{Replies}
use Rattle.script_run.specs.Script.{Step, answers, slice_step, stays}
use Rattle.script_run.proofs.ScriptRunLemmas.{Replies-slice}
use Rattle.script_run.proofs.SliceLemmas.{pair_kept, slice_kept}
use Rattle.script_run.proofs.slicing.slice.Goals as goal

pub returns-in_default-clause-replies : goal.returns-in_default-clause-replies
returns-in_default-clause-replies c = λ manner s work is.
    let script = c.args.script.now in
    let refused = c.refuse_line in
    let alike = c.same_graphs_answer_alike.ensures.pairs script.engine.plan s.graph script.engine.graph
    is.stores c.view.ensures.asked in
    let none = pair_kept manner.limits manner.format s script is alike c.args.shape.now c.args.node.now None
    (sym c.pair_of.ensures ∙ c.in_default.is) in
    subst (λ (step : Step). Replies manner step refused.result refused.new.script work work)
    (sym (ap (slice_step s) none)) (refused.ensures.replies manner s work is)

pub returns-clause-replies : goal.returns-clause-replies
returns-clause-replies c = λ manner s work is.
    let script = c.args.script.now in
    let law = c.same_graphs_answer_alike.ensures in
    let asked = c.view.ensures.asked in
    let alike = law.pairs script.engine.plan s.graph script.engine.graph is.stores asked in
    let reads = c.in-Some-2.reads in
    let read = rw c.in-Some-2.is at c.in_ok-reads.ensures.reads in
    let step = slice_kept manner.limits manner.format s script is alike c.args.shape.now c.args.node.now
    c.pair_of.result (sym c.pair_of.ensures) c.results_depend_on_reads.ensures asked c.in-Some.pair
    c.in-Some.is reads read in
    let told : slice_triples script.engine.graph reads ≡ c.in_ok-slice.slice =
    sym (c.in_ok-slice.ensures
    ∙ ap (λ (g : Graph). slice_triples g reads) c.view-2.ensures.graph) in
    subst (λ (step : Step). Replies manner step c.said.result c.said.new.script work work)
    (sym (step ∙ ap (λ (slice : List Triple). stays s (map answers (slice_answers slice))) told))
    (rw (c.said.ensures.reply, c.said.ensures.counted)
    (Replies-slice manner s script is work c.in_ok-slice.slice))

pub returns-in_default-clause-moves : goal.returns-in_default-clause-moves
returns-in_default-clause-moves c = c.refuse_line.ensures.moves c.requires.goes_on
