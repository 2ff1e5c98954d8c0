use Rattle.std.proofs.Common.{◌∙◌, ap, length}
use Rattle.graph_view.specs.Graph.{Graph}
use Rattle.script_run.proofs.ScriptRunLemmas.{counts_kept}
use Rattle.script_run.proofs.script_run.ScriptRun.count.Goals as goal

pub returns : goal.returns
returns c = λ manner s is.
    let script = c.args.self.now in
    let law = c.same_graphs_answer_alike.ensures in
    let view = c.view.ensures in
    let plan = script.engine.plan in
    let graph = script.engine.graph in
    counts_kept manner.limits manner.format s script is (law.report plan s.graph graph is.stores view.asked)
    (law.pairs plan s.graph graph is.stores view.asked) c.len.result c.pair_count.result c.result_count.result
    (c.len.ensures.count ∙ ap (λ (g : Graph). length g.triples) view.graph) c.pair_count.ensures
    c.result_count.ensures
