use Rattle.std.proofs.lemmas.Result.{IfOk-weaker, on_ok_weaker}
use Rattle.path_eval.proofs.ValueLemmas.{found_known, found_reads, reached_nodes}
use Rattle.path_eval.proofs.path_values.reach_laid.Goals as goal

pub returns-clause-nodes : goal.returns-clause-nodes
returns-clause-nodes g c = λ d route same last.
    IfOk-weaker c.search.result _ _
    (λ found. reached_nodes (g.V.GraphView.graph c.args.view.now) c.pool.ensures.known d route c.args.start
    c.args.edges.now c.args.end same last found.items)
    c.search.ensures.nodes

pub returns-clause-known : goal.returns-clause-known
returns-clause-known g c = λ d route same last.
    IfOk-weaker c.search.result _ _
    (λ found. found_known (g.V.GraphView.graph c.args.view.now) c.pool.ensures.known d route c.args.start
    found.items)
    (returns-clause-nodes g c d route same last)

pub returns-clause-reads : goal.returns-clause-reads
returns-clause-reads g c = λ d route same last.
    on_ok_weaker c.search.result
    (found_reads (g.V.GraphView.graph c.args.view.now) c.pool.ensures.known d route c.args.start
    c.args.edges.now c.args.end same last g.met.N.Notes.laws c.args.reads.now c.search.new.reads)
    c.search.ensures.reads
