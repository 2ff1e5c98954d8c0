use Rattle.std.proofs.Common.{arith}
use Rattle.graph_view.proofs.PatchedLemmas.{length-patched}
use Rattle.graph_rows.proofs.tests.steps.is_countable.Goals as goal

pub returns-then-most-lt1000 : goal.returns-then-most-lt1000
returns-then-most-lt1000 g c = λ _.
    let most = length-patched (g.V.GraphView.graph c.args.view.now) c.args.added.now.triples
    c.args.removed.now.triples in
    omega (arith, most, c.len.ensures.count, c.len-2.ensures.count, c.saturating_add-most.ensures)
