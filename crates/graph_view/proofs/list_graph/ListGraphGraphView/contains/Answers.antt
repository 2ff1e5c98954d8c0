use Rattle.graph_view.proofs.TripleSetLemmas.{triple_held}
use Rattle.graph_view.proofs.list_graph.ListGraphGraphView.contains.Goals as goal

pub returns : goal.returns
returns c =
    rw (← c.self.view_is)
    (triple_held c.self.inside.triples.keys c.args.t.now c.contains.result c.contains.ensures)
