use Rattle.graph_view.proofs.ValidLemmas.{IsValidView-entered}
use Rattle.edit_engine.proofs.stated.number.Goals as goal

pub returns-in-Ok-clause-valid : goal.returns-in-Ok-clause-valid
returns-in-Ok-clause-valid g c = λ valid narrow.
    IsValidView-entered (g.E.GraphView.graph c.args.graph.now) (g.E.GraphView.graph c.enter.new.self)
    c.args.term.now valid narrow c.in-Ok.ensures.entered c.in-Ok.ensures.triples
