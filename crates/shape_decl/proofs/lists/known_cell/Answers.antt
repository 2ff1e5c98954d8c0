use Rattle.shape_decl.specs.inner.Kept.{IsCellAt}
use Rattle.shape_decl.proofs.KeptLemmas.{keeps_more}
use Rattle.shape_decl.proofs.lists.known_cell.Goals as goal

pub returns-clause-known : goal.returns-clause-known
returns-clause-known g c = record {
  cells = keeps_more (IsCellAt (g.V.GraphView.graph c.args.graph.now)) c.args.readings.now.cells
      c.insert.new.self c.args.node c.in_ok-cell.cell c.requires.cells c.in_ok-insert.ensures.updates
      c.in_ok-cell.ensures;
  lists = c.requires.lists;
}
