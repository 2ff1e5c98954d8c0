use Rattle.std.specs.Prelude.{not}
use Rattle.std.specs.List.{list_any}
use Rattle.shx_term.specs.Triple.{same_triple}
use Rattle.shx_term.specs.declared.triple.Triple.{Triple}
use Rattle.engine_rows.proofs.RoomLemmas.{room_beside}
use Rattle.engine_rows.proofs.tests.watched.WatchedGraphEdit.exchange.Goals as goal

pub returns-then-refuses_change-clause-memory : goal.returns-then-refuses_change-clause-memory
returns-then-refuses_change-clause-memory c =
    let graph = c.args.self.now.graph in
    λ _. room_beside (λ (x : Triple). not (list_any (λ (y : Triple). same_triple y x) c.args.removed.now))
    graph.triples c.args.added.now graph.limit (c.refuses_change.ensures c.if-refuses_change.true)
