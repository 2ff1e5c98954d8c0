use Rattle.graph_rows.proofs.tests.steps.exchanged.Goals as goal

pub exchange-requires : goal.exchange-requires
exchange-requires g c = record {
  patch = rw (c.triples-new.ensures, c.triples-gone.ensures) (c.is_patch.ensures c.if-is_patch.true);
}
