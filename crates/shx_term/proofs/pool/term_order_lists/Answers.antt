use Rattle.shx_term.proofs.IdOrderLemmas.{in_term_order_lists}
use Rattle.shx_term.proofs.TripleOrderLemmas.{in_triple_order_lists}
use Rattle.shx_term.proofs.pool.term_order_lists.Goals as goal

pub returns-clause-ids : goal.returns-clause-ids
returns-clause-ids c = in_term_order_lists

pub returns-clause-triples : goal.returns-clause-triples
returns-clause-triples c = in_triple_order_lists
