use Rattle.pair_results.proofs.OrderLemmas.{stand_in_term_order}
use Rattle.pair_results.proofs.laws.results_stand_in_term_order.Goals as goal

pub returns : goal.returns
returns c = stand_in_term_order
