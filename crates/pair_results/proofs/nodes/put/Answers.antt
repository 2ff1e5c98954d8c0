use Rattle.std.proofs.Common.{ap, sym, ◌∙◌}
use Rattle.std.specs.Prelude.{length}
use Rattle.pair_results.specs.PairResults.{rows_if_any}
use Rattle.pair_results.proofs.NodeLemmas.{count-put}
use Rattle.pair_results.proofs.nodes.put.Goals as goal

pub returns-clause-gone : goal.returns-clause-gone
returns-clause-gone c = c.len-gone.ensures ∙ ap (λ place. length (rows_if_any place)) c.in-Some.ensures.value

pub returns-clause-count : goal.returns-clause-count
returns-clause-count c =
    rw ((c.get_mut.follows.holds c.args.rows).0, c.len-gone.ensures)
    (count-put _ c.args.nodes.now.entries c.in-Some.held.now c.args.rows (sym c.in-Some.ensures.value))
