use Rattle.pair_results.proofs.StagedLemmas.{AddsAt-inserted}
use Rattle.pair_results.proofs.staging.insert.Goals as goal

pub returns-clause-staged : goal.returns-clause-staged
returns-clause-staged c =
    AddsAt-inserted c.args.staged.now.entries c.insert.new.self.entries c.args.shape c.args.node.now
    c.in_ok-node.node c.args.rows c.in_ok-node.ensures c.in_ok-insert.ensures.entries
    c.in_ok-insert.ensures.updates.0
