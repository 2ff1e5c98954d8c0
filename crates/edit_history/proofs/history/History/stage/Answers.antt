use Rattle.edit_history.proofs.PastLemmas.{stages_pushed}
use Rattle.edit_history.proofs.history.History.stage.Goals as goal

pub returns-clause-staged : goal.returns-clause-staged
returns-clause-staged c = stages_pushed c.args.self.now c.drop_staged.new.self c.self.inside.is_staged
    c.self.inside.changes.items c.push.new.self.items c.self.inside.cursor c.self.inside.depth c.args.net
    c.self.view_is c.drop_staged.ensures c.self.invariant c.in_ok-push.ensures.items
