use Rattle.std.proofs.Common.{rules}
use Rattle.edit_history.proofs.PastLemmas.{enters_staged}
use Rattle.edit_history.proofs.history.History.commit.Goals as goal

pub returns : goal.returns
returns c = enters_staged c.args.self.now c.self.inside.is_staged c.self.inside.changes.items
    c.keep_latest.new.changes.items c.self.inside.cursor c.self.inside.depth c.len-self-inside.result
    c.self.view_is (search rules) (search rules) (search rules) (search rules)
