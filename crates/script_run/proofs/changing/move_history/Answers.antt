use Rattle.script_run.proofs.ChangingLemmas.{some_behind, some_made}
use Rattle.script_run.proofs.changing.move_history.Goals as goal

pub undone-requires : goal.undone-requires
undone-requires c = some_made c.args.history.now (rw c.if-back.true at c.requires)

pub redone-requires : goal.redone-requires
redone-requires c = some_behind c.args.history.now (rw c.if-back.false at c.requires)
