use Rattle.std.specs.Prelude.{◌≡◌, [], take}
use Rattle.indexmap.specs.IndexSet.{insert_all}
use Rattle.path_eval.specs.inner.StateLaws.{same_state}
use Rattle.path_eval.proofs.held.hashed.Given as goal

abbrev pub invariant-loop-state : goal.invariant-loop-state
invariant-loop-state l = l.all.keys ≡ insert_all same_state [] (take l.state-index l.states)
