use Rattle.shacl_run.proofs.CompleteLemmas.{no_input_fault}
use Rattle.shacl_run.proofs.complete.honest_inputs_never_fail.Goals as goal

pub returns : goal.returns
returns c = λ limits words before after status texts texts' is is' runs.
    no_input_fault limits words before after status texts texts' is is' runs
