use Rattle.shacl_run.proofs.CompleteLemmas.{undisturbed}
use Rattle.shacl_run.proofs.complete.an_undisturbed_run_is_due.Goals as goal

pub returns : goal.returns
returns c = λ limits readings words before after status runs calm.
    undisturbed limits readings words before after status runs calm
