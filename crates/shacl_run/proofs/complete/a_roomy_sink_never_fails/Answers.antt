use Rattle.shacl_run.proofs.CompleteLemmas.{no_write_fault}
use Rattle.shacl_run.proofs.complete.a_roomy_sink_never_fails.Goals as goal

pub returns : goal.returns
returns c = λ limits words before after status readings shapes has runs.
    no_write_fault limits readings words before after status shapes has runs
