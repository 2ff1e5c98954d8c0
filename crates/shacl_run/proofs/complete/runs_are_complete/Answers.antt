use Rattle.shacl_run.proofs.CompleteLemmas.{complete}
use Rattle.shacl_run.proofs.complete.runs_are_complete.Goals as goal

pub returns : goal.returns
returns c =
    λ limits words before after status runs nothing. complete limits words before after status runs nothing
