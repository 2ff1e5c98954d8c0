use Rattle.shacl_run.proofs.CompleteLemmas.{no_pattern_refused}
use Rattle.shacl_run.proofs.NoPatternLemmas.{no_load_refused}
use Rattle.shacl_run.proofs.complete.no_pattern_is_never_refused.Goals as goal

pub returns-clause-shapes : goal.returns-clause-shapes
returns-clause-shapes c = λ limits words before readings has verdict judged.
    no_pattern_refused limits words before readings has verdict judged

pub returns-clause-loads : goal.returns-clause-loads
returns-clause-loads c = λ limits words before readings has verdict last loads lines output due all.
    no_load_refused limits words before readings has verdict last loads lines output due all
