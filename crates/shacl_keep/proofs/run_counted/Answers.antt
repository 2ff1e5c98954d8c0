use Rattle.shx_term.specs.Limits.{program_limits}
use Rattle.command_words.specs.Words.{command_words}
use Rattle.shacl_run.proofs.AdmittedLemmas.{all_admitted, all_loads_admitted}
use Rattle.shacl_keep.proofs.run_counted.Goals as goal

pub run_program-requires-clause-patterns : goal.run_program-requires-clause-patterns
run_program-requires-clause-patterns g c =
    all_admitted program_limits _ (λ flags text. tt) (command_words c.args.words.now) _

pub run_program-requires-clause-loads : goal.run_program-requires-clause-loads
run_program-requires-clause-loads g c =
    all_loads_admitted program_limits (λ role name. Unit {0}) (λ flags text. Unit {0}) (λ name. tt)
    (λ flags text. tt) (command_words c.args.words.now) _
