use Rattle.command_words.specs.Words.{command_words}
use Rattle.shacl_run.proofs.AdmittedLemmas.{all_admitted}
use Rattle.shacl_rows.proofs.tests.honest.run_honestly.Goals as goal

pub run-requires-clause-patterns : goal.run-requires-clause-patterns
run-requires-clause-patterns g c =
    all_admitted c.args.limits.now _ (λ flags text. tt) (command_words c.args.words.now) _
