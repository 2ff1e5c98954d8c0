use Rattle.std.proofs.Common.{rules}
use Rattle.shape_decl.specs.Declarations.{told_decl}
use Rattle.shape_compile.proofs.RefusedLemmas.{IsRefusedPattern-here}
use Rattle.shape_compile.proofs.patterns.build_pattern.Goals as goal

pub returns-in-Err-Refused-clause-refused : goal.returns-in-Err-Refused-clause-refused
returns-in-Err-Refused-clause-refused g c =
    IsRefusedPattern-here c.args.pool.now.terms (told_decl c.args.decl.now) c.in-Some.value.now _
    (search rules) (search rules)
