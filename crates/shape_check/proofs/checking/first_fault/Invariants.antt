use Rattle.std.specs.Prelude.{flat_map}
use Rattle.shape_check.specs.Faults.{first}
use Rattle.shape_check.specs.inner.Judging.{faults_by_in}
use Rattle.shape_decl.proofs.LeftLemmas.{IsLeft}
use Rattle.shape_check.proofs.checking.first_fault.Given as goal

abbrev pub invariant-loop-rule : goal.invariant-loop-rule
invariant-loop-rule l =
    IsLeft (λ rules. first (flat_map (faults_by_in l.judged) rules)) l.rule-items l.rule-index
