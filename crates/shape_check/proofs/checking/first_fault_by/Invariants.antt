use Rattle.std.specs.Prelude.{flat_map, map}
use Rattle.shape_decl.specs.Declarations.{told_decl, told_values}
use Rattle.shape_check.specs.Faults.{fault_at, first}
use Rattle.shape_check.specs.inner.Judging.{offenders_in}
use Rattle.shape_decl.proofs.LeftLemmas.{IsLeft}
use Rattle.shape_check.proofs.checking.first_fault_by.Given as goal

abbrev pub invariant-loop-declared : goal.invariant-loop-declared
invariant-loop-declared l =
    IsLeft
    (λ values. first (flat_map (λ v. map (fault_at l.rule (told_decl l.judged.decl.now) v.predicate)
    (offenders_in l.judged l.rule v)) (map told_values values)))
    l.declared-items l.declared-index
