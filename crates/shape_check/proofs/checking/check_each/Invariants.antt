use Rattle.std.specs.Prelude.{flat_map, map}
use Rattle.shape_decl.specs.Declarations.{told_decl}
use Rattle.shape_check.specs.Faults.{faults_of, first}
use Rattle.shape_decl.proofs.LeftLemmas.{IsLeft}
use Rattle.shape_check.proofs.checking.check_each.Given as goal

abbrev pub invariant-loop-decl : goal.invariant-loop-decl
invariant-loop-decl l =
    IsLeft
    (λ decls. first (flat_map (faults_of l.pool.terms (map told_decl l.decls)) (map told_decl decls)))
    l.decls l.decl-index
