-- What rules say of what the code looks at.
use Rattle.std.specs.Prelude.{ℕ, List, map}
use Rattle.shape_decl.specs.Declarations.{Values, told_decl}
use Rattle.shape_check.specs.declared.fault.ShapeFault.{ShapeFault}
use Rattle.shape_check.specs.declared.judged.Judged.{Judged}
use Rattle.shape_check.specs.declared.rule.Rule.{Rule}
use Rattle.shape_check.specs.Faults.{faults_by, faults_of, offenders}

abbrev pub offenders_in : Judged → Rule → Values → List ℕ
offenders_in judged rule v =
    offenders rule judged.pool.now.terms (map told_decl judged.property_shapes.now.decls.now)
    (told_decl judged.decl.now) v

abbrev pub faults_by_in : Judged → Rule → List ShapeFault
faults_by_in judged rule =
    faults_by judged.pool.now.terms (map told_decl judged.property_shapes.now.decls.now)
    (told_decl judged.decl.now) rule

abbrev pub faults_in : Judged → List ShapeFault
faults_in judged =
    faults_of judged.pool.now.terms (map told_decl judged.property_shapes.now.decls.now)
    (told_decl judged.decl.now)
