use Rattle.std.specs.Prelude.{map}
use Rattle.shape_decl.specs.Declarations.{told_decl}
use Rattle.shape_check.specs.Faults.{faults_of}
use Rattle.shape_check.proofs.LeftLemmas.{first_found, none_found}
use Rattle.shape_check.proofs.checking.check_each.Goals as goal

pub returns-in-Some-clause-refused : goal.returns-in-Some-clause-refused
returns-in-Some-clause-refused c =
    let decls = c.args.decls.now in
    first_found (faults_of c.args.pool.now.terms (map told_decl decls)) told_decl decls
    c.loop-decl.decl-index c.decl-item.result c.in-Some.fault c.loop-decl.invariant
    c.loop-decl-test.true c.decl-item.is
    (rw c.in_ok-property_shapes.ensures at c.in-Some.ensures)

pub returns-clause-accepted : goal.returns-clause-accepted
returns-clause-accepted c =
    let decls = c.args.decls.now in
    none_found (faults_of c.args.pool.now.terms (map told_decl decls)) told_decl decls
    c.loop-decl.decl-index c.loop-decl.invariant c.loop-decl-test.false
