use Rattle.std.specs.Prelude.{take, map}
use Rattle.shape_decl.specs.Declarations.{told_decl}
use Rattle.shape_refs.specs.inner.Near.{AreNear}
use Rattle.shape_refs.proofs.siblings.gather_near.Given as goal

abbrev pub invariant-loop-parent : goal.invariant-loop-parent
invariant-loop-parent l =
    AreNear l.declared.pool.now.terms (map told_decl l.declared.decls.now)
    (map told_decl (take l.parent-index l.declared.decls.now)) l.rows.items
