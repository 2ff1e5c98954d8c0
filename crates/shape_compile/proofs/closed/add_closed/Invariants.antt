use Rattle.std.specs.Prelude.{◌≡◌, ℕ, List, ◌++◌, map, take}
use Rattle.comp_core.specs.declared.kinds.TheConstants.{CLOSED}
use Rattle.shape_decl.specs.Declarations.{told_decl}
use Rattle.shape_compile.specs.Constraints.{closes, each_true, said_by}
use Rattle.shape_compile.proofs.closed.add_closed.Given as goal

abbrev pub invariant-loop-value : goal.invariant-loop-value
invariant-loop-value l = (nodes : List ℕ) → map (said_by nodes) l.out.items
    ≡ map (said_by nodes) l.fn.out.items
    ++ each_true l.declared.pool.now.terms CLOSED
    (closes (map told_decl l.declared.decls.now) (told_decl l.decl)) (take l.value-index l.value-items)
