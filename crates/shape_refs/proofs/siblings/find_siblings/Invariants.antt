use Rattle.std.specs.Prelude.{◌≡◌, map, take}
use Rattle.shape_decl.specs.Declarations.{told_decl}
use Rattle.shape_refs.specs.References.{siblings_of}
use Rattle.shape_refs.proofs.siblings.find_siblings.Given as goal

abbrev pub invariant-loop-at : goal.invariant-loop-at
invariant-loop-at l =
    map (λ row. row.items) l.rows.items
    ≡ map (siblings_of l.declared.pool.now.terms (map told_decl l.declared.decls.now))
    (map told_decl (take l.at l.declared.decls.now))
