use Rattle.std.specs.Prelude.{take, map}
use Rattle.comp_core.specs.TermTests.{is_among}
use Rattle.shape_decl.specs.Declarations.{told_decl}
use Rattle.shape_refs.specs.inner.Near.{AddsNear}
use Rattle.shape_refs.proofs.siblings.add_near.Given as goal

abbrev pub invariant-loop-node : goal.invariant-loop-node
invariant-loop-node l =
    AddsNear l.declared.pool.now.terms (map told_decl l.declared.decls.now)
    (λ node. is_among node (take l.node-index l.nodes)) l.near l.fn.rows.items l.rows.items
