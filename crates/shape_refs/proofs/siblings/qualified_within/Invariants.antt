use Rattle.std.specs.Prelude.{◌≡◌, flat_map, map, take}
use Rattle.shx_term.specs.declared.vocabulary.TheConstants.{SH_QUALIFIED_VALUE_SHAPE}
use Rattle.shape_decl.specs.Declarations.{told_decl, values_under}
use Rattle.shape_refs.specs.References.{declared_at}
use Rattle.shape_refs.proofs.siblings.qualified_within.Given as goal

abbrev pub invariant-loop-node : goal.invariant-loop-node
invariant-loop-node l =
    l.found.items
    ≡ flat_map (λ node. flat_map (λ d. values_under d SH_QUALIFIED_VALUE_SHAPE)
    (declared_at (map told_decl l.declared.decls.now) node)) (take l.node-index l.node-items)
