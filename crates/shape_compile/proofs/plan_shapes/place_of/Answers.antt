use Rattle.std.specs.Prelude.{map, Some, None}
use Rattle.std.proofs.Common.{sym, ◌∙◌}
use Rattle.shape_decl.specs.Declarations.{told_decl}
use Rattle.shape_refs.specs.Order.{nodes_declared}
use Rattle.shape_refs.proofs.PlaceLemmas.{told_place}
use Rattle.shape_compile.proofs.NumberLemmas.{node_of_found, none_not_found}
use Rattle.shape_compile.proofs.PlaceLemmas.{Contains-place}
use Rattle.shape_compile.proofs.plan_shapes.place_of.Goals as goal

pub unreachable-requires : goal.unreachable-requires
unreachable-requires c =
    let decls = c.args.declared.now.decls.now in
    let node = c.node.result in
    let held = Contains-place c.args.order.now.nodes.keys c.args.number node c.node.ensures in
    none_not_found (nodes_declared (map told_decl decls)) node ((c.requires.order.declared.each node).0 held)
    (told_place decls node c.place.result None c.place.ensures.place c.in-None.is)

pub returns : goal.returns
returns c =
    let decls = c.args.declared.now.decls.now in
    let node = c.node.result in
    let at = c.in-Some.at in
    let found = told_place decls node c.place.result (Some at) c.place.ensures.place c.in-Some.is in
    c.node.ensures ∙ sym (node_of_found (nodes_declared (map told_decl decls)) node at found)
