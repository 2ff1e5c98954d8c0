use Rattle.std.specs.Prelude.{ℕ, ◌++◌, get_or, map, take}
use Rattle.std.proofs.Common.{sym, ap, ◌∙◌}
use Rattle.std.proofs.lemmas.List.{flat_map_more, take_more}
use Rattle.shape_decl.specs.Declarations.{told_decl}
use Rattle.shape_refs.specs.inner.Places.{if_any, place_of, places_of}
use Rattle.shape_refs.proofs.references.add_places.Goals as goal

pub loop-node-preserved : goal.loop-node-preserved
loop-node-preserved c =
    let ds = map told_decl c.args.declared.now.decls.now in
    let nodes = c.args.nodes.now in
    let i = c.loop-node.node-index in
    let place = λ (node : ℕ). if_any (place_of ds node) in
    let before = c.args.row.now.items in
    c.in_ok-add_place.ensures
    ∙ ap (λ row. row ++ place (get_or nodes i 0)) c.loop-node.invariant
    ∙ flat_map_more place before (take i nodes) (get_or nodes i 0)
    ∙ ap (λ ns. before ++ places_of ds ns) (sym (take_more nodes i 0 c.loop-node-test.true))
