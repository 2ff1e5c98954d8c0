use Rattle.std.specs.Prelude.{[], ◌∷◌, ◌++◌, get_or, map, take}
use Rattle.std.proofs.Common.{sym, ap, ◌∙◌}
use Rattle.std.proofs.lemmas.List.{map-append, take_more}
use Rattle.shape_decl.specs.Declarations.{declaration_of, told_decl}
use Rattle.shape_decl.proofs.collecting.declare_shapes.Goals as goal

pub loop-node-preserved : goal.loop-node-preserved
loop-node-preserved g c =
    let declared = declaration_of c.args.limits.now (g.V.GraphView.graph c.args.graph.now) in
    let nodes = c.args.nodes.now in
    let i = c.loop-node.node-index in
    record {
      decls =
          ap (map told_decl) c.in_ok-push.ensures.items
          ∙ map-append told_decl c.loop-node.decls.items (c.in_ok-declare.field-0 ∷ [])
          ∙ (λ j. c.loop-node.invariant.decls j ++ c.in_ok-declare.ensures.declared j ∷ [])
          ∙ sym (map-append declared (take i nodes) (get_or nodes i 0 ∷ []))
          ∙ sym (ap (map declared) (take_more nodes i 0 c.loop-node-test.true));
      known = c.in_ok-declare.ensures.known;
    }
