use Rattle.std.specs.Prelude.{Contains, map}
use Rattle.std.proofs.Common.{arith, ap, ◌∙◌}
use Rattle.std.proofs.lemmas.List.Elements.{All-same}
use Rattle.shape_decl.specs.Declarations.{told_decl}
use Rattle.shape_compile.specs.Constraints.{count_constraints, other_constraints, pair_constraints, said_by}
use Rattle.shape_compile.specs.Constraints.{shape_constraints, text_constraints, value_constraints}
use Rattle.shape_compile.proofs.NamedLemmas.{All_named, All_siblings, All_values}
use Rattle.shape_compile.proofs.SayingLemmas.{six_in_turn}
use Rattle.shape_compile.proofs.constraints.constraints_of.Goals as goal

pub add_shapes-requires : goal.add_shapes-requires
add_shapes-requires c =
    All_named (Contains c.args.order.now.nodes.keys) (told_decl c.args.decl.now)
    c.args.declared.now.pool.now.terms (map told_decl c.args.declared.now.decls.now) c.requires.named

pub add_counts-requires-clause-shapes : goal.add_counts-requires-clause-shapes
add_counts-requires-clause-shapes c =
    let known = Contains c.args.order.now.nodes.keys in
    let d = told_decl c.args.decl.now in
    All_values known d
    (All_named known d c.args.declared.now.pool.now.terms (map told_decl c.args.declared.now.decls.now)
    c.requires.named) 3 (omega arith)

pub add_counts-requires-clause-siblings : goal.add_counts-requires-clause-siblings
add_counts-requires-clause-siblings c =
    let known = Contains c.args.order.now.nodes.keys in
    All-same known c.args.siblings.now _ c.requires.siblings
    (All_siblings known (told_decl c.args.decl.now) c.args.declared.now.pool.now.terms
    (map told_decl c.args.declared.now.decls.now) c.requires.named)

pub returns-clause-said : goal.returns-clause-said
returns-clause-said c =
    let nodes = c.args.order.now.nodes.keys in
    let d = told_decl c.args.decl.now in
    let terms = c.args.declared.now.pool.now.terms in
    let ds = map told_decl c.args.declared.now.decls.now in
    c.read_terms.ensures.said nodes
    ∙ six_in_turn (value_constraints d) (text_constraints terms d) (pair_constraints d) (shape_constraints d)
    (count_constraints terms ds d) (other_constraints terms ds d)
    (ap (map (said_by nodes)) c.new-out.ensures.items)
    (rw (c.of_values.ensures d) at (c.in_ok-add_values.ensures nodes))
    (c.in_ok-add_texts.ensures nodes)
    (rw (c.of_pairs.ensures d) at (c.in_ok-add_values-2.ensures nodes))
    c.in_ok-add_shapes.ensures
    (rw c.requires.siblings at c.in_ok-add_counts.ensures)
    (c.in_ok-add_others.ensures nodes)
