use Rattle.std.specs.Prelude.{Contains}
use Rattle.std.proofs.Common.{ap, ◌∙◌}
use Rattle.std.proofs.lemmas.List.Elements.{All-same}
use Rattle.shape_decl.specs.Declarations.{lists_under, told_decl}
use Rattle.shape_compile.specs.inner.Shapes.{shape_list_predicate}
use Rattle.shape_compile.proofs.NamedLemmas.{All_in_list}
use Rattle.shape_compile.proofs.of_shape_list.add_of_shape_list.Goals as goal

pub numbers_of-requires : goal.numbers_of-requires
numbers_of-requires c =
    let d = told_decl c.args.decl.now in
    let known = Contains c.args.order.now.nodes.keys in
    let lists = lists_under d (shape_list_predicate c.args.parameter) in
    All-same known c.members_of.result.now _ c.members_of.ensures
    (All_in_list known c.lists_of-list-items.result.now lists
    (c.lists_of-list-items.ensures ∙ ap (lists_under d) c.predicate.ensures) c.requires
    c.loop-list.list-index c.list-item.result c.loop-list-test.true c.list-item.is)
