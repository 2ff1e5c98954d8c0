use Rattle.std.specs.Prelude.{List, ◌++◌, flat_map}
use Rattle.std.proofs.Common.{sym, ap, ◌∙◌}
use Rattle.std.proofs.lemmas.List.{take_all}
use Rattle.std.proofs.lemmas.List.Folds.{flat_map-map}
use Rattle.shape_decl.specs.declared.declaration.ListValue.{ListValue}
use Rattle.shape_decl.specs.Declarations.{ListReading, told_list}
use Rattle.shape_decl.specs.Shapes.{members_or_none}
use Rattle.shape_refs.proofs.naming.add_members.Goals as goal

pub returns : goal.returns
returns c =
    let before = c.args.found.now.items in
    let lists = c.lists_of-list-items.result.now in
    let members = λ (list : ListReading). members_or_none list.members in
    c.loop-list.invariant
    ∙ ap (λ (ls : List ListValue). before ++ flat_map (λ l. members (told_list l)) ls)
    (take_all c.loop-list.list-index lists c.loop-list-test.false)
    ∙ ap (λ ns. before ++ ns)
    (sym (flat_map-map members told_list lists) ∙ ap (flat_map members) c.lists_of-list-items.ensures)
