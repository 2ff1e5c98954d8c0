use Rattle.std.specs.Prelude.{◌≡◌, ◌++◌, flat_map, take}
use Rattle.shape_decl.specs.Declarations.{told_list}
use Rattle.shape_decl.specs.Shapes.{members_or_none}
use Rattle.shape_refs.proofs.naming.add_members.Given as goal

abbrev pub invariant-loop-list : goal.invariant-loop-list
invariant-loop-list l =
    l.found.items
    ≡ l.fn.found.items
    ++ flat_map (λ list. members_or_none (told_list list).members) (take l.list-index l.list-items)
