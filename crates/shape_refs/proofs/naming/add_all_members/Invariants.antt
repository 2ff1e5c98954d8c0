use Rattle.std.specs.Prelude.{◌≡◌, ◌++◌, flat_map, take}
use Rattle.shape_decl.specs.Declarations.{told_decl}
use Rattle.shape_refs.specs.References.{members_under}
use Rattle.shape_refs.proofs.naming.add_all_members.Given as goal

abbrev pub invariant-loop-p : goal.invariant-loop-p
invariant-loop-p l =
    l.found.items
    ≡ l.fn.found.items ++ flat_map (members_under (told_decl l.decl)) (take l.p-index l.predicates)
