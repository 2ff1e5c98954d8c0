use Rattle.std.specs.Prelude.{◌≡◌, None, find, flat_map, not, take}
use Rattle.shape_decl.specs.Declarations.{told_list}
use Rattle.shape_decl.specs.Shapes.{members_or_none}
use Rattle.shape_check.specs.Kinds.{is_of_kind}
use Rattle.shape_check.proofs.lists.first_unfit_member.Given as goal

abbrev pub invariant-loop-list : goal.invariant-loop-list
invariant-loop-list l =
    find (λ n. not (is_of_kind l.pool.terms l.kind n))
    (flat_map (λ list. members_or_none (told_list list).members) (take l.list-index l.lists)) ≡ None
