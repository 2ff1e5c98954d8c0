use Rattle.std.specs.Prelude.{Bool, ℕ, find, not}
use Rattle.std.proofs.Common.{sym, ap, ◌∙◌}
use Rattle.shape_decl.specs.Declarations.{told_list}
use Rattle.shape_decl.specs.Shapes.{members_or_none}
use Rattle.shape_check.specs.Kinds.{is_of_kind}
use Rattle.shape_check.proofs.ListLemmas.{found_first, found_here}
use Rattle.shape_check.proofs.lists.first_unfit_member.Goals as goal

pub returns-in-Some : goal.returns-in-Some
returns-in-Some c =
    let test : ℕ → Bool = λ n. not (is_of_kind c.args.pool.now.terms c.args.kind n) in
    sym (found_first test (λ list. members_or_none (told_list list).members) c.args.lists.now
    c.loop-list.list-index c.list-item.result c.loop-list-test.true c.list-item.is c.loop-list.invariant
    c.in-Some.id (sym (ap (find test) c.members.ensures) ∙ sym c.first_unfit.ensures ∙ c.in-Some.is))

pub loop-list-preserved : goal.loop-list-preserved
loop-list-preserved c =
    let test : ℕ → Bool = λ n. not (is_of_kind c.args.pool.now.terms c.args.kind n) in
    found_here test (λ list. members_or_none (told_list list).members) c.args.lists.now
    c.loop-list.list-index c.list-item.result c.loop-list-test.true c.list-item.is c.loop-list.invariant
    ∙ sym (ap (find test) c.members.ensures) ∙ sym c.first_unfit.ensures ∙ c.in_default.is
