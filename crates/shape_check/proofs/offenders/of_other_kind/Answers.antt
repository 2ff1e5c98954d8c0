use Rattle.std.specs.Prelude.{not}
use Rattle.std.proofs.Common.{rules, sym, ap, ◌∙◌}
use Rattle.shape_check.specs.Kinds.{is_of_kind}
use Rattle.shape_check.proofs.FirstLemmas.{first-filter}
use Rattle.shape_check.proofs.ListLemmas.{first_member-told}
use Rattle.shape_check.proofs.offenders.of_other_kind.Goals as goal

pub returns-in-Each : goal.returns-in-Each
returns-in-Each c =
    let expected = sym (ap (λ r. r.expected) c.restriction_of.ensures) ∙ c.in-Each.is in
    rw (expected, first-filter) (search rules)

pub returns-in-Lists : goal.returns-in-Lists
returns-in-Lists c =
    let judged = c.args.judged.now in
    let expected = sym (ap (λ r. r.expected) c.restriction_of.ensures) ∙ c.in-Lists.is in
    rw expected
    (c.first_unfit_member.ensures
    ∙ first_member-told (λ n. not (is_of_kind judged.pool.now.terms c.in-Lists.kind n))
    c.lists_of.result.now _ c.lists_of.ensures)
