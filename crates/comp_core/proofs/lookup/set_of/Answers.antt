use Rattle.std.specs.Prelude.{[], nat_eq, get_or}
use Rattle.std.specs.Cmp.{nat_eq_equiv}
use Rattle.std.proofs.Common.{subst}
use Rattle.std.proofs.lemmas.Bool.{eqb-true}
use Rattle.std.proofs.lemmas.List.{take_all}
use Rattle.shx_term.specs.Members.{Adds}
use Rattle.shx_term.proofs.SetLemmas.{Adds-insert, Adds-take_one}
use Rattle.comp_core.proofs.MemberTestLemmas.{added_among}
use Rattle.comp_core.proofs.lookup.set_of.Goals as goal

pub loop-id-preserved : goal.loop-id-preserved
loop-id-preserved c =
    let set = c.loop-id.set.keys in
    let id = get_or c.args.ids.now c.loop-id.id-index 0 in
    Adds-take_one c.args.ids.now c.loop-id.id-index 0 c.loop-id-test.true c.loop-id.invariant
    (rw c.in_ok-insert.ensures.keys (Adds-insert nat_eq nat_eq_equiv eqb-true set id))

pub returns : goal.returns
returns c =
    let set = c.loop-id.set.keys in
    let ids = c.args.ids.now in
    added_among set ids
    (subst (Adds [] set) (take_all c.loop-id.id-index ids c.loop-id-test.false) c.loop-id.invariant)
