use Rattle.std.proofs.Common.{◌∙◌, Some, ap, position, sym}
use Rattle.shx_term.specs.TermOrder.{same_term}
use Rattle.shx_term.specs.inner.TermOrderLaws.{same_term_exact}
use Rattle.shx_term.proofs.HeldLemmas.{number_entered}
use Rattle.shx_term.proofs.PlaceLemmas.{slice_get-position}
use Rattle.shx_term.proofs.pool.Pool.enter.Goals as goal

pub returns-in-Some-clause-id : goal.returns-in-Some-clause-id
returns-in-Some-clause-id c =
    slice_get-position c.args.self.now.terms c.args.term.now c.in-Some.id (sym c.in-Some.ensures.place)

pub returns-clause-found : goal.returns-clause-found
returns-clause-found c =
    let entered = c.in_ok-index.ensures in
    ap (position (same_term c.args.term.now)) (rw c.in_ok-copy.ensures at entered.keys)
    ∙ number_entered c.self.inside.terms.keys c.args.term.now
    ∙ ap Some (sym (rw c.in_ok-copy.ensures at entered.index))

pub returns-clause-id : goal.returns-clause-id
returns-clause-id c =
    let held = c.in_ok-index.ensures.stored in
    held.1 ∙ ap Some (sym (same_term_exact c.in_ok-copy.copy held.0 held.2) ∙ c.in_ok-copy.ensures)
