use Rattle.std.proofs.Common.{◌≡◌, ◌<◌, ◌∙◌, Some, Ok, Err, IfOk, ap, arith, length, position, slice_get}
use Rattle.std.proofs.Common.{subst, sym}
use Rattle.std.specs.Result.{result_ok}
use Rattle.shx_term.specs.Pool.{IsPool, Pooled}
use Rattle.shx_term.specs.TermOrder.{same_term}
use Rattle.shx_term.specs.inner.TermOrderLaws.{same_term_exact}
use Rattle.shx_term.proofs.HeldLemmas.{number_entered}
use Rattle.shx_term.proofs.PlaceLemmas.{slice_get-position}
use Rattle.shx_term.proofs.VocabularyLemmas.{IsPool-entered}
use Rattle.shx_term.proofs.pool.Pool.enter_own.Goals as goal

pub returns-then-len-self-clause-id : goal.returns-then-len-self-clause-id
returns-then-len-self-clause-id c =
    let terms = c.args.self.now.terms in
    let t = c.args.term in
    elim c.ok_or.result as (λ r. c.find.result ≡ result_ok r → IfOk r (λ id. slice_get terms id ≡ Some t)) [
      | Ok id ↦ λ found. slice_get-position terms t id (sym c.find.ensures.place ∙ found)
      | Err fault ↦ λ _. tt
    ] c.ok_or.ensures.ok_part

pub invariant_of-self-2 : goal.invariant_of-self-2
invariant_of-self-2 c =
    let pool = c.self.inside in
    let below : length pool.terms.keys < pool.limit =
    omega (arith, ap (λ (pooled : Pooled). length pooled.terms) c.self.view_is) in
    subst (λ terms. IsPool terms pool.limit) (sym c.in_ok-index.ensures.keys)
    (IsPool-entered pool.terms.keys pool.limit c.args.term below c.self.invariant)

pub returns-clause-found : goal.returns-clause-found
returns-clause-found c =
    ap (position (same_term c.args.term)) c.in_ok-index.ensures.keys
    ∙ number_entered c.self.inside.terms.keys c.args.term
    ∙ ap Some (sym c.in_ok-index.ensures.index)

pub returns-clause-id : goal.returns-clause-id
returns-clause-id c =
    let held = c.in_ok-index.ensures.stored in
    held.1 ∙ ap Some (sym (same_term_exact c.args.term held.0 held.2))
