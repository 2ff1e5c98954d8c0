use Rattle.std.proofs.Common.{subst, sym, ◌∙◌, ap}
use Rattle.std.specs.List.{IsDistinct, list_any}
use Rattle.std.proofs.lemmas.Map.Keys.{IsDistinct-push}
use Rattle.path_eval.specs.inner.HeldStates.{held_states}
use Rattle.path_eval.specs.inner.StateLaws.{same_state, same_state_equiv}
use Rattle.path_eval.proofs.held.Held.insert.Goals as goal

pub returns-then-len-lt-FEW-clause-distinct : goal.returns-then-len-lt-FEW-clause-distinct
returns-then-len-lt-FEW-clause-distinct c =
    let states = c.in-Few.states.items in
    let distinct = subst (λ held. IsDistinct same_state (held_states held)) c.in-Few.is c.requires.distinct in
    let absent =
    ap (list_any (same_state c.args.state)) (sym c.deref.ensures.value) ∙ sym c.is_listed.ensures
    ∙ c.if-is_listed.false in
    rw c.in_ok-push-in-Few.ensures.items
    (IsDistinct-push same_state_equiv states c.args.state distinct absent)
