use Rattle.std.specs.Prelude.{[], take}
use Rattle.std.proofs.Common.{◌∙◌, sym, ap, get_or}
use Rattle.std.proofs.lemmas.List.{take_all, take_more}
use Rattle.indexmap.specs.IndexSet.{insert_all, insert_key}
use Rattle.indexmap.proofs.SetLemmas.{set_all_push, set_all_distinct}
use Rattle.path_eval.specs.declared.edge.State.{State}
use Rattle.path_eval.specs.inner.StateLaws.{same_state, same_state_equiv}
use Rattle.path_eval.proofs.held.hashed.Goals as goal

pub loop-state-preserved : goal.loop-state-preserved
loop-state-preserved c =
    let states = c.args.states.now in
    let i = c.loop-state.state-index in
    let none : State = record { place = 0; node = 0 } in
    let state = get_or states i none in
    c.in_ok-insert.ensures.keys
    ∙ ap (λ keys. insert_key same_state keys state) c.loop-state.invariant
    ∙ sym (set_all_push same_state [] (take i states) state)
    ∙ ap (insert_all same_state []) (sym (take_more states i none c.loop-state-test.true))

pub returns : goal.returns
returns c =
    let states = c.args.states.now in
    (λ i. (c.in_ok-new.ensures.ok i).keys)
    ∙ c.loop-state.invariant
    ∙ ap (insert_all same_state []) (take_all c.loop-state.state-index states c.loop-state-test.false)
    ∙ set_all_distinct same_state_equiv [] states c.requires
