use Rattle.std.specs.Prelude.{◌==◌, ℕ, Bool, get_or, unwrap_or, ◌||◌}
use Rattle.std.specs.List.{list_any}
use Rattle.std.proofs.Common.{sym, ap, ◌∙◌}
use Rattle.std.proofs.lemmas.List.{take_all}
use Rattle.std.proofs.lemmas.List.Folds.{list_any_more}
use Rattle.id_list.proofs.InsertLemmas.{any_inserted}
use Rattle.id_list.proofs.list.set_of.Goals as goal

pub loop-id-preserved : goal.loop-id-preserved
loop-id-preserved c id =
    let test : ℕ → Bool = λ other. other == id in
    let k = get_or c.args.ids.now c.loop-id.id-index 0 in
    ap (list_any test) c.in_ok-insert.ensures.keys
    ∙ any_inserted test k c.loop-id.set.keys
    ∙ ap (λ b. b || test k) (c.loop-id.invariant id)
    ∙ sym (list_any_more test c.args.ids.now c.loop-id.id-index 0 c.loop-id-test.true)

pub returns : goal.returns
returns c set is id =
    let test : ℕ → Bool = λ other. other == id in
    sym (ap (λ found. list_any test (unwrap_or found c.loop-id.set).keys) is) ∙ c.loop-id.invariant id
    ∙ ap (list_any test) (take_all c.loop-id.id-index c.args.ids.now c.loop-id-test.false)
