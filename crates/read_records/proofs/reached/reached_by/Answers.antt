use Rattle.std.specs.Prelude.{◌++◌, [], ◌∷◌, length}
use Rattle.std.proofs.Common.{ap, ◌∙◌, arith, subst}
use Rattle.read_records.proofs.GainLemmas.{Gains-same}
use Rattle.read_records.proofs.RestLemmas.{are_touched, read_answer, read_touched}
use Rattle.read_records.proofs.SearchLemmas.{Searched-all, Searched-next, Searched-start}
use Rattle.read_records.specs.inner.Reached.{Gains, IsReadFrom}
use Rattle.read_records.specs.inner.Remembered.{as_recalled}
use Rattle.read_records.proofs.reached.reached_by.Goals as goal

pub loop-at-init : goal.loop-at-init
loop-at-init c =
    let state = as_recalled c.args.store.now in
    let changed = c.args.added.now ++ c.args.removed.now in
    let found = c.add_readers.new.reached.keys in
    let keys = c.deref.result.now in
    Searched-start (are_touched state changed) found
    (Gains-same (subst (λ ps. Gains ps found (IsReadFrom state keys)) c.new-reached.ensures.empty
    c.in_ok-add_readers.ensures)
    (read_touched state changed keys (rw c.deref.ensures.value c.in_ok-keys.ensures)))

pub loop-at-preserved : goal.loop-at-preserved
loop-at-preserved c =
    let state = as_recalled c.args.store.now in
    let changed = c.args.added.now ++ c.args.removed.now in
    let found = c.loop-at.reached.keys in
    let new = c.add_readers-in-loop-at.new.reached.keys in
    let slice = c.as_slice-in-loop-at.result.now in
    Searched-next (are_touched state changed) found c.loop-at.at c.loop-at.invariant slice _
    c.as_slice-in-loop-at.ensures.keys
    (omega (
      arith,
      c.loop-at-test.true,
      ap length c.as_slice.ensures.keys,
      ap length
          c.as_slice-in-loop-at.ensures.keys,
    ))
    new
    (Gains-same (subst (λ keys. Gains found new (IsReadFrom state keys))
    (c.from_ref.ensures.value ∙ ap (λ key. key ∷ []) c.answer_key-key.ensures) c.in_ok-add_readers-2.ensures)
    (read_answer state _))

pub returns : goal.returns
returns c =
    let state = as_recalled c.args.store.now in
    let changed = c.args.added.now ++ c.args.removed.now in
    Searched-all (are_touched state changed) c.loop-at.reached.keys c.loop-at.at c.loop-at.invariant
    (omega (arith, c.loop-at-test.false, ap length c.as_slice.ensures.keys))
