use Rattle.std.proofs.Common.{sym, ap, ◌∙◌, subst}
use Rattle.read_records.specs.Store.{if_noted}
use Rattle.read_records.specs.inner.Notes.{IsUntidy}
use Rattle.read_records.proofs.StoreLemmas.{IsStore-held, IsUntidy-entered, IsUntidy-staged, some_put}
use Rattle.read_records.proofs.store.Store.stage.Goals as goal

pub tidy-requires : goal.tidy-requires
tidy-requires g c =
    IsUntidy-entered c.self.invariant (record {
      reads = c.enter_note.ensures.reads;
      entries = c.enter_note.ensures.entries;
      stays = c.enter_note.ensures.readings;
      vacant = c.enter_note.ensures.vacant;
      only = c.enter_note.ensures.only;
    })

pub tidy-requires-in-Err-insert : goal.tidy-requires-in-Err-insert
tidy-requires-in-Err-insert g c =
    let untidy = IsUntidy-entered c.self.invariant (record {
      reads = c.enter_note.ensures.reads;
      entries = c.enter_note.ensures.entries;
      stays = c.enter_note.ensures.readings;
      vacant = c.enter_note.ensures.vacant;
      only = c.enter_note.ensures.only;
    }) in
    rw c.in-Err-insert.ensures.err
    (subst (IsUntidy _ _ _ c.args.reader) (sym (ap (λ e. e.1) c.in-Err-insert.ensures.value_returned)) untidy)

pub tidy-requires-in-Ok-Some : goal.tidy-requires-in-Ok-Some
tidy-requires-in-Ok-Some g c =
    let untidy = IsUntidy-staged c.self.invariant (record {
      reads = c.enter_note.ensures.reads;
      entries = c.enter_note.ensures.entries;
      stays = c.enter_note.ensures.readings;
      vacant = c.enter_note.ensures.vacant;
      only = c.enter_note.ensures.only;
    }) c.in_default.ensures.entered c.in_default.ensures.stands
    (record { each = c.in-Ok-Some.ensures.updates.0 }) in
    subst (IsUntidy _ _ _ c.args.reader)
    (sym (ap if_noted c.in-Ok-Some.ensures.old) ∙ ap if_noted c.in-Ok-Some.field-0-is) untidy

pub invariant_of-self-in-Ok-None : goal.invariant_of-self-in-Ok-None
invariant_of-self-in-Ok-None g c =
    let puts = c.in-Ok-None.ensures.updates.0 in
    IsStore-held (IsUntidy-staged c.self.invariant (record {
      reads = c.enter_note.ensures.reads;
      entries = c.enter_note.ensures.entries;
      stays = c.enter_note.ensures.readings;
      vacant = c.enter_note.ensures.vacant;
      only = c.enter_note.ensures.only;
    }) c.in_default.ensures.entered c.in_default.ensures.stands
    (record { each = puts }))
    (sym (ap if_noted c.in-Ok-None.ensures.old) ∙ ap if_noted c.in-Ok-None.field-0-is)
    (some_put (record { each = puts }))
