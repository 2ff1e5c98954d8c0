use Rattle.std.specs.Prelude.{◌≡◌, Some, None}
use Rattle.std.proofs.Common.{sym, ap, ◌∙◌}
use Rattle.std.specs.Option.{option_copied}
use Rattle.read_records.proofs.StoreLemmas.{AreNeeded-held, AreNeeded-vacated, HavePlaces-vacated}
use Rattle.read_records.proofs.StoreLemmas.{SameNoted-put}
use Rattle.read_records.proofs.StoreLemmas.{none_there, not_vacant, some_there}
use Rattle.read_records.specs.Store.{note_at, if_noted}
use Rattle.read_records.proofs.notes.vacate_place.Goals.{in-Some-None, in-Some-Some, in-None}
use Rattle.read_records.proofs.notes.vacate_place.Given.{Over}
use Rattle.read_records.proofs.notes.vacate_place.Goals as goal

-- nothing was read, and nothing stands among the others
vacant : (g : Over) (c : goal.Joined-remove g)
    → (note_at c.args.notes.now.entries c.args.reader.now ≡ Some None)
    × (note_at c.args.others.now.entries c.args.reader.now ≡ None)
vacant g c = elim c.match-get.branch [
  | in-Some-None w ↦ (
    sym c.get.ensures.value ∙ ap option_copied w.in-Some-None.is ∙ ap Some w.in-Some-None.field-0-is,
    none_there _ _ w.contains_key.ensures (sym w.is_vacant-is ∙ c.if-is_vacant.true),
  )
  | in-Some-Some w ↦ cc
  | in-None w ↦ cc
]

pub returns-then-is_vacant-clause-reads : goal.returns-then-is_vacant-clause-reads
returns-then-is_vacant-clause-reads g c =
    SameNoted-put (record { each = c.remove.ensures.updates.0 }) (sym (ap if_noted (vacant g c).0))

pub returns-then-is_vacant-clause-entries : goal.returns-then-is_vacant-clause-entries
returns-then-is_vacant-clause-entries g c =
    HavePlaces-vacated (record { each = c.remove.ensures.updates.0 }) (vacant g c).1

pub returns-then-is_vacant-clause-needed : goal.returns-then-is_vacant-clause-needed
returns-then-is_vacant-clause-needed g c =
    AreNeeded-vacated (record { each = c.remove.ensures.updates.0 })

pub returns-else-is_vacant-clause-needed : goal.returns-else-is_vacant-clause-needed
returns-else-is_vacant-clause-needed g c =
    AreNeeded-held (elim c.match-get.branch [
      | in-Some-None w ↦ λ _.
          some_there _ _ w.contains_key.ensures (sym w.is_vacant-is ∙ c.if-is_vacant.false)
      | in-Some-Some w ↦ λ is. absurd (not_vacant _ (sym is ∙ sym c.get.ensures.value
          ∙ ap option_copied w.in-Some-Some.is ∙ ap Some w.in-Some-Some.field-0-is))
      | in-None w ↦ λ is. absurd (let e = sym c.get.ensures.value ∙ ap option_copied w.in-None.is in cc)
    ])
