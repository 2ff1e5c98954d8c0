use Rattle.read_records.proofs.StoreLemmas.{IsStore-tidied}
use Rattle.read_records.proofs.notes.tidy.Goals as goal

pub returns-clause-tidied : goal.returns-clause-tidied
returns-clause-tidied g c =
    IsStore-tidied c.requires c.forget_note.ensures.kept c.forget_note.ensures.staged
    c.forget_note.ensures.read c.vacate_place.ensures.reads c.vacate_place.ensures.entries
    c.vacate_place.ensures.needed
