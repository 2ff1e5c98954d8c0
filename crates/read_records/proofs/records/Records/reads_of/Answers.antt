use Rattle.std.proofs.Common.{sym, ap, ◌∙◌}
use Rattle.std.specs.Option.{option_copied}
use Rattle.read_records.proofs.SeenLemmas.{kept_recorded}
use Rattle.read_records.specs.inner.Notes.{reads_noted}
use Rattle.read_records.proofs.records.Records.reads_of.Goals as goal

pub returns-in-Some : goal.returns-in-Some
returns-in-Some c =
    rw (← c.self.view_is)
    (sym (kept_recorded c.self.inside.store c.args.reader.now
    ∙ ap reads_noted (sym c.get.ensures ∙ ap option_copied c.in-Some.is)))

pub returns-in-None : goal.returns-in-None
returns-in-None c =
    rw (← c.self.view_is)
    (sym (kept_recorded c.self.inside.store c.args.reader.now
    ∙ ap reads_noted (sym c.get.ensures ∙ ap option_copied c.in-None.is)))
