use Rattle.std.specs.Option.{option_copied, option_map}
use Rattle.std.proofs.Common.{sym, ap, ◌∙◌}
use Rattle.read_records.proofs.RecallLemmas.{found_in}
use Rattle.read_records.proofs.SeenLemmas.{coming_seen}
use Rattle.read_records.specs.declared.reader.Reader.TheVariants.{OfPair}
use Rattle.read_records.specs.inner.Remembered.{as_remembered}
use Rattle.read_records.proofs.recall.Recall.find.Goals as goal

pub returns-in-Some : goal.returns-in-Some
returns-in-Some c =
    rw (← c.self.view_is)
    (found_in c.self.inside.store c.args.pair.now _ _ c.as_slice.ensures
    (sym (ap option_copied c.in-Some.is) ∙ c.coming.ensures))

pub returns-in-None : goal.returns-in-None
returns-in-None c =
    rw (← c.self.view_is)
    (sym (coming_seen as_remembered c.self.inside.store (OfPair c.args.pair.now)
    ∙ ap (option_map as_remembered) (sym c.coming.ensures ∙ ap option_copied c.in-None.is)))
