use Rattle.std.proofs.Common.{subst}
use Rattle.std.specs.Prelude.{IsTrue, ◌↔◌}
use Rattle.read_records.specs.inner.Notes.{HasKey}
use Rattle.read_records.proofs.notes.has_noted.Goals as goal

pub returns : goal.returns
returns g c =
    subst (λ entry. IsTrue c.has_key.result ↔ HasKey entry c.args.key.now) c.get.ensures.value
    c.has_key.ensures
