use Rattle.std.proofs.Common.{rules}
use Rattle.std.specs.Prelude.{IsTrue}
use Rattle.std.specs.Option.{option_copied}
use Rattle.read_records.proofs.StoreLemmas.{HasKey-at}
use Rattle.read_records.proofs.notes.has_key.Goals as goal

pub returns-in-Some-Some : goal.returns-in-Some-Some
returns-in-Some-Some g c =
    HasKey-at (option_copied c.args.held) c.args.key.now c.in-Some-Some.noted (IsTrue c.has.result)
    c.has.ensures (search rules)
