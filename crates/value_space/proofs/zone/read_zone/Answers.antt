use Rattle.std.proofs.Common.{arith}
use Rattle.std.proofs.lemmas.Int.{ints}
use Rattle.value_space.proofs.zone.read_zone.Goals as goal

pub returns-in_ok-read_offset-in-45-clause-few : goal.returns-in_ok-read_offset-in-45-clause-few
returns-in_ok-read_offset-in-45-clause-few c =
    let offset = c.in_ok-read_offset-in-45.ensures in
    record {
      low =
          omega (arith, ints, offset.value, offset.high);
      high =
          omega (arith, ints, offset.value, offset.high);
    }
