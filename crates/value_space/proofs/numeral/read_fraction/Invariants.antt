use Rattle.std.proofs.Common.{◌≡◌, ◌-◌, ◌*◌, ◌^◌, Some, IfSome, length}
use Rattle.value_space.specs.inner.DigitRuns.{HasRoom, behind_digits}
use Rattle.value_space.proofs.NumeralLemmas.{fraction_behind}
use Rattle.value_space.proofs.numeral.read_fraction.Given as goal

abbrev pub invariant-loop-rest : goal.invariant-loop-rest
invariant-loop-rest l = record {
  fraction : fraction_behind l.fraction l.unit l.rest ≡ fraction_behind (Some 0) (10 ^ (l.places - 1)) l.text;
  rest : behind_digits l.rest ≡ behind_digits l.text;
  room : IfSome l.fraction (λ fraction. HasRoom fraction (10 * l.unit));
}

abbrev pub decreases-loop-rest : goal.decreases-loop-rest
decreases-loop-rest l = length l.rest
