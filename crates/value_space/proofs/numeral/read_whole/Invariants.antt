use Rattle.std.proofs.Common.{◌≡◌, ◌<◌, ◌^◌, Some, IfSome, length}
use Rattle.value_space.specs.inner.DigitRuns.{behind_digits}
use Rattle.value_space.proofs.NumeralLemmas.{number_behind}
use Rattle.value_space.proofs.numeral.read_whole.Given as goal

abbrev pub invariant-loop-rest : goal.invariant-loop-rest
invariant-loop-rest l = record {
  number : number_behind l.number l.rest ≡ number_behind (Some 0) l.text;
  rest : behind_digits l.rest ≡ behind_digits l.text;
  below : IfSome l.number (λ number. number < 10 ^ 38);
}

abbrev pub decreases-loop-rest : goal.decreases-loop-rest
decreases-loop-rest l = length l.rest
