use Rattle.std.proofs.Common.{◌≤◌, length}
use Rattle.std.specs.Str.{IsCharBoundary}
use Rattle.ttl_tokens.specs.inner.Lookahead.{KnowsAhead}
use Rattle.turtle_rows.proofs.tests.tokens.add_tokens.Given as goal

abbrev pub invariant-loop : goal.invariant-loop
invariant-loop l = record {
  within : l.at ≤ length l.text;
  boundary : IsCharBoundary l.text l.at;
  known : KnowsAhead l.text l.ahead;
}
