use Rattle.std.proofs.Common.{ℕ, ◌-◌, ◌≤◌, length}
use Rattle.std.specs.Str.{IsCharBoundary}
use Rattle.ttl_tokens.specs.inner.Lookahead.{KnowsAhead}
use Rattle.ttl_read.specs.Depth.{IsOneTooMany, NoneTooMany}
use Rattle.ttl_read.proofs.depth.one_too_many.Given as goal

abbrev pub invariant-loop-token : goal.invariant-loop-token
invariant-loop-token l = record {
  within : l.place ≤ length l.text;
  boundary : IsCharBoundary l.text l.place;
  known : KnowsAhead l.text l.ahead;
  few : l.count ≤ l.limit;
  found : (place : ℕ) → IsOneTooMany l.text l.limit l.place l.count place
      → IsOneTooMany l.text l.limit l.at 0 place;
  none : NoneTooMany l.text l.limit l.place l.count → NoneTooMany l.text l.limit l.at 0;
}

abbrev pub decreases-loop-token : goal.decreases-loop-token
decreases-loop-token l = length l.text - l.place
