-- Lists seen as sets: only their members are spoken of, in whatever order and however often they stand there.
use Rattle.std.specs.Prelude.{List, Contains, ◌↔◌, ◌⊎◌}

-- the same members
pub record SameMembers {X : Type 0} (xs ys : List X) : Type 0 where
  pub each : (x : X) → Contains xs x ↔ Contains ys x

-- new has the members of old and those of more, and no others
pub record Adds {X : Type 0} (old new more : List X) : Type 0 where
  pub each : (x : X) → Contains new x ↔ (Contains old x ⊎ Contains more x)
