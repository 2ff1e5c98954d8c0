-- Edges that are laid behind others.
use Rattle.std.specs.Prelude.{◌≡◌, ℕ, ◌++◌}
use Rattle.path_eval.specs.declared.direction.Direction.{Direction}
use Rattle.path_eval.specs.Route.{Route}
use Rattle.path_eval.specs.declared.lay.Edges.{Edges}
use Rattle.path_eval.specs.inner.Laid.{after, laid}

-- the route was laid between these places, and nothing else
pub record Lays (old : Edges) (d : Direction) (route : Route) (s e : ℕ) (new : Edges) : Type 0 where
  pub edges : new.edges.items ≡ old.edges.items ++ laid d route s e old.places
  pub places : new.places ≡ after route old.places
