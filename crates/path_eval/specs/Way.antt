-- What a path does from a node, as lists: the twin of the relation, for definitions that compute.
use Rattle.std.specs.Prelude.{ℕ, zero, suc, List, [], ◌∷◌, ◌++◌, flat_map, length}
use Rattle.graph_view.specs.declared.key.Key.{Key}
use Rattle.graph_view.specs.Graph.{Graph, objects_of, subjects_of}
use Rattle.path_eval.specs.declared.direction.Direction.{Direction}
use Rattle.path_eval.specs.declared.direction.Direction.TheVariants.{Forward, Backward}
use Rattle.path_eval.specs.Relation.{opposite, pick, step_key}
use Rattle.path_eval.specs.Route.{Route, along, here, first_then, none, one_or_other, turned, any_times}
use Rattle.path_eval.specs.Route.{some_times, perhaps}
use Rattle.path_eval.specs.inner.Through.{through}

-- the nodes that a node leads to, and the keys that are read for it
pub record Way : Type 0 where
  pub to : ℕ → List ℕ
  pub reads : ℕ → List Key

abbrev pub stay : Way
stay = record { to = λ x. x ∷ []; reads = λ x. [] }

abbrev pub nowhere : Way
nowhere = record { to = λ x. []; reads = λ x. [] }

abbrev pub either : Way → Way → Way
either a b = record { to = λ x. a.to x ++ b.to x; reads = λ x. a.reads x ++ b.reads x }

abbrev pub then_by : Way → Way → Way
then_by a b = record { to = λ x. flat_map b.to (a.to x); reads = λ x. a.reads x ++ flat_map b.reads (a.to x) }

-- the numbers below n
abbrev pub below : ℕ → List ℕ
below zero = []
below (suc n) = n ∷ below n

-- once or more, among so many terms
abbrev pub repeated : ℕ → Way → Way
repeated count a = record {
  to = λ x. through a.to (x ∷ below count) x;
  reads = λ x. flat_map a.reads (x ∷ through a.to (x ∷ below count) x);
}

-- any number of times
abbrev pub closed : ℕ → Way → Way
closed count a = either stay (repeated count a)

abbrev pub step_to : Graph → Direction → ℕ → ℕ → List ℕ
step_to g Forward p x = objects_of g x p
step_to g Backward p x = subjects_of g p x

abbrev pub one_step : Graph → Direction → ℕ → Way
one_step g d p = record { to = step_to g d p; reads = λ x. step_key d p x ∷ [] }

abbrev pub way : Graph → Direction → Route → Way
way g d (along p) = one_step g d p
way g d here = stay
way g d (first_then a b) = pick d (then_by (way g d a) (way g d b)) (then_by (way g d b) (way g d a))
way g d none = nowhere
way g d (one_or_other a b) = either (way g d a) (way g d b)
way g d (turned a) = way g (opposite d) a
way g d (any_times a) = closed (length g.terms) (way g d a)
way g d (some_times a) = repeated (length g.terms) (way g d a)
way g d (perhaps a) = either stay (way g d a)
