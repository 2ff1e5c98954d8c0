-- States: a node at a place. Edges lead from states to states.
use Rattle.std.specs.Prelude.{◌≡◌, ℕ, ◌==◌, List, [], ◌∷◌, map, flat_map, if◌then◌else◌, Contains}
use Rattle.graph_view.specs.declared.key.Key.{Key}
use Rattle.graph_view.specs.Graph.{Graph}
use Rattle.path_eval.specs.declared.edge.Edge.{Edge}
use Rattle.path_eval.specs.declared.edge.State.{State}
use Rattle.path_eval.specs.inner.Laid.{label_way}

abbrev pub state_at : ℕ → ℕ → State
state_at place node = record { place = place; node = node }

-- where an edge leads from a state, and what is looked up for it
abbrev pub goes : Graph → State → Edge → List State
goes g t edge =
    if edge.from == t.place then map (state_at edge.to) ((label_way g edge.label).to t.node) else []

abbrev pub looks : Graph → State → Edge → List Key
looks g t edge = if edge.from == t.place then (label_way g edge.label).reads t.node else []

abbrev pub next_states : Graph → List Edge → State → List State
next_states g edges t = flat_map (goes g t) edges

abbrev pub next_keys : Graph → List Edge → State → List Key
next_keys g edges t = flat_map (looks g t) edges

module _ {X : Type 0} where
  -- from x past these to y, each of them one step from the one before
  abbrev pub Track : (X → List X) → X → List X → X → Type 0
  Track step x [] y = x ≡ y
  Track step x (z ∷ zs) y = Contains (step x) z × Track step z zs y

  abbrev pub IsReached : (X → List X) → X → X → Type 0
  IsReached step x y = (zs : List X) × Track step x zs y

-- the key is looked up at a state that is reached
abbrev pub IsLookedUp : Graph → List Edge → State → Key → Type 0
IsLookedUp g edges x k = (t : State) × IsReached (next_states g edges) x t × Contains (next_keys g edges t) k
