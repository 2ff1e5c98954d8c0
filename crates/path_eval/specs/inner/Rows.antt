-- Edges by the places that they begin at.
use Rattle.std.specs.Prelude.{◌≡◌, ℕ, ◌==◌, ◌<◌, List, [], ◌∷◌, ◌++◌, length, slice_index_or, filter, Vec}
use Rattle.std.specs.declared.alloc.Global.{Global}
use Rattle.graph_view.specs.Graph.{Graph}
use Rattle.path_eval.specs.declared.edge.Edge.{Edge}
use Rattle.path_eval.specs.declared.edge.State.{State}
use Rattle.path_eval.specs.inner.States.{next_keys, next_states}

abbrev pub edges_from : ℕ → List Edge → List Edge
edges_from place edges = filter (λ edge. edge.from == place) edges

-- each row has the edges from its place
pub record IsByPlace (rows : List (Vec Edge Global)) (edges : List Edge) : Type 0 where
  pub each : (place : ℕ) (row : Vec Edge Global) → place < length rows
      → row ≡ slice_index_or rows place row → row.items ≡ edges_from place edges

-- the edge goes to the row of its place
pub record Enters (edge : Edge) (old new : List (Vec Edge Global)) : Type 0 where
  pub each : (edges : List Edge) → IsByPlace old edges → IsByPlace new (edges ++ edge ∷ [])

-- from the place these edges do what all do
pub record DoesAll (some edges : List Edge) (place : ℕ) : Type 0 where
  pub states : (g : Graph) (t : State) → t.place ≡ place → next_states g some t ≡ next_states g edges t
  pub keys : (g : Graph) (t : State) → t.place ≡ place → next_keys g some t ≡ next_keys g edges t
