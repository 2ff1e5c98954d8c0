-- For the laws of components that ask about each value node at some shapes.
use Rattle.std.specs.Prelude.{◌≡◌, ℕ, List, Contains}
use Rattle.std.proofs.Common.{sym, ap}
use Rattle.shx_term.proofs.MemberLemmas.{Contains-map, Contains-from_map}
use Rattle.graph_view.specs.declared.key.Key.{Key}
use Rattle.graph_view.specs.Agree.{Agree}
use Rattle.graph_view.specs.Graph.{Graph}
use Rattle.comp_core.specs.declared.pair.Pair.{Pair}
use Rattle.comp_core.specs.declared.row.ResultRow.{ResultRow}
use Rattle.comp_core.specs.Asking.{pair_of, pairs_at, pairs_asked, asked_keys, conforms}
use Rattle.comp_core.specs.Laws.{SameAnswers, AsksValues}
use Rattle.comp_core.specs.Rows.{is_empty}
use Rattle.comp_core.proofs.LawLemmas.{asked_alike, asked_at}

-- a node is asked about at each shape
pairs_of_node : (shapes : List ℕ) (v : ℕ) (p : Pair) → Contains (pairs_at shapes v) p → v ≡ p.node
pairs_of_node shapes v p c =
    sym (ap (λ (u : Pair). u.node) (Contains-from_map (pair_of v) shapes p c).2)

pub asks_value_nodes : {C : Type 0} (shapes : C → List ℕ)
    → AsksValues {C = C} (λ c vs. pairs_asked (shapes c) vs)
asks_value_nodes shapes c vs p asked = asked_at (pairs_at (shapes c)) (pairs_of_node (shapes c)) vs p asked

-- the answers are the same at each value node
module _ (g h : Graph) (m n : Pair → List ResultRow) (r q : Pair → List Key) (shapes vs : List ℕ)
    (agree : Agree g h (Contains (asked_keys r shapes vs)))
    (same : (p : Pair) → Contains (pairs_asked shapes vs) p → Agree g h (Contains (r p))
    → SameAnswers m n r q p) where
  pub rows_alike : (v : ℕ) → Contains vs v → (shape : ℕ) → Contains shapes shape
      → m (pair_of v shape) ≡ n (pair_of v shape)
  rows_alike v i shape j =
      (asked_alike g h m n r q (pairs_at shapes) vs agree same v i (pair_of v shape)
      (Contains-map (pair_of v) shapes shape j)).rows

  pub conforms_alike : (v : ℕ) → Contains vs v → (shape : ℕ) → Contains shapes shape
      → conforms m v shape ≡ conforms n v shape
  conforms_alike v i shape j = ap is_empty (rows_alike v i shape j)
