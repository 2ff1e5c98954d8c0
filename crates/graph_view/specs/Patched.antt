-- A graph without some triples and with others.
use Rattle.std.specs.Prelude.{Bool, not, List, ◌++◌, filter, All, Contains}
use Rattle.std.specs.List.{list_any, IsDistinct}
use Rattle.shx_term.specs.Triple.{same_triple}
use Rattle.shx_term.specs.declared.triple.Triple.{Triple}
use Rattle.graph_view.specs.declared.key.Key.{Key}
use Rattle.graph_view.specs.Agree.{IsUntouched}
use Rattle.graph_view.specs.Graph.{Graph, IsKnownTriple}

-- the elements that are not among those that are gone
abbrev pub without : {X : Type 0} → (X → X → Bool) → List X → List X → List X
without same xs gone = filter (λ x. not (list_any (λ y. same y x) gone)) xs

-- the same terms, and the triples that are not among the removed, then the added
abbrev pub patched : Graph → List Triple → List Triple → Graph
patched g added removed = record {
  terms = g.terms;
  triples = without same_triple g.triples removed ++ added;
}

-- triples that a change may add to a graph and remove from it: each once, the added ones triples of numbers
-- that have terms, none of which is held, and the removed ones held
pub record IsPatch (g : Graph) (added removed : List Triple) : Type 0 where
  pub added_once : IsDistinct same_triple added
  pub added_absent : All (λ t. Contains g.triples t → ⊥) added
  pub added_known : All (IsKnownTriple g.terms) added
  pub removed_once : IsDistinct same_triple removed
  pub removed_held : All (Contains g.triples) removed

-- no triple that was added or removed touches the key
abbrev pub IsBeside : List Triple → List Triple → Key → Type 0
IsBeside added removed key = All (λ t. IsUntouched t key) added × All (λ t. IsUntouched t key) removed
