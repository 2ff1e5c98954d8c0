-- Graphs that agree on keys: what a reader of these keys alone can tell of them is the same.
use Rattle.std.specs.Prelude.{◌≡◌, List, ◌++◌}
use Rattle.shx_term.specs.declared.term.Term.{Term}
use Rattle.shx_term.specs.declared.triple.Triple.{Triple}
use Rattle.graph_view.specs.declared.key.Key.{Key}
use Rattle.graph_view.specs.Graph.{Graph}
use Rattle.graph_view.specs.Key.{Touches, look}
use Rattle.shx_term.specs.Members.{SameMembers}

-- looking up each of the keys finds the same triples
pub record AgreeOn (g h : List Triple) (K : Key → Type 0) : Type 0 where
  pub each : (key : Key) → K key → SameMembers (look g key) (look h key)

-- the terms of h begin with those of g, and their triples agree on the keys
pub record Agree (g h : Graph) (K : Key → Type 0) : Type 0 where
  pub more : List Term
  pub terms : h.terms ≡ g.terms ++ more
  pub triples : AgreeOn g.triples h.triples K

abbrev pub IsAnyKey : Key → Type 0
IsAnyKey key = Unit {0}

-- after a triple is inserted or removed the keys agree that it does not touch
abbrev pub IsUntouched : Triple → Key → Type 0
IsUntouched t key = Touches t key → ⊥
