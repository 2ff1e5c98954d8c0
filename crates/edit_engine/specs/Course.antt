-- Changes of a graph that can be taken back, and made again, one after the other.
use Rattle.std.specs.Prelude.{◌≡◌, ℕ, ◌≤◌, true, false, List, [], ◌∷◌, drop, length, map, reverse, take}
use Rattle.std.specs.List.{IsDistinct}
use Rattle.shx_term.specs.TermOrder.{same_term}
use Rattle.shx_term.specs.Triple.{same_triple}
use Rattle.edit_history.specs.declared.net.Net.{Net}
use Rattle.graph_view.specs.Graph.{Graph}
use Rattle.graph_view.specs.Valid.{IsValidView}
use Rattle.edit_engine.specs.Nets.{IsNetOn, count_after, graph_after, is_no_change, terms_after, turned}

-- a graph as one is kept: valid, each term and triple once, and at most so many triples
pub record IsWhole (most : ℕ) (g : Graph) : Type 0 where
  pub valid : IsValidView g
  pub terms : IsDistinct same_term g.terms
  pub triples : IsDistinct same_triple g.triples
  pub few : length g.triples ≤ most

-- the change may be made of the graph, has an effect, needs no new term, and leaves at most so many triples
pub record IsReady (most : ℕ) (g : Graph) (net : Net) : Type 0 where
  pub fits : IsNetOn g net
  pub changes : is_no_change net ≡ false
  pub held : terms_after g net ≡ g.terms
  pub few : count_after g net ≤ most

-- so may these, each of the graph that the one before it leaves
abbrev pub CanFollow : ℕ → Graph → List Net → Type 0
CanFollow most g [] = Unit {0}
CanFollow most g (net ∷ nets) = IsReady most g net × CanFollow most (graph_after g net) nets

-- of some changes the first so many are made: they can be taken back, the last one first, and the others can
-- be made again
pub record IsCourse (most : ℕ) (g : Graph) (changes : List Net) (cursor : ℕ) : Type 0 where
  pub back : CanFollow most g (map (turned true) (reverse (take cursor changes)))
  pub forth : CanFollow most g (drop cursor changes)
