-- Graphs that hold the same triples, in whatever order: no look-up tells them apart.
use Rattle.std.specs.Prelude.{◌≡◌, length}
use Rattle.graph_view.specs.Graph.{Graph}
use Rattle.shx_term.specs.Members.{SameMembers}

-- the same terms at the same numbers, the same triples, and as many
pub record SameGraph (g h : Graph) : Type 0 where
  pub terms : g.terms ≡ h.terms
  pub triples : SameMembers g.triples h.triples
  pub count : length g.triples ≡ length h.triples
