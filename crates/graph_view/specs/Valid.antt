-- Valid triples (RDF 1.1 Concepts, section 3.1) and valid views. Texts and scripts give no others.
use Rattle.std.specs.Prelude.{◌≡◌, List, Some, slice_get, All}
use Rattle.shx_term.specs.declared.term.Term.{Term}
use Rattle.shx_term.specs.declared.triple.Triple.{Triple}
use Rattle.shx_term.specs.declared.triple.TermTriple.{TermTriple}
use Rattle.shx_term.specs.ValidTriples.{IsNotWide, IsValidTermTriple}
use Rattle.graph_view.specs.Graph.{Graph}

-- the numbers of the triple have the terms of a valid triple
pub record IsValidTriple (terms : List Term) (t : Triple) : Type 0 where
  pub stated : TermTriple
  pub s : slice_get terms t.s ≡ Some stated.s
  pub p : slice_get terms t.p ≡ Some stated.p
  pub o : slice_get terms t.o ≡ Some stated.o
  pub valid : IsValidTermTriple stated

-- all triples are valid, and no literal of the terms is wide
pub record IsValidView (g : Graph) : Type 0 where
  pub triples : All (IsValidTriple g.terms) g.triples
  pub terms : All IsNotWide g.terms
