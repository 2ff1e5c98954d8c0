-- Which declarations may be compiled.
use Rattle.std.specs.Prelude.{◌≡◌, List, []}
use Rattle.shx_term.specs.declared.limits.Limits.{Limits}
use Rattle.shx_term.specs.declared.term.Term.{Term}
use Rattle.graph_view.specs.Graph.{Graph, AllKnown}
use Rattle.shape_decl.specs.Declarations.{Declaration, declarations}
use Rattle.shape_check.specs.Faults.{graph_faults}

-- they are declared by some graph of these terms that has no fault
pub record AreFaultless (limits : Limits) (terms : List Term) (ds : List Declaration) : Type 0 where
  pub graph : Graph
  pub terms_are : graph.terms ≡ terms
  pub known : AllKnown graph
  pub declared : ds ≡ declarations limits graph
  pub faultless : graph_faults limits graph ≡ []
