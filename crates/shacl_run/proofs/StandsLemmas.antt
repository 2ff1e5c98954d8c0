-- What may be asked of a graph that is stored.
use Rattle.std.proofs.Common.{List, refl}
use Rattle.shx_term.specs.declared.term.Term.{Term}
use Rattle.shx_term.specs.declared.triple.Triple.{Triple}
use Rattle.graph_view.specs.Graph.{Graph, graph_of}
use Rattle.graph_view.specs.SameGraph.{SameGraph}
use Rattle.graph_view.specs.Valid.{IsValidView}
use Rattle.graph_view.proofs.SameGraphLemmas.{first_places_same}
use Rattle.shx_term.proofs.SetLemmas.{SameMembers-sym}
use Rattle.edit_engine.proofs.ValidEditLemmas.{valid_members}

-- what is stored of valid triples is a valid view
pub valid_stored : (terms : List Term) (triples : List Triple) (h : Graph)
    → SameGraph (graph_of terms triples) h → IsValidView (record { terms = terms; triples = triples })
    → IsValidView h
valid_stored terms triples h same valid =
    valid_members (graph_of terms triples) h same.terms same.triples
    (valid_members (record { terms = terms; triples = triples }) (graph_of terms triples) refl
    (SameMembers-sym (first_places_same triples)) valid)
