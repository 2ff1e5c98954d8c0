-- sh:nodeKind (SHACL, section 4.1.3).
use Rattle.std.specs.Prelude.{ℕ, Bool, List, [], ◌∷◌}
use Rattle.shx_term.specs.declared.term.Term.{Term}
use Rattle.shx_term.specs.declared.term.Term.TheVariants.{Iri, Blank, Lit}
use Rattle.shx_term.specs.declared.vocabulary.TheConstants.{SH_IRI, SH_BLANK_NODE, SH_LITERAL}
use Rattle.shx_term.specs.declared.vocabulary.TheConstants.{SH_BLANK_NODE_OR_IRI, SH_IRI_OR_LITERAL}
use Rattle.shx_term.specs.declared.vocabulary.TheConstants.{SH_BLANK_NODE_OR_LITERAL}
use Rattle.graph_view.specs.Graph.{Graph}
use Rattle.comp_core.specs.declared.pair.At.{At}
use Rattle.comp_core.specs.declared.row.ResultRow.{ResultRow}
use Rattle.comp_core.specs.declared.kinds.TheConstants.{NODE_KIND}
use Rattle.value_components.specs.declared.node_kind.NodeKind.{NodeKind}
use Rattle.comp_core.specs.Results.{each_unless}
use Rattle.comp_core.specs.TermTests.{is_among, is_so_at}

abbrev pub kinds_of : Term → List ℕ
kinds_of (Iri iri) = SH_IRI ∷ SH_BLANK_NODE_OR_IRI ∷ SH_IRI_OR_LITERAL ∷ []
kinds_of (Blank blank) = SH_BLANK_NODE ∷ SH_BLANK_NODE_OR_IRI ∷ SH_BLANK_NODE_OR_LITERAL ∷ []
kinds_of (Lit literal) = SH_LITERAL ∷ SH_BLANK_NODE_OR_LITERAL ∷ SH_IRI_OR_LITERAL ∷ []

-- any other number is no kind
abbrev pub is_of_kind : ℕ → Term → Bool
is_of_kind kind t = is_among kind (kinds_of t)

-- a result for each value node that is not of the kind
abbrev pub node_kind_hits : NodeKind → Graph → At → List ℕ → List ResultRow
node_kind_hits c g at vs = each_unless (is_so_at (is_of_kind c.value) g) NODE_KIND at vs
