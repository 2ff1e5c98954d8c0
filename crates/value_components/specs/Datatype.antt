-- sh:datatype (SHACL, section 4.1.2).
use Rattle.std.specs.Prelude.{ℕ, Bool, false, List}
use Rattle.shx_term.specs.declared.term.Term.{Term}
use Rattle.shx_term.specs.declared.term.Term.TheVariants.{Iri, Blank, Lit}
use Rattle.graph_view.specs.Graph.{Graph}
use Rattle.value_space.specs.Values.{has_datatype}
use Rattle.comp_core.specs.declared.pair.At.{At}
use Rattle.comp_core.specs.declared.row.ResultRow.{ResultRow}
use Rattle.comp_core.specs.declared.kinds.TheConstants.{DATATYPE}
use Rattle.value_components.specs.declared.datatype.Datatype.{Datatype}
use Rattle.comp_core.specs.Results.{each_unless}
use Rattle.comp_core.specs.TermTests.{are_so_at}

-- a literal of the datatype that is not ill-typed
abbrev pub is_literal_of : List ℕ → Term → Bool
is_literal_of datatype (Iri iri) = false
is_literal_of datatype (Blank blank) = false
is_literal_of datatype (Lit literal) = has_datatype literal datatype

-- of a datatype that is named by a term; what is no IRI names none
abbrev pub is_typed_by : Term → Term → Bool
is_typed_by (Iri datatype) t = is_literal_of datatype t
is_typed_by (Blank blank) t = false
is_typed_by (Lit literal) t = false

-- a result for each value node that is no such literal
abbrev pub datatype_hits : Datatype → Graph → At → List ℕ → List ResultRow
datatype_hits c g at vs = each_unless (are_so_at is_typed_by g c.value) DATATYPE at vs
