-- Of which kind the value of a predicate is.
use Rattle.std.specs.Prelude.{ℕ, ◌==◌, nat_eq, Bool, true, false, ◌||◌, List, [], ◌∷◌}
use Rattle.std.specs.Prelude.{Option, Some, None, slice_get, codes}
use Rattle.std.specs.List.{list_any}
use Rattle.std.specs.Option.{is_some}
use Rattle.std.specs.Cmp.Lexicographic.{pointwise}
use Rattle.shx_term.specs.declared.term.Literal.{Literal}
use Rattle.shx_term.specs.declared.term.Term.{Term}
use Rattle.shx_term.specs.declared.term.Term.TheVariants.{Iri, Blank, Lit}
use Rattle.shx_term.specs.declared.vocabulary.TheConstants.{SH_IRI, SH_BLANK_NODE, SH_LITERAL}
use Rattle.shx_term.specs.declared.vocabulary.TheConstants.{SH_BLANK_NODE_OR_IRI, SH_BLANK_NODE_OR_LITERAL}
use Rattle.shx_term.specs.declared.vocabulary.TheConstants.{SH_IRI_OR_LITERAL}
use Rattle.shx_term.specs.Datatypes.{xsd}
use Rattle.shx_term.specs.TermKinds.{is_iri, is_node}
use Rattle.value_space.specs.Values.{has_datatype}
use Rattle.shape_check.specs.declared.kind.ValueKind.{ValueKind}
use Rattle.shape_check.specs.declared.kind.ValueKind.TheVariants as kind

-- ---- terms

-- a literal of which this is so
abbrev pub literal_is : (Literal → Bool) → Option Term → Bool
literal_is test (Some (Iri iri)) = false
literal_is test (Some (Blank name)) = false
literal_is test (Some (Lit literal)) = test literal
literal_is test None = false

abbrev pub is_literal : Option Term → Bool
is_literal term = literal_is (λ literal. true) term

-- ---- literals

abbrev pub is_string : Literal → Bool
is_string literal = pointwise nat_eq literal.datatype (xsd (codes "string"))

-- a text for people: a plain one, or one in a language
abbrev pub is_message : Literal → Bool
is_message literal = is_some literal.tag || is_string literal

abbrev pub is_boolean : Literal → Bool
is_boolean literal = has_datatype literal (xsd (codes "boolean"))

abbrev pub is_integer : Literal → Bool
is_integer literal = has_datatype literal (xsd (codes "integer"))

-- ---- values

-- the values of sh:nodeKind (SHACL, section 4.1.3)
abbrev pub node_kinds : List ℕ
node_kinds =
    SH_IRI ∷ SH_BLANK_NODE ∷ SH_LITERAL ∷ SH_BLANK_NODE_OR_IRI ∷ SH_BLANK_NODE_OR_LITERAL
    ∷ SH_IRI_OR_LITERAL ∷ []

abbrev pub is_of_kind : List Term → ValueKind → ℕ → Bool
is_of_kind terms kind.Anything n = true
is_of_kind terms kind.Iri n = is_iri (slice_get terms n)
is_of_kind terms kind.IriOrLiteral n = is_iri (slice_get terms n) || is_literal (slice_get terms n)
is_of_kind terms kind.IriOrBlank n = is_node terms n
is_of_kind terms kind.Literal n = is_literal (slice_get terms n)
is_of_kind terms kind.String n = literal_is is_string (slice_get terms n)
is_of_kind terms kind.Message n = literal_is is_message (slice_get terms n)
is_of_kind terms kind.Boolean n = literal_is is_boolean (slice_get terms n)
is_of_kind terms kind.Integer n = literal_is is_integer (slice_get terms n)
is_of_kind terms kind.NodeKind n = list_any (λ k. k == n) node_kinds
