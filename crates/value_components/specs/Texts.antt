-- The texts of terms, as `str` gives them (SPARQL 1.1, section 17.4.2.5).
use Rattle.std.specs.Prelude.{ℕ, List, Option, Some, None}
use Rattle.shx_term.specs.declared.term.Term.{Term}
use Rattle.shx_term.specs.declared.term.Term.TheVariants.{Iri, Blank, Lit}

-- an IRI, or a lexical form; a blank node has no text
abbrev pub text_of : Term → Option (List ℕ)
text_of (Iri iri) = Some iri
text_of (Blank blank) = None
text_of (Lit literal) = Some literal.lexical
