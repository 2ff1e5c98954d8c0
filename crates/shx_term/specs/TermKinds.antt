-- Which kind of term a number has, as tests; a number without a term has none.
use Rattle.std.specs.Prelude.{ℕ, Bool, true, false, List, Option, Some, None, slice_get}
use Rattle.shx_term.specs.declared.term.Term.{Term}
use Rattle.shx_term.specs.declared.term.Term.TheVariants.{Iri, Blank, Lit}

abbrev pub is_iri : Option Term → Bool
is_iri (Some (Iri iri)) = true
is_iri (Some (Blank name)) = false
is_iri (Some (Lit literal)) = false
is_iri None = false

-- an IRI or a blank node
abbrev pub is_iri_or_blank : Option Term → Bool
is_iri_or_blank (Some (Iri iri)) = true
is_iri_or_blank (Some (Blank name)) = true
is_iri_or_blank (Some (Lit literal)) = false
is_iri_or_blank None = false

abbrev pub is_node : List Term → ℕ → Bool
is_node terms n = is_iri_or_blank (slice_get terms n)
