-- Valid triples of terms (RDF 1.1 Concepts, section 3.1). A wide literal has no value here, and none may
-- stand in one.
use Rattle.std.specs.Prelude.{◌≡◌, false}
use Rattle.shx_term.specs.declared.term.Term.{Term}
use Rattle.shx_term.specs.declared.term.Term.TheVariants.{Iri, Blank, Lit}
use Rattle.shx_term.specs.declared.triple.TermTriple.{TermTriple}
use Rattle.shx_term.specs.WideLiterals.{is_wide}

abbrev pub IsIri : Term → Type 0
IsIri (Iri iri) = Unit {0}
IsIri (Blank blank) = ⊥
IsIri (Lit literal) = ⊥

abbrev pub IsNoLiteral : Term → Type 0
IsNoLiteral (Iri iri) = Unit {0}
IsNoLiteral (Blank blank) = Unit {0}
IsNoLiteral (Lit literal) = ⊥

-- the term is no wide literal
abbrev pub IsNotWide : Term → Type 0
IsNotWide (Iri iri) = Unit {0}
IsNotWide (Blank blank) = Unit {0}
IsNotWide (Lit literal) = is_wide literal ≡ false

-- the subject is no literal, the predicate is an IRI, and the object is no wide literal
pub record IsValidTermTriple (t : TermTriple) : Type 0 where
  pub subject : IsNoLiteral t.s
  pub predicate : IsIri t.p
  pub object : IsNotWide t.o
