-- What a term feeds a hasher: first a mark, which tells what comes then; and behind a text that is not the
-- last stands 0xFF, which no text has. So terms that differ feed different bytes, also where they differ in a
-- tag alone, or in the text that a blank node comes from, and are no long chain of a map.
use Rattle.std.specs.Prelude.{ℕ, List, [], ◌∷◌, ◌++◌, Option, Some, None}
use Rattle.std.specs.Hash as fed
use Rattle.shx_term.specs.declared.term.Term.{Term}
use Rattle.shx_term.specs.declared.term.Term.TheVariants.{Iri, Blank, Lit}
use Rattle.shx_term.specs.declared.term.Scope.{Scope}
use Rattle.shx_term.specs.declared.term.Scope.TheVariants.{Data, Shapes}
use Rattle.shx_term.specs.declared.term.BlankName.{BlankName}
use Rattle.shx_term.specs.declared.term.LocalName.{LocalName}
use Rattle.shx_term.specs.declared.term.LocalName.TheVariants.{Labelled, Anonymous}
use Rattle.shx_term.specs.declared.term.Literal.{Literal}
use Rattle.shx_term.specs.declared.triple.TermTriple.{TermTriple}

abbrev pub hashed_scope : Scope → fed.HashWrites
hashed_scope Data = fed.u8 1
hashed_scope Shapes = fed.u8 2

abbrev pub hashed_name : LocalName → fed.HashWrites
hashed_name (Labelled label) = fed.u8 0 ++ (label ∷ [])
hashed_name (Anonymous number) = fed.u8 1 ++ fed.u32 number

abbrev pub hashed_blank : BlankName → fed.HashWrites
hashed_blank blank = hashed_scope blank.scope ++ hashed_name blank.name

abbrev pub hashed_tag : Option (List ℕ) → fed.HashWrites
hashed_tag None = fed.u8 3
hashed_tag (Some tag) = fed.u8 4 ++ fed.str tag

abbrev pub hashed_literal : Literal → fed.HashWrites
hashed_literal literal = hashed_tag literal.tag ++ (fed.str literal.lexical ++ (literal.datatype ∷ []))

abbrev pub hashed : Term → fed.HashWrites
hashed (Iri iri) = fed.u8 0 ++ (iri ∷ [])
hashed (Blank blank) = hashed_blank blank
hashed (Lit literal) = hashed_literal literal

abbrev pub hashed_term_triple : TermTriple → fed.HashWrites
hashed_term_triple t = hashed t.s ++ (hashed t.p ++ hashed t.o)
