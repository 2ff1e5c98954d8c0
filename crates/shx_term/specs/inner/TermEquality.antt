-- Whether two terms have the same parts, each compared by its bytes.
use Rattle.std.specs.Prelude.{ℕ, Bool, false, ◌&&◌, List, nat_eq}
use Rattle.std.specs.Cmp.Lexicographic.{pointwise}
use Rattle.std.specs.Option.{option_eq}
use Rattle.shx_term.specs.declared.term.Term.{Term}
use Rattle.shx_term.specs.declared.term.Term.TheVariants.{Iri, Blank, Lit}
use Rattle.shx_term.specs.declared.term.BlankName.{BlankName}
use Rattle.shx_term.specs.declared.term.LocalName.{LocalName}
use Rattle.shx_term.specs.declared.term.LocalName.TheVariants.{Labelled, Anonymous}
use Rattle.shx_term.specs.declared.term.Literal.{Literal}
use Rattle.shx_term.specs.TermOrder.{rank_of}

abbrev pub same_text : List ℕ → List ℕ → Bool
same_text a b = pointwise nat_eq a b

abbrev pub same_name : LocalName → LocalName → Bool
same_name (Labelled a) (Labelled b) = same_text a b
same_name (Labelled a) (Anonymous b) = false
same_name (Anonymous a) (Labelled b) = false
same_name (Anonymous a) (Anonymous b) = nat_eq a b

abbrev pub same_blank : BlankName → BlankName → Bool
same_blank a b = nat_eq (rank_of a.scope) (rank_of b.scope) && same_name a.name b.name

abbrev pub same_literal : Literal → Literal → Bool
same_literal a b =
    same_text a.lexical b.lexical && (same_text a.datatype b.datatype && option_eq same_text a.tag b.tag)

abbrev pub same_parts : Term → Term → Bool
same_parts (Iri a) (Iri b) = same_text a b
same_parts (Iri a) (Blank b) = false
same_parts (Iri a) (Lit b) = false
same_parts (Blank a) (Iri b) = false
same_parts (Blank a) (Blank b) = same_blank a b
same_parts (Blank a) (Lit b) = false
same_parts (Lit a) (Iri b) = false
same_parts (Lit a) (Blank b) = false
same_parts (Lit a) (Lit b) = same_literal a b
