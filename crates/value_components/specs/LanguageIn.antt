-- sh:languageIn (SHACL, section 4.4.4).
use Rattle.std.specs.Prelude.{ℕ, Bool, false, List, Option, Some, None}
use Rattle.std.specs.List.{list_any}
use Rattle.shx_term.specs.declared.term.Term.{Term}
use Rattle.shx_term.specs.declared.term.Term.TheVariants.{Iri, Blank, Lit}
use Rattle.graph_view.specs.Graph.{Graph}
use Rattle.comp_core.specs.declared.pair.At.{At}
use Rattle.comp_core.specs.declared.row.ResultRow.{ResultRow}
use Rattle.comp_core.specs.declared.kinds.TheConstants.{LANGUAGE_IN}
use Rattle.value_components.specs.declared.language_in.LanguageIn.{LanguageIn}
use Rattle.comp_core.specs.Results.{each_unless}
use Rattle.value_components.specs.Tags.{matches_range, tag_at}
use Rattle.comp_core.specs.TermTests.{is_so_at}

-- the lexical form of a literal is a range that matches the tag
abbrev pub is_range_of : List ℕ → Term → Bool
is_range_of tag (Iri iri) = false
is_range_of tag (Blank blank) = false
is_range_of tag (Lit literal) = matches_range tag literal.lexical

abbrev pub is_matched : Graph → List ℕ → Option (List ℕ) → Bool
is_matched g ranges None = false
is_matched g ranges (Some tag) = list_any (is_so_at (is_range_of tag) g) ranges

-- the node has a tag that one of the ranges matches
abbrev pub is_spoken : Graph → List ℕ → ℕ → Bool
is_spoken g ranges v = is_matched g ranges (tag_at g v)

-- a result for each value node that has none
abbrev pub language_in_hits : LanguageIn → Graph → At → List ℕ → List ResultRow
language_in_hits c g at vs = each_unless (is_spoken g c.members) LANGUAGE_IN at vs
