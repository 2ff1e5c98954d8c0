-- The order of terms: IRIs by their bytes; then blank nodes with a label, those of the data before those of
-- the shapes, by label; then anonymous blank nodes likewise, by number; then literals by datatype, lexical
-- form and tag, no tag first. It is said by what terms are compared by, one after the other.
use Rattle.std.specs.Prelude.{ℕ, Bool, List, [], Option, Some, None}
use Rattle.std.specs.declared.cmp.Ordering.{Ordering}
use Rattle.std.specs.Ordering.{nat_cmp, ordering_then, eq_by_cmp}
use Rattle.std.specs.Cmp.Lexicographic.{slice_cmp}
use Rattle.shx_term.specs.declared.term.Term.{Term}
use Rattle.shx_term.specs.declared.term.Term.TheVariants.{Iri, Blank, Lit}
use Rattle.shx_term.specs.declared.term.Scope.{Scope}
use Rattle.shx_term.specs.declared.term.Scope.TheVariants.{Data, Shapes}
use Rattle.shx_term.specs.declared.term.LocalName.{LocalName}
use Rattle.shx_term.specs.declared.term.LocalName.TheVariants.{Labelled, Anonymous}

abbrev pub kind_of_name : LocalName → ℕ
kind_of_name (Labelled label) = 1
kind_of_name (Anonymous number) = 2

-- IRIs, labelled blank nodes, anonymous blank nodes, literals
abbrev pub kind_of : Term → ℕ
kind_of (Iri iri) = 0
kind_of (Blank blank) = kind_of_name blank.name
kind_of (Lit literal) = 3

abbrev pub rank_of : Scope → ℕ
rank_of Data = 0
rank_of Shapes = 1

abbrev pub scope_of : Term → ℕ
scope_of (Iri iri) = 0
scope_of (Blank blank) = rank_of blank.scope
scope_of (Lit literal) = 0

abbrev pub number_of_name : LocalName → ℕ
number_of_name (Labelled label) = 0
number_of_name (Anonymous number) = number

abbrev pub number_of : Term → ℕ
number_of (Iri iri) = 0
number_of (Blank blank) = number_of_name blank.name
number_of (Lit literal) = 0

abbrev pub label_of : LocalName → List ℕ
label_of (Labelled label) = label
label_of (Anonymous number) = []

-- the IRI, the label, or the datatype
abbrev pub head_of : Term → List ℕ
head_of (Iri iri) = iri
head_of (Blank blank) = label_of blank.name
head_of (Lit literal) = literal.datatype

abbrev pub lexical_of : Term → List ℕ
lexical_of (Iri iri) = []
lexical_of (Blank blank) = []
lexical_of (Lit literal) = literal.lexical

abbrev pub tag_rank : Option (List ℕ) → ℕ
tag_rank None = 0
tag_rank (Some tag) = 1

abbrev pub tag_text : Option (List ℕ) → List ℕ
tag_text None = []
tag_text (Some tag) = tag

abbrev pub tag_number_of : Term → ℕ
tag_number_of (Iri iri) = 0
tag_number_of (Blank blank) = 0
tag_number_of (Lit literal) = tag_rank literal.tag

abbrev pub tag_of : Term → List ℕ
tag_of (Iri iri) = []
tag_of (Blank blank) = []
tag_of (Lit literal) = tag_text literal.tag

-- by their tags, no tag first
abbrev pub tags_cmp : Term → Term → Ordering
tags_cmp a b =
    ordering_then (nat_cmp (tag_number_of a) (tag_number_of b)) (slice_cmp nat_cmp (tag_of a) (tag_of b))

-- by the IRI, the label or the datatype, then by lexical form and tag
abbrev pub texts_cmp : Term → Term → Ordering
texts_cmp a b =
    ordering_then (slice_cmp nat_cmp (head_of a) (head_of b))
    (ordering_then (slice_cmp nat_cmp (lexical_of a) (lexical_of b)) (tags_cmp a b))

-- two terms of one kind
abbrev pub alike_cmp : Term → Term → Ordering
alike_cmp a b =
    ordering_then (nat_cmp (scope_of a) (scope_of b))
    (ordering_then (nat_cmp (number_of a) (number_of b)) (texts_cmp a b))

abbrev pub term_cmp : Term → Term → Ordering
term_cmp a b = ordering_then (nat_cmp (kind_of a) (kind_of b)) (alike_cmp a b)

-- the same term
abbrev pub same_term : Term → Term → Bool
same_term a b = eq_by_cmp term_cmp a b
