-- The datatypes whose values are known, and the space of values of each (XML Schema 1.1 part 2, sections 3.3
-- and 3.4).
use Rattle.std.specs.Prelude.{ℕ, ◌-◌, ◌^◌, ℤ, pos, neg_ℤ, List, [], ◌∷◌, ◌++◌, Option, Some, None}
use Rattle.std.specs.Prelude.{if◌then◌else◌, codes, nat_eq}
use Rattle.std.specs.Cmp.Lexicographic.{pointwise}
use Rattle.shx_term.specs.declared.term.Literal.{Literal}

pub data Space : Type 0 where
  -- whole numbers from a least to a greatest, where there are such
  Integers : Option ℤ → Option ℤ → Space
  Decimals : Space
  Booleans : Space
  Strings : Space
  Moments : Space
  Days : Space
  -- nothing is known of the value
  Opaques : Space

pub record Datatype : Type 0 where
  pub name : List ℕ
  pub space : Space

abbrev datatype : List ℕ → Space → Datatype
datatype name space = record { name = name; space = space }

-- the numbers of a signed type of so many bits, and of an unsigned one
abbrev signed : ℕ → Space
signed bits = Integers (Some (neg_ℤ (pos (2 ^ (bits - 1))))) (Some (pos (2 ^ (bits - 1) - 1)))

abbrev unsigned : ℕ → Space
unsigned bits = Integers (Some (pos 0)) (Some (pos (2 ^ bits - 1)))

-- by their names in the namespace of XML Schema
unfoldable pub datatypes : List Datatype
datatypes =
    datatype (codes "string") Strings
    ∷ datatype (codes "boolean") Booleans
    ∷ datatype (codes "decimal") Decimals
    ∷ datatype (codes "dateTime") Moments
    ∷ datatype (codes "date") Days
    ∷ datatype (codes "integer") (Integers None None)
    ∷ datatype (codes "nonPositiveInteger") (Integers None (Some (pos 0)))
    ∷ datatype (codes "negativeInteger") (Integers None (Some (neg_ℤ (pos 1))))
    ∷ datatype (codes "nonNegativeInteger") (Integers (Some (pos 0)) None)
    ∷ datatype (codes "positiveInteger") (Integers (Some (pos 1)) None)
    ∷ datatype (codes "long") (signed 64)
    ∷ datatype (codes "int") (signed 32)
    ∷ datatype (codes "short") (signed 16)
    ∷ datatype (codes "byte") (signed 8)
    ∷ datatype (codes "unsignedLong") (unsigned 64)
    ∷ datatype (codes "unsignedInt") (unsigned 32)
    ∷ datatype (codes "unsignedShort") (unsigned 16)
    ∷ datatype (codes "unsignedByte") (unsigned 8)
    ∷ []

abbrev pub xsd : List ℕ → List ℕ
xsd name = codes "http://www.w3.org/2001/XMLSchema#" ++ name

-- the space of a datatype, by its IRI
abbrev pub space_among : List Datatype → List ℕ → Space
space_among [] iri = Opaques
space_among (d ∷ ds) iri = if pointwise nat_eq iri (xsd d.name) then d.space else space_among ds iri

abbrev untagged_space : Option (List ℕ) → List ℕ → Space
untagged_space (Some tag) iri = Opaques
untagged_space None iri = space_among datatypes iri

-- the space of a literal: a literal with a language tag has no other value than itself
abbrev pub space_of : Literal → Space
space_of literal = untagged_space literal.tag literal.datatype
