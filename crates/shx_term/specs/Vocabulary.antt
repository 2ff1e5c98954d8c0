-- The vocabulary: the terms that every pool begins with, each at its number.
use Rattle.std.specs.Prelude.{◌≡◌, ℕ, List, [], ◌∷◌, ◌++◌, Some, slice_get, codes}
use Rattle.shx_term.specs.declared.term.Term.{Term}
use Rattle.shx_term.specs.declared.term.Term.TheVariants.{Iri}

abbrev pub rdf : List ℕ → Term
rdf name = Iri (codes "http://www.w3.org/1999/02/22-rdf-syntax-ns#" ++ name)

abbrev pub rdfs : List ℕ → Term
rdfs name = Iri (codes "http://www.w3.org/2000/01/rdf-schema#" ++ name)

abbrev pub sh : List ℕ → Term
sh name = Iri (codes "http://www.w3.org/ns/shacl#" ++ name)

unfoldable pub vocabulary : List Term
vocabulary =
    rdf (codes "type")
    ∷ rdf (codes "first")
    ∷ rdf (codes "rest")
    ∷ rdf (codes "nil")
    ∷ rdfs (codes "subClassOf")
    ∷ rdfs (codes "Class")
    ∷ sh (codes "NodeShape")
    ∷ sh (codes "PropertyShape")
    ∷ sh (codes "path")
    ∷ sh (codes "inversePath")
    ∷ sh (codes "alternativePath")
    ∷ sh (codes "zeroOrMorePath")
    ∷ sh (codes "oneOrMorePath")
    ∷ sh (codes "zeroOrOnePath")
    ∷ sh (codes "targetNode")
    ∷ sh (codes "targetClass")
    ∷ sh (codes "targetSubjectsOf")
    ∷ sh (codes "targetObjectsOf")
    ∷ sh (codes "severity")
    ∷ sh (codes "message")
    ∷ sh (codes "deactivated")
    ∷ sh (codes "Violation")
    ∷ sh (codes "sparql")
    ∷ sh (codes "IRI")
    ∷ sh (codes "BlankNode")
    ∷ sh (codes "Literal")
    ∷ sh (codes "BlankNodeOrIRI")
    ∷ sh (codes "BlankNodeOrLiteral")
    ∷ sh (codes "IRIOrLiteral")
    ∷ sh (codes "class")
    ∷ sh (codes "datatype")
    ∷ sh (codes "nodeKind")
    ∷ sh (codes "minCount")
    ∷ sh (codes "maxCount")
    ∷ sh (codes "minExclusive")
    ∷ sh (codes "minInclusive")
    ∷ sh (codes "maxExclusive")
    ∷ sh (codes "maxInclusive")
    ∷ sh (codes "minLength")
    ∷ sh (codes "maxLength")
    ∷ sh (codes "pattern")
    ∷ sh (codes "flags")
    ∷ sh (codes "languageIn")
    ∷ sh (codes "uniqueLang")
    ∷ sh (codes "equals")
    ∷ sh (codes "disjoint")
    ∷ sh (codes "lessThan")
    ∷ sh (codes "lessThanOrEquals")
    ∷ sh (codes "not")
    ∷ sh (codes "and")
    ∷ sh (codes "or")
    ∷ sh (codes "xone")
    ∷ sh (codes "node")
    ∷ sh (codes "property")
    ∷ sh (codes "qualifiedValueShape")
    ∷ sh (codes "qualifiedMinCount")
    ∷ sh (codes "qualifiedMaxCount")
    ∷ sh (codes "qualifiedValueShapesDisjoint")
    ∷ sh (codes "closed")
    ∷ sh (codes "ignoredProperties")
    ∷ sh (codes "hasValue")
    ∷ sh (codes "in")
    ∷ []

-- the terms begin with the vocabulary
pub record HasVocabulary (terms : List Term) : Type 0 where
  pub more : List Term
  pub begins : terms ≡ vocabulary ++ more

-- whatever begins with the vocabulary has the vocabulary's term at each of its numbers
abbrev pub VocabularyStands : Type 0
VocabularyStands =
    (terms : List Term) (id : ℕ) (t : Term)
    → HasVocabulary terms → slice_get vocabulary id ≡ Some t → slice_get terms id ≡ Some t
