-- The term that begins at a token, for whoever knows what the text before it states (Turtle 1.1, sections
-- 6.5 and 7.2).
use Rattle.std.specs.Prelude.{◌≡◌, ◌≢◌, ℕ, ◌||◌, ◌⊎◌, List, drop, Result, Ok, Err, true, false}
use Rattle.shx_term.specs.declared.fault_codes.TheConstants.{SYNTAX, UNKNOWN_BLANK}
use Rattle.shx_term.specs.declared.term.BlankName.{BlankName}
use Rattle.shx_term.specs.declared.term.Term.{Term}
use Rattle.shx_term.specs.declared.term.Term.TheVariants.{Iri, Blank}
use Rattle.shx_term.specs.Spelling.{spelling_of, xsd_string}
use Rattle.ttl_tokens.specs.declared.token.Token.{Token}
use Rattle.ttl_tokens.specs.declared.token.TokenKind.TheVariants.{BlankLabel, LangTag, Carets}
use Rattle.ttl_tokens.specs.Tokens.{IsTokenAt}
use Rattle.ttl_tokens.specs.Unescaped.{token_text}
use Rattle.ttl_meaning.specs.declared.document.Document.{Document}
use Rattle.ttl_meaning.specs.declared.fault.TermFaultKind.{TermFaultKind}
use Rattle.ttl_meaning.specs.InForce.{HasNode, in_force}
use Rattle.ttl_meaning.specs.Terms.{said, iri_of, judged, typed, tagged, datatype_of}
use Rattle.ttl_read.specs.declared.fault.TtlFault.{TtlFault}
use Rattle.ttl_read.specs.declared.fault.TtlFault.TheVariants.{At, Memory}
use Rattle.ttl_read.specs.Documents.{code_of_term}
use Rattle.ttl_read.specs.Grammar.{is_iri, is_kind, is_string, is_bare_literal}

-- ---- what is found at a token: a term that goes to a byte, or a fault with its code and its byte

pub data Found : Type 0 where
  A : Term → ℕ → Found
  No : ℕ → ℕ → Found

-- a term that begins here and goes to there
abbrev pub found : ℕ → ℕ → Result Term TermFaultKind → Found
found start end (Ok term) = A term end
found start end (Err kind) = No (code_of_term kind) start

abbrev pub found_iri : Token → Result (List ℕ) TermFaultKind → Found
found_iri token (Ok iri) = A (Iri iri) token.end
found_iri token (Err kind) = No (code_of_term kind) token.start

-- one of these blank nodes, which is called as it is spelled
abbrev pub IsOneFound : (BlankName → Type 0) → List ℕ → Token → Found → Type 0
IsOneFound Is text token answer =
    ((node : BlankName) × Is node × (spelling_of (Blank node) ≡ token_text text token)
    × (answer ≡ A (Blank node) token.end))
    ⊎ (((node : BlankName) → Is node → spelling_of (Blank node) ≡ token_text text token → ⊥)
    × (answer ≡ No UNKNOWN_BLANK token.start))

abbrev pub IsNodeFound : List ℕ → Token → Document → Found → Type 0
IsNodeFound text token document answer = IsOneFound (HasNode document) text token answer

-- a string that ends here, with this datatype
abbrev pub found_typed : List ℕ → Token → Token → Result (List ℕ) TermFaultKind → Found
found_typed text token iri (Ok datatype) =
    found token.start iri.end (judged (typed (said text token) datatype))
found_typed text token iri (Err kind) = No (code_of_term kind) iri.start

-- the tag of a string
abbrev pub HasTag : List ℕ → Token → Token → Type 0
HasTag text token tag = IsTokenAt text token.end tag × (tag.kind ≡ LangTag)

-- the IRI of its datatype
abbrev pub HasDatatype : List ℕ → Token → Token → Type 0
HasDatatype text token iri =
    (carets : Token) × IsTokenAt text token.end carets × (carets.kind ≡ Carets)
    × IsTokenAt text carets.end iri × (is_iri iri.kind ≡ true)

-- a string with what belongs to it, as much as there is
abbrev pub IsStringFound : List ℕ → Token → Document → Found → Type 0
IsStringFound text token document answer =
    ((tag : Token) × HasTag text token tag
    × (answer ≡ found token.start tag.end (judged (tagged (said text token) (drop 1 (token_text text tag))))))
    ⊎ ((iri : Token) × HasDatatype text token iri
    × (answer ≡ found_typed text token iri (iri_of text iri (in_force document))))
    ⊎ (((other : Token) → HasTag text token other → ⊥) × ((other : Token) → HasDatatype text token other → ⊥)
    × (answer ≡ found token.start token.end (judged (typed (said text token) xsd_string))))

-- by the kind of the token
pub data IsFound (text : List ℕ) (token : Token) (document : Document) (answer : Found) : Type 0 where
  AnIri : is_iri token.kind ≡ true → answer ≡ found_iri token (iri_of text token (in_force document))
      → IsFound text token document answer
  ANode : token.kind ≡ BlankLabel → IsNodeFound text token document answer
      → IsFound text token document answer
  ALiteral : is_bare_literal token.kind ≡ true
      → answer ≡ found token.start token.end (judged (typed (token_text text token) (datatype_of token.kind)))
      → IsFound text token document answer
  AString : is_string token.kind ≡ true → IsStringFound text token document answer
      → IsFound text token document answer
  Other : is_iri token.kind ≡ false → token.kind ≢ BlankLabel → is_bare_literal token.kind ≡ false
      → is_string token.kind ≡ false → answer ≡ No SYNTAX token.start → IsFound text token document answer

-- a fault that is found; want of memory is none
abbrev pub IsFaultFound : List ℕ → Token → Document → TtlFault → Type 0
IsFaultFound text token document (At code at) = IsFound text token document (No code at)
IsFaultFound text token document Memory = Unit

-- ---- where a term ends that begins at a token, by the tokens alone, with a fault or without

pub data GoesTo (text : List ℕ) (token : Token) (end : ℕ) : Type 0 where
  OneToken : (is_iri token.kind || (is_kind BlankLabel token.kind || is_bare_literal token.kind)) ≡ true
      → end ≡ token.end → GoesTo text token end
  WithTag : is_string token.kind ≡ true → (tag : Token) → HasTag text token tag → end ≡ tag.end
      → GoesTo text token end
  WithDatatype : is_string token.kind ≡ true → (iri : Token) → HasDatatype text token iri → end ≡ iri.end
      → GoesTo text token end
  AsString : is_string token.kind ≡ true → ((other : Token) → HasTag text token other → ⊥)
      → ((other : Token) → HasDatatype text token other → ⊥) → end ≡ token.end → GoesTo text token end
