-- The terms that tokens stand for (Turtle 1.1, section 7.2), or why one has no place here.
use Rattle.std.specs.Prelude.{ℕ, ◌==◌, nat_eq, List, [], ◌∷◌, ◌++◌, map}
use Rattle.std.specs.Prelude.{codes, Option, Some, None, Result, Ok, Err, if◌then◌else◌}
use Rattle.std.specs.Char.{to_ascii_lowercase}
use Rattle.std.specs.Cmp.Lexicographic.{pointwise}
use Rattle.std.specs.List.{before_first}
use Rattle.std.specs.Str.{encode_utf8_all}
use Rattle.shx_term.specs.declared.term.Term.{Term}
use Rattle.shx_term.specs.declared.term.Term.TheVariants.{Lit}
use Rattle.shx_term.specs.declared.term.BlankName.{BlankName}
use Rattle.shx_term.specs.declared.term.Literal.{Literal}
use Rattle.shx_term.specs.declared.term.Scope.{Scope}
use Rattle.shx_term.specs.declared.term.LocalName.TheVariants.{Labelled, Anonymous}
use Rattle.shx_term.specs.Datatypes.{xsd}
use Rattle.shx_term.specs.WideLiterals.{is_wide}
use Rattle.iri_resolve.specs.Characters.{is_allowed}
use Rattle.iri_resolve.specs.Resolution.{resolved}
use Rattle.value_space.specs.Values.{is_float}
use Rattle.ttl_tokens.specs.declared.token.Token.{Token}
use Rattle.ttl_tokens.specs.declared.token.TokenKind.{TokenKind}
use Rattle.ttl_tokens.specs.declared.token.TokenKind.TheVariants.{IriRef, PnameLn, Integer, Decimal, Double}
use Rattle.ttl_tokens.specs.Unescaped.{meaning, token_text}
use Rattle.ttl_meaning.specs.declared.fault.TermFaultKind.{TermFaultKind}
use Rattle.ttl_meaning.specs.declared.fault.TermFaultKind.TheVariants.{UnknownPrefix, BadIri, FloatLiteral}
use Rattle.ttl_meaning.specs.declared.fault.TermFaultKind.TheVariants.{WideValue}
use Rattle.ttl_meaning.specs.State.{State, Binding}

-- ---- the texts of tokens, in bytes

-- what a token of the text stands for
abbrev pub said : List ℕ → Token → List ℕ
said text token = encode_utf8_all (meaning text token)

-- the prefix of a prefixed name: what stands before its colon
abbrev pub prefix_of : List ℕ → Token → List ℕ
prefix_of text token = before_first (λ b. b == 58) (token_text text token)

-- ---- IRIs

-- a reference over the base
abbrev pub iri_of_reference : List ℕ → List ℕ → Result (List ℕ) TermFaultKind
iri_of_reference base reference = if is_allowed reference then Ok (resolved base reference) else Err BadIri

-- what a prefix stands for, by its latest binding
abbrev pub namespace_of : List ℕ → List Binding → Option (List ℕ)
namespace_of name [] = None
namespace_of name (b ∷ bs) = if pointwise nat_eq b.name name then Some b.iri else namespace_of name bs

abbrev pub in_namespace : Option (List ℕ) → List ℕ → Result (List ℕ) TermFaultKind
in_namespace None local = Err UnknownPrefix
in_namespace (Some iri) local = Ok (iri ++ local)

-- what a prefixed name has behind its colon
abbrev pub local_of : TokenKind → List ℕ → Token → List ℕ
local_of PnameLn text token = said text token
local_of kind text token = []

-- the IRI that a token stands for: a reference, a prefixed name, or a prefix alone
abbrev pub iri_of_kind : TokenKind → List ℕ → Token → State → Result (List ℕ) TermFaultKind
iri_of_kind IriRef text token s = iri_of_reference s.base (said text token)
iri_of_kind kind text token s =
    in_namespace (namespace_of (prefix_of text token) s.prefixes) (local_of kind text token)

abbrev pub iri_of : List ℕ → Token → State → Result (List ℕ) TermFaultKind
iri_of text token s = iri_of_kind token.kind text token s

-- ---- literals

-- a literal is refused for its datatype, or as a wide one
abbrev pub judged : Literal → Result Term TermFaultKind
judged literal =
    if is_float literal then Err FloatLiteral else if is_wide literal then Err WideValue else Ok (Lit literal)

-- the datatype of a literal that is written without quotes
abbrev pub datatype_of : TokenKind → List ℕ
datatype_of Integer = xsd (codes "integer")
datatype_of Decimal = xsd (codes "decimal")
datatype_of Double = xsd (codes "double")
datatype_of kind = xsd (codes "boolean")

-- an IRI of RDF's own
abbrev pub rdf_iri : List ℕ → List ℕ
rdf_iri name = codes "http://www.w3.org/1999/02/22-rdf-syntax-ns#" ++ name

abbrev pub lang_string : List ℕ
lang_string = rdf_iri (codes "langString")

abbrev pub typed : List ℕ → List ℕ → Literal
typed lexical datatype = record { lexical = lexical; datatype = datatype; tag = None }

-- a string with a language tag, which is kept in small letters
abbrev pub tagged : List ℕ → List ℕ → Literal
tagged lexical tag = record {
  lexical = lexical;
  datatype = lang_string;
  tag =
      Some (map to_ascii_lowercase tag);
}

-- ---- blank nodes

abbrev pub anonymous : Scope → ℕ → BlankName
anonymous scope number = record { scope = scope; name = Anonymous number }

abbrev pub labelled : Scope → List ℕ → BlankName
labelled scope label = record { scope = scope; name = Labelled label }
