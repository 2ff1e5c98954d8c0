-- Which text is a document, what it states, and the one fault of a text that is none (Turtle 1.1, sections
-- 6.5 and 7).
use Rattle.std.specs.Prelude.{◌≡◌, ℕ, ◌<◌, ◌≤◌, ◌⊎◌, nat_eq, List, length, take}
use Rattle.std.specs.Prelude.{Some, None, if◌then◌else◌}
use Rattle.std.specs.Char.{encode_utf8}
use Rattle.std.specs.Cmp.Lexicographic.{pointwise}
use Rattle.std.specs.Str.{IsUtf8, IsValidUpTo}
use Rattle.shx_term.specs.declared.fault_codes.TheConstants.{NOT_UTF8, SYNTAX, UNKNOWN_PREFIX}
use Rattle.shx_term.specs.declared.fault_codes.TheConstants.{BAD_IRI, FLOAT_LITERAL, WIDE_VALUE}
use Rattle.shx_term.specs.declared.fault_codes.TheConstants.{TOO_DEEP, TEXT_TRIPLES, TEXT_TERMS}
use Rattle.shx_term.specs.declared.limits.Limits.{Limits}
use Rattle.shx_term.specs.declared.term.Scope.{Scope}
use Rattle.shx_term.specs.Pool.{Pooled}
use Rattle.ttl_tokens.specs.declared.token.Token.{Token}
use Rattle.ttl_tokens.specs.declared.token.TokenKind.TheVariants.{End}
use Rattle.ttl_tokens.specs.Form.{Times, Takes}
use Rattle.ttl_tokens.specs.Walks.{Never}
use Rattle.ttl_tokens.specs.Tokens.{IsTokenAt, IsNoTokenAt}
use Rattle.ttl_meaning.specs.declared.fault.TermFault.{TermFault}
use Rattle.ttl_meaning.specs.declared.fault.TermFaultKind.{TermFaultKind}
use Rattle.ttl_meaning.specs.declared.fault.TermFaultKind.TheVariants.{UnknownPrefix, BadIri, FloatLiteral}
use Rattle.ttl_meaning.specs.declared.fault.TermFaultKind.TheVariants.{WideValue}
use Rattle.ttl_meaning.specs.IsStated.{Bounds, terms_with}
use Rattle.ttl_meaning.specs.State.{State, first_state}
use Rattle.ttl_read.specs.Depth.{IsTooDeep, IsNotTooDeep}
use Rattle.ttl_read.specs.Grammar.{Place, StepsTo, statement}

-- a text, how many brackets may be open in a statement of it, and what else it is read within
pub record Setting : Type 0 where
  pub text : List ℕ
  pub depth : ℕ
  pub bounds : Bounds

-- ... where it is read into this pool
abbrev pub setting : List ℕ → Limits → Pooled → Setting
setting text limits pool = record {
  text = text;
  depth = limits.turtle_depth;
  bounds = record { triples = limits.triples; terms = pool.limit; held = pool.terms };
}

-- ---- a statement

-- the statement from x to y has a derivation, in which brackets nest as deep as they do, and none of them is
-- one too many
abbrev pub IsDerived : Setting → Place → Place → Type 0
IsDerived t x y =
    IsNotTooDeep t.text t.depth x.at × ((n : ℕ) × Takes (StepsTo t.text) (statement t.text n) x y)

-- the statement from x to y has no fault
pub record IsStatement (t : Setting) (x y : Place) : Type 0 where
  pub derived : IsDerived t x y
  pub terms : y.state.fault ≡ None
  pub triples : length y.state.triples ≤ t.bounds.triples
  pub room : length (terms_with t.bounds y.state.triples) ≤ t.bounds.terms

-- ---- the fault of a statement, by the first rule that it breaks

pub data Cause : Type 0 where
  TooDeep : ℕ → Cause
  NoStatement : Cause
  BadTerm : TermFault → Cause
  TooManyTriples : Cause
  TooManyTerms : Cause

abbrev pub HasCause : Setting → Place → Cause → Type 0
HasCause t x (TooDeep at) = IsTooDeep t.text t.depth x.at at
HasCause t x NoStatement =
    IsNotTooDeep t.text t.depth x.at × ((n : ℕ) → Never (StepsTo t.text) (statement t.text n) x)
HasCause t x (BadTerm fault) = (y : Place) × IsDerived t x y × (y.state.fault ≡ Some fault)
HasCause t x TooManyTriples =
    (y : Place) × IsDerived t x y × (y.state.fault ≡ None) × (t.bounds.triples < length y.state.triples)
HasCause t x TooManyTerms =
    (y : Place) × IsDerived t x y × (y.state.fault ≡ None)
    × (length y.state.triples ≤ t.bounds.triples)
    × (t.bounds.terms < length (terms_with t.bounds y.state.triples))

-- the codes of faults, and their bytes, where the statement begins at this byte
abbrev pub code_of_term : TermFaultKind → ℕ
code_of_term UnknownPrefix = UNKNOWN_PREFIX
code_of_term BadIri = BAD_IRI
code_of_term FloatLiteral = FLOAT_LITERAL
code_of_term WideValue = WIDE_VALUE

abbrev pub code_of : Cause → ℕ
code_of (TooDeep at) = TOO_DEEP
code_of NoStatement = SYNTAX
code_of (BadTerm fault) = code_of_term fault.kind
code_of TooManyTriples = TEXT_TRIPLES
code_of TooManyTerms = TEXT_TERMS

abbrev pub place_of : ℕ → Cause → ℕ
place_of start (TooDeep at) = at
place_of start NoStatement = start
place_of start (BadTerm fault) = fault.at
place_of start TooManyTriples = start
place_of start TooManyTerms = start

-- the statement at x, which begins at this byte, has a fault with this code at that byte
abbrev pub HasCauseAt : Setting → Place → ℕ → ℕ → ℕ → Type 0
HasCauseAt t x start code at =
    (cause : Cause) × HasCause t x cause × (code_of cause ≡ code) × (place_of start cause ≡ at)

-- ---- a document

-- only white space and comments follow
abbrev pub IsAtEnd : List ℕ → ℕ → Type 0
IsAtEnd text at = (token : Token) × IsTokenAt text at token × (token.kind ≡ End)

-- the first byte behind white space and comments
abbrev pub BeginsAt : List ℕ → ℕ → ℕ → Type 0
BeginsAt text at start =
    ((token : Token) × IsTokenAt text at token × (token.start ≡ start)) ⊎ IsNoTokenAt text at start

abbrev pub byte_order_mark : List ℕ
byte_order_mark = encode_utf8 65279

-- one leading byte order mark is skipped
abbrev pub first_byte : List ℕ → ℕ
first_byte text = if pointwise nat_eq (take 3 text) byte_order_mark then 3 else 0

abbrev pub start_of : List ℕ → Scope → List ℕ → Place
start_of text scope base = record { at = first_byte text; state = first_state scope base }

-- statements without fault lead from one place to another
abbrev pub Reaches : Setting → Place → Place → Type 0
Reaches t x y = (n : ℕ) × Times (IsStatement t) n x y

-- the text is a document, which leaves this state
abbrev pub IsDocument : Setting → Scope → List ℕ → State → Type 0
IsDocument t scope base s =
    IsUtf8 t.text
    × ((y : Place) × Reaches t (start_of t.text scope base) y × IsAtEnd t.text y.at × (y.state ≡ s))

-- of the statements from x on, the first that has a fault has this one
pub record HasBadStatement (t : Setting) (x : Place) (code at : ℕ) : Type 0 where
  pub reached : Place
  pub statements : Reaches t x reached
  pub start : ℕ
  pub begins : BeginsAt t.text reached.at start
  pub more : IsAtEnd t.text reached.at → ⊥
  pub cause : HasCauseAt t reached start code at

-- the fault of a text that is no document: it is not well formed as UTF-8 from this byte on, or a statement
-- has a fault
abbrev pub HasFault : Setting → Scope → List ℕ → ℕ → ℕ → Type 0
HasFault t scope base code at =
    ((code ≡ NOT_UTF8) × (IsUtf8 t.text → ⊥) × IsValidUpTo t.text at)
    ⊎ (IsUtf8 t.text × HasBadStatement t (start_of t.text scope base) code at)
