-- The parts of a line.
use Rattle.std.specs.Prelude.{◌≡◌, ◌≢◌, ℕ, true, false, List, Result, Ok, Err, slice_index}
use Rattle.std.specs.Str.{IsCharBoundary}
use Rattle.shx_term.specs.declared.term.Term.{Term}
use Rattle.ttl_tokens.specs.declared.token.Token.{Token}
use Rattle.ttl_tokens.specs.declared.token.TokenKind.TheVariants.{Dot}
use Rattle.ttl_tokens.specs.Chars.{is_white}
use Rattle.ttl_read.specs.Grammar.{is_kind}
use Rattle.ttl_read.specs.ReadTerm.{Found, A, No}
use Rattle.script_lines.specs.declared.fault.LineFault.{LineFault}
use Rattle.script_lines.specs.declared.fault.LineFault.TheVariants.{Memory}
use Rattle.script_lines.specs.declared.line_form.PairTokens.{PairTokens}
use Rattle.script_lines.specs.declared.line_form.Terms.{Terms}
use Rattle.script_lines.specs.declared.word.Word.{Word}
use Rattle.script_lines.specs.Forms.{Comes, EndsAt, IsPair, IsTriple, begins_with}
use Rattle.script_lines.specs.Forms.{word_end, word_text}
use Rattle.script_lines.specs.Lines.{term_fault}

-- the line begins with the word, which ends here
pub record IsWordEnd (line word : List ℕ) (at : ℕ) : Type 0 where
  pub begins : begins_with word line ≡ true
  pub place : at ≡ word_end word line
  pub boundary : IsCharBoundary line at

-- the line begins with none of the words that stand alone
abbrev pub BeginsWithNone : List ℕ → Type 0
BeginsWithNone line = (word : Word) → begins_with (word_text word) line ≡ false

-- a dot comes next, and then nothing more
pub record IsStop (line : List ℕ) (at : ℕ) : Type 0 where
  pub dot : Token
  pub dotted : Comes line at (is_kind Dot) dot
  pub ends : EndsAt line dot.end

-- the line begins with the word, which ends here, with white space behind it
pub record IsPartedWord (line word : List ℕ) (at : ℕ) : Type 0 where
  pub ends : IsWordEnd line word at
  pub parted : is_white (slice_index line at) ≡ true

-- a triple begins with these tokens
abbrev pub HasTerms : List ℕ → Terms → Type 0
HasTerms line terms = (at : ℕ) × IsTriple line at terms

-- a pair begins with these tokens
abbrev pub HasPair : List ℕ → PairTokens → Type 0
HasPair line pair = (at : ℕ) × IsPair line at pair

-- a fault that is no want of memory is the one of a term of which this is found
abbrev pub IsTermFault : (Found → Type 0) → LineFault → Type 0
IsTermFault Is fault = (code at : ℕ) × Is (No code at) × (fault ≡ term_fault code at)

-- a term of which this is found, or its fault
abbrev pub IsTermRead : (Found → Type 0) → Result Term LineFault → Type 0
IsTermRead Is (Ok term) = (end : ℕ) × Is (A term end)
IsTermRead Is (Err fault) = fault ≢ Memory → IsTermFault Is fault
