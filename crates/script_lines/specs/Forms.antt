-- The forms of a line, by the tokens of Turtle: nothing but white space and comments; a word alone; a word
-- and a triple; a word with a shape and a node; or a word and a string. Before the word of a line stands
-- white space alone, and it is written in small letters.
use Rattle.std.specs.Prelude.{◌≡◌, ℕ, ◌+◌, Bool, true, not, ◌||◌, List, drop, length, nat_eq, codes}
use Rattle.std.specs.Prelude.{slice_index}
use Rattle.std.specs.List.{before_first, starts_with}
use Rattle.ttl_tokens.specs.declared.token.Token.{Token}
use Rattle.ttl_tokens.specs.declared.token.TokenKind.{TokenKind}
use Rattle.ttl_tokens.specs.declared.token.TokenKind.TheVariants.{BlankLabel, Dot, End}
use Rattle.ttl_tokens.specs.Chars.{is_white}
use Rattle.ttl_tokens.specs.Tokens.{IsTokenAt}
use Rattle.ttl_read.specs.Grammar.{begins_verb, is_iri, is_kind, is_string}
use Rattle.ttl_read.specs.ReadTerm.{GoesTo}
use Rattle.script_lines.specs.declared.line_form.LineForm.{LineForm}
use Rattle.script_lines.specs.declared.line_form.LineForm.TheVariants.{Blank, Alone, Insert, Remove, Slice}
use Rattle.script_lines.specs.declared.line_form.LineForm.TheVariants.{Shapes}
use Rattle.script_lines.specs.declared.line_form.PairTokens.{PairTokens}
use Rattle.script_lines.specs.declared.line_form.Terms.{Terms}
use Rattle.script_lines.specs.declared.word.Word.{Word}
use Rattle.script_lines.specs.declared.word.Word.TheVariants.{Report, Count, Begin, Commit, Abandon}
use Rattle.script_lines.specs.declared.word.Word.TheVariants.{Undo, Redo}

-- ---- words

-- the byte at which the word of a line begins
abbrev pub word_start : List ℕ → ℕ
word_start line = length (before_first (λ b. not (is_white b)) line)

abbrev pub begins_with : List ℕ → List ℕ → Bool
begins_with word line = starts_with nat_eq (drop (word_start line) line) word

-- the byte behind a word with which a line begins
abbrev pub word_end : List ℕ → List ℕ → ℕ
word_end word line = word_start line + length word

-- how a word that stands alone is written
abbrev pub word_text : Word → List ℕ
word_text Report = codes "report"
word_text Count = codes "count"
word_text Begin = codes "begin"
word_text Commit = codes "commit"
word_text Abandon = codes "abandon"
word_text Undo = codes "undo"
word_text Redo = codes "redo"

-- from this byte on there is nothing but white space and comments
pub record EndsAt (line : List ℕ) (at : ℕ) : Type 0 where
  pub last : Token
  pub next : IsTokenAt line at last
  pub end : last.kind ≡ End

-- a word alone
pub record IsWord (line word : List ℕ) : Type 0 where
  pub begins : begins_with word line ≡ true
  pub ends : EndsAt line (word_end word line)

-- ---- triples

-- a token of some kinds comes next
pub record Comes (line : List ℕ) (at : ℕ) (kinds : TokenKind → Bool) (token : Token) : Type 0 where
  pub next : IsTokenAt line at token
  pub kind : kinds token.kind ≡ true

-- an IRI, or the label of a blank node
abbrev pub is_subject : TokenKind → Bool
is_subject kind = is_iri kind || is_kind BlankLabel kind

-- subject, predicate and object, which begin with these tokens, and a dot; and then nothing more
pub record IsTriple (line : List ℕ) (at : ℕ) (terms : Terms) : Type 0 where
  pub subject : Comes line at is_subject terms.subject
  pub predicate : Comes line terms.subject.end begins_verb terms.predicate
  pub object : IsTokenAt line terms.predicate.end terms.object
  pub behind : ℕ
  pub object_goes : GoesTo line terms.object behind
  pub dot : Token
  pub dotted : Comes line behind (is_kind Dot) dot
  pub ends : EndsAt line dot.end

-- the line begins with a word, and white space stands behind it
pub record BeginsWith (line word : List ℕ) : Type 0 where
  pub begins : begins_with word line ≡ true
  pub parted : is_white (slice_index line (word_end word line)) ≡ true

-- a word, white space, and a triple
pub record IsEdit (line word : List ℕ) (terms : Terms) : Type 0 where
  pub word_is : BeginsWith line word
  pub triple : IsTriple line (word_end word line) terms

-- ---- pairs

-- a shape and a node, which begin with these tokens; and then nothing more
pub record IsPair (line : List ℕ) (at : ℕ) (pair : PairTokens) : Type 0 where
  pub shape : Comes line at is_subject pair.shape
  pub node : IsTokenAt line pair.shape.end pair.node
  pub behind : ℕ
  pub node_goes : GoesTo line pair.node behind
  pub ends : EndsAt line behind

-- a word, white space, and a pair
pub record IsSlice (line word : List ℕ) (pair : PairTokens) : Type 0 where
  pub word_is : BeginsWith line word
  pub pair_is : IsPair line (word_end word line) pair

-- ---- names

-- a string, and then nothing more
pub record IsName (line : List ℕ) (at : ℕ) (name : Token) : Type 0 where
  pub string : Comes line at is_string name
  pub ends : EndsAt line name.end

-- a word, white space, and a name
pub record IsShapes (line word : List ℕ) (name : Token) : Type 0 where
  pub word_is : BeginsWith line word
  pub name_is : IsName line (word_end word line) name

-- ---- lines

abbrev pub HasForm : List ℕ → LineForm → Type 0
HasForm line Blank = EndsAt line 0
HasForm line (Alone word) = IsWord line (word_text word)
HasForm line (Insert terms) = IsEdit line (codes "insert") terms
HasForm line (Remove terms) = IsEdit line (codes "remove") terms
HasForm line (Slice pair) = IsSlice line (codes "slice") pair
HasForm line (Shapes name) = IsShapes line (codes "shapes") name
