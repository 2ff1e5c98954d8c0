-- The productions of Turtle (Turtle 1.1, section 6.5), over tokens, with what each item does. Objects stand
-- in brackets inside of objects; so that their productions are well founded, these have a number, how many
-- brackets nest at most. Of a statement any number will do.
use Rattle.std.specs.Prelude.{◌≡◌, ℕ, zero, suc, Bool, true, false, ◌&&◌, ◌||◌, nat_eq, List, codes}
use Rattle.std.specs.Cmp.Lexicographic.{pointwise}
use denote.Enum.Bare.{sameb}
use Rattle.ttl_tokens.specs.contracts.token.TokenKind.{the_type}
use Rattle.ttl_tokens.specs.declared.token.Token.{Token}
use Rattle.ttl_tokens.specs.declared.token.TokenKind.{TokenKind}
use Rattle.ttl_tokens.specs.declared.token.TokenKind.TheVariants.{IriRef, PnameNs, PnameLn, BlankLabel}
use Rattle.ttl_tokens.specs.declared.token.TokenKind.TheVariants.{LangTag, Integer, Decimal, Double}
use Rattle.ttl_tokens.specs.declared.token.TokenKind.TheVariants.{StringQuote, StringSingleQuote}
use Rattle.ttl_tokens.specs.declared.token.TokenKind.TheVariants.{StringLongSingleQuote, StringLongQuote}
use Rattle.ttl_tokens.specs.declared.token.TokenKind.TheVariants.{Anon, WordA, WordTrue, WordFalse}
use Rattle.ttl_tokens.specs.declared.token.TokenKind.TheVariants.{WordPrefix, WordBase, Carets, Dot}
use Rattle.ttl_tokens.specs.declared.token.TokenKind.TheVariants.{Semicolon, Comma, OpenSquare, CloseSquare}
use Rattle.ttl_tokens.specs.declared.token.TokenKind.TheVariants.{OpenRound, CloseRound}
use Rattle.ttl_tokens.specs.Form.{Form, Item, Then, Or, Maybe, Many}
use Rattle.ttl_tokens.specs.Tokens.{IsTokenAt}
use Rattle.ttl_tokens.specs.Unescaped.{token_text}
use Rattle.ttl_meaning.specs.declared.iris.IriRole.{IriRole}
use Rattle.ttl_meaning.specs.declared.iris.IriRole.TheVariants.{Node, Verb, Datatype}
use Rattle.ttl_meaning.specs.State.{State}
use Rattle.ttl_meaning.specs.Items.{on_iri, on_a, on_literal, on_string, plain_string, on_tag, on_label}
use Rattle.ttl_meaning.specs.Items.{on_anon, open_node, close_node, first_cell, next_cell, behind_member}
use Rattle.ttl_meaning.specs.Items.{end_list, empty_list, hold_prefix, on_namespace, on_base}
use Rattle.ttl_meaning.specs.Items.{begin_statement}

-- an item: a token of which a test holds, with what it does; or something that is done between tokens
pub data Step : Type 0 where
  One : (Token → Bool) → (Token → State → State) → Step
  Do : (State → State) → Step

-- a place in the text, and what was read before it
pub record Place : Type 0 where
  pub at : ℕ
  pub state : State

abbrev pub Rule : Type 0
Rule = Form Step

-- where an item leads
abbrev pub StepsTo : List ℕ → Step → Place → Place → Type 0
StepsTo text (One test act) x y =
    (token : Token) × IsTokenAt text x.at token × (test token ≡ true)
    × (record { at = token.end; state = act token x.state } ≡ y)
StepsTo text (Do act) x y = record { at = x.at; state = act x.state } ≡ y

-- ---- tokens

-- the kinds of a group
abbrev pub is_iri : TokenKind → Bool
is_iri IriRef = true
is_iri PnameLn = true
is_iri PnameNs = true
is_iri kind = false

abbrev pub is_string : TokenKind → Bool
is_string StringQuote = true
is_string StringSingleQuote = true
is_string StringLongSingleQuote = true
is_string StringLongQuote = true
is_string kind = false

abbrev pub is_bare_literal : TokenKind → Bool
is_bare_literal Integer = true
is_bare_literal Decimal = true
is_bare_literal Double = true
is_bare_literal WordTrue = true
is_bare_literal WordFalse = true
is_bare_literal kind = false

-- whether a token is of this kind, as `==` tells
abbrev pub is_kind : TokenKind → TokenKind → Bool
is_kind kind other = sameb the_type other kind

abbrev pub begins_verb : TokenKind → Bool
begins_verb kind = is_iri kind || is_kind WordA kind

-- a token of a group, and what it does
abbrev pub one_of : (TokenKind → Bool) → (Token → State → State) → Rule
one_of group act = Item (One (λ t. group t.kind) act)

-- a token of this kind, and what it does
abbrev pub token : TokenKind → (Token → State → State) → Rule
token kind act = one_of (is_kind kind) act

-- a token that does the same whatever it says
abbrev pub sign : TokenKind → (State → State) → Rule
sign kind act = token kind (λ t. act)

-- a token that does nothing
abbrev pub mark : TokenKind → Rule
mark kind = sign kind (λ s. s)

abbrev pub do_ : (State → State) → Rule
do_ act = Item (Do act)

-- ---- terms

-- iri
abbrev pub iri : List ℕ → IriRole → Rule
iri text role = one_of is_iri (on_iri text role)

-- verb
abbrev pub verb : List ℕ → Rule
verb text = Or (iri text Verb) (sign WordA on_a)

-- BlankNode
abbrev pub blank_node : List ℕ → Rule
blank_node text = Or (token BlankLabel (on_label text)) (sign Anon on_anon)

-- iri | BlankNode
abbrev pub node : List ℕ → Rule
node text = Or (iri text Node) (blank_node text)

-- what follows a string: (LANGTAG | '^^' iri)?
abbrev pub string_end : List ℕ → Rule
string_end text =
    Or (token LangTag (on_tag text)) (Or (Then (mark Carets) (iri text Datatype)) (do_ plain_string))

abbrev pub string_literal : List ℕ → Rule
string_literal text = Then (one_of is_string (on_string text)) (string_end text)

-- literal
abbrev pub literal : List ℕ → Rule
literal text = Or (string_literal text) (one_of is_bare_literal (on_literal text))

-- iri | BlankNode | literal
abbrev pub plain_object : List ℕ → Rule
plain_object text = Or (node text) (literal text)

-- ---- lists of objects; `object` is the form of one

-- objectList
abbrev pub object_list : Rule → Rule
object_list object = Then object (Many (Then (mark Comma) object))

-- verb objectList
abbrev pub verb_objects : List ℕ → Rule → Rule
verb_objects text object = Then (verb text) (object_list object)

-- predicateObjectList
abbrev pub predicate_object_list : List ℕ → Rule → Rule
predicate_object_list text object =
    Then (verb_objects text object) (Many (Then (mark Semicolon) (Maybe (verb_objects text object))))

-- blankNodePropertyList
abbrev pub property_list : List ℕ → Rule → Rule
property_list text object =
    Then (sign OpenSquare open_node)
    (Then (predicate_object_list text object) (sign CloseSquare close_node))

-- a member of a collection, and its cell
abbrev pub member : (State → State) → Rule → Rule
member cell object = Then (do_ cell) (Then object (do_ behind_member))

-- object+ ')'
abbrev pub members : Rule → Rule
members object =
    Then (member first_cell object)
    (Then (Many (member next_cell object)) (sign CloseRound end_list))

-- collection
abbrev pub collection : Rule → Rule
collection object = Then (mark OpenRound) (Or (sign CloseRound empty_list) (members object))

-- object, so many brackets deep at most
unfoldable pub object : List ℕ → ℕ → Rule
object text zero = plain_object text
object text (suc depth) =
    Or (plain_object text) (Or (collection (object text depth)) (property_list text (object text depth)))

-- ---- statements

-- subject
abbrev pub subject : List ℕ → ℕ → Rule
subject text zero = node text
subject text (suc depth) = Or (node text) (collection (object text depth))

-- subject predicateObjectList
abbrev pub subject_triples : List ℕ → ℕ → Rule
subject_triples text depth =
    Then (subject text depth) (predicate_object_list text (object text depth))

-- blankNodePropertyList predicateObjectList?
abbrev pub node_triples : List ℕ → ℕ → Rule
node_triples text depth =
    Then (property_list text (object text depth))
    (Maybe (predicate_object_list text (object text (suc depth))))

-- triples
abbrev pub triples : List ℕ → ℕ → Rule
triples text zero = subject_triples text zero
triples text (suc depth) = Or (subject_triples text (suc depth)) (node_triples text depth)

-- a language tag that is this word
abbrev pub tag_word : List ℕ → List ℕ → Rule
tag_word text word =
    Item (One (λ t. is_kind LangTag t.kind && pointwise nat_eq (token_text text t) word) (λ t s. s))

-- PNAME_NS IRIREF
abbrev pub prefix_binding : List ℕ → Rule
prefix_binding text =
    Then (token PnameNs (hold_prefix text)) (token IriRef (on_namespace text))

-- IRIREF
abbrev pub base_setting : List ℕ → Rule
base_setting text = token IriRef (on_base text)

-- directive
abbrev pub directive : List ℕ → Rule
directive text =
    Or (Then (tag_word text (codes "@prefix")) (Then (prefix_binding text) (mark Dot)))
    (Or (Then (tag_word text (codes "@base")) (Then (base_setting text) (mark Dot)))
    (Or (Then (mark WordPrefix) (prefix_binding text)) (Then (mark WordBase) (base_setting text))))

-- statement, for some number
abbrev pub statement : List ℕ → ℕ → Rule
statement text depth =
    Then (do_ begin_statement) (Or (directive text) (Then (triples text depth) (mark Dot)))
