-- With which tokens a form begins: the kind of the next one decides.
use Rattle.std.proofs.Common.{◌≡◌, ◌≢◌, ℕ, ◌-◌, ◌<◌, zero, suc, Bool, true, false, ◌&&◌, ◌||◌, List, refl}
use Rattle.std.proofs.Common.{sym, true≢false, arith}
use Rattle.std.proofs.lemmas.Bool.{or_right}
use denote.Enum.Bare.{same_true, same_false, false_same}
use Rattle.ttl_tokens.specs.contracts.token.TokenKind.{the_type}
use Rattle.ttl_tokens.specs.declared.token.Token.{Token}
use Rattle.ttl_tokens.specs.declared.token.TokenKind.{TokenKind}
use Rattle.ttl_tokens.specs.declared.token.TokenKind.TheVariants.{End, BlankLabel, Anon, LangTag, Carets}
use Rattle.ttl_tokens.specs.declared.token.TokenKind.TheVariants.{CloseRound}
use Rattle.ttl_tokens.specs.Form.{Or}
use Rattle.ttl_read.specs.inner.Follows.{takes_no_token, may_begin}
use Rattle.ttl_read.specs.Grammar.{Rule, is_iri, is_string, is_bare_literal, is_kind, node, literal}
use Rattle.ttl_read.specs.Grammar.{plain_object, object, collection, property_list}

-- a token of this kind
abbrev pub at_kind : TokenKind → Token
at_kind k = record { kind = k; start = 0; end = 0 }

-- of two tests that never hold at once, the other does not hold
pub apart : (p q : Bool) → p && q ≡ false → p ≡ true → q ≡ false
apart true q none holds = none
apart false q none holds = absurd (true≢false (sym holds))

-- ---- one kind alone

pub kind_is : (kind other : TokenKind) → is_kind kind other ≡ true → other ≡ kind
kind_is kind other = same_true the_type tt other kind

pub not_of_kind : (kind other : TokenKind) → other ≢ kind → is_kind kind other ≡ false
not_of_kind kind other = false_same the_type tt other kind

pub kind_is_not : (kind other : TokenKind) → is_kind kind other ≡ false → other ≢ kind
kind_is_not kind other = same_false the_type other kind

-- ---- tests of which one holds at most

pub iri_or_blank_node : (k : TokenKind) → is_iri k && (is_kind BlankLabel k || is_kind Anon k) ≡ false
iri_or_blank_node End = refl
iri_or_blank_node k = refl

pub string_or_bare : (k : TokenKind) → is_string k && is_bare_literal k ≡ false
string_or_bare End = refl
string_or_bare k = refl

pub iri_or_string : (k : TokenKind) → is_iri k && is_string k ≡ false
iri_or_string End = refl
iri_or_string k = refl

pub iri_or_bare : (k : TokenKind) → is_iri k && is_bare_literal k ≡ false
iri_or_bare End = refl
iri_or_bare k = refl

-- a token that is a term by itself
abbrev pub is_term : TokenKind → Bool
is_term k = is_iri k || (is_kind BlankLabel k || is_bare_literal k)

pub term_or_string : (k : TokenKind) → is_term k && is_string k ≡ false
term_or_string End = refl
term_or_string k = refl

pub bare_is_term : (k : TokenKind) → is_bare_literal k ≡ true → is_term k ≡ true
bare_is_term k h = or_right (is_iri k) _ (or_right (is_kind BlankLabel k) (is_bare_literal k) h)

-- ---- objects without brackets

abbrev pub begins_literal : TokenKind → Bool
begins_literal k = is_string k || is_bare_literal k

-- a token that begins a literal begins no node
pub literal_begins_no_node : (text : List ℕ) (k : TokenKind)
    → begins_literal k && may_begin (node text) (at_kind k) ≡ false
literal_begins_no_node text End = refl
literal_begins_no_node text k = refl

-- ... and any other no literal
pub begins_other : (text : List ℕ) (k : TokenKind) → begins_literal k ≡ false
    → may_begin (literal text) (at_kind k) ≡ false
begins_other text End e = refl
begins_other text k e = e

-- ---- objects

-- what may stand behind an object and begins none
abbrev pub ends_object : TokenKind → Bool
ends_object k = (is_kind LangTag k || is_kind Carets k) || is_kind CloseRound k

-- the form of an object, as far as one token tells
pub record IsObject (o : Rule) : Type 0 where
  pub some : takes_no_token o ≡ false
  pub other : (t : Token) → ends_object t.kind ≡ true → may_begin o t ≡ false

-- an object with a bracket that may stand around such objects
abbrev pub bracketed : List ℕ → Rule → Rule
bracketed text o = Or (plain_object text) (Or (collection o) (property_list text o))

plain_other : (text : List ℕ) (k : TokenKind)
    → ends_object k && may_begin (plain_object text) (at_kind k) ≡ false
plain_other text End = refl
plain_other text k = refl

bracketed_other : (text : List ℕ) (o : Rule) (k : TokenKind)
    → ends_object k && may_begin (bracketed text o) (at_kind k) ≡ false
bracketed_other text o End = refl
bracketed_other text o k = refl

pub IsObject-object : (text : List ℕ) (depth : ℕ) → IsObject (object text depth)
unfolding object
IsObject-object text zero = record { some = refl; other = λ t e. apart _ _ (plain_other text t.kind) e }
IsObject-object text (suc depth) = record {
  some = refl;
  other = λ t e. apart _ _ (bracketed_other text (object text depth) t.kind) e;
}

-- a number of brackets that is not 0
pub one_more : (depth : ℕ) → 0 < depth → depth ≡ suc (depth - 1)
one_more depth some = omega (arith, some)
