-- Where a term ends that begins at a token.
use Rattle.std.proofs.Common.{◌≡◌, ℕ, ◌≤◌, true, false, List, length, Result, Ok, Err, refl, sym, ap, ◌∙◌}
use Rattle.std.proofs.Common.{true≢false, inl, inr, subst, drop}
use Rattle.std.specs.Str.{IsCharBoundary, IsUtf8}
use Rattle.shx_term.specs.declared.term.Literal.{Literal}
use Rattle.shx_term.specs.declared.term.Term.{Term}
use Rattle.shx_term.specs.Spelling.{xsd_string}
use Rattle.ttl_tokens.specs.declared.token.Token.{Token}
use Rattle.ttl_tokens.specs.Tokens.{IsTokenAt}
use Rattle.ttl_tokens.specs.Unescaped.{IsGiven, token_text}
use Rattle.ttl_meaning.specs.declared.document.Document.{Document}
use Rattle.ttl_meaning.specs.declared.fault.TermFaultKind.{TermFaultKind}
use Rattle.ttl_meaning.specs.InForce.{in_force}
use Rattle.ttl_meaning.specs.Terms.{said, iri_of, judged, typed, tagged, datatype_of}
use Rattle.ttl_read.specs.Grammar.{is_string}
use Rattle.ttl_read.specs.ReadTerm.{A, found, found_iri, found_typed, IsFound, AnIri}
use Rattle.ttl_read.specs.ReadTerm.{ANode, ALiteral, AString, Other, GoesTo, OneToken, WithTag}
use Rattle.ttl_read.specs.ReadTerm.{WithDatatype, AsString}
use Rattle.ttl_read.proofs.FoundLemmas.{one_tag, one_datatype, tag_or_datatype}
use Rattle.ttl_read.proofs.KindLemmas.{apart, is_term, term_or_string, bare_is_term}

-- ---- one end

-- a token that is a term is no string
term_no_string : (token : Token) → is_term token.kind ≡ true → is_string token.kind ≡ true → ⊥
term_no_string token term string =
    true≢false (sym string ∙ apart _ _ (term_or_string token.kind) term)

-- no term begins at any other token
pub goes_nowhere : (text : List ℕ) (token : Token) → is_term token.kind ≡ false
    → is_string token.kind ≡ false → (end : ℕ) → GoesTo text token end → ⊥
goes_nowhere text token term string end (OneToken kind is) = true≢false (sym kind ∙ term)
goes_nowhere text token term string end (WithTag kind tag has is) = true≢false (sym kind ∙ string)
goes_nowhere text token term string end (WithDatatype kind iri has is) = true≢false (sym kind ∙ string)
goes_nowhere text token term string end (AsString kind tag datatype is) = true≢false (sym kind ∙ string)

-- a token that is a term is all of it
term_alone : (text : List ℕ) (token : Token) → is_term token.kind ≡ true → (end : ℕ) → GoesTo text token end
    → end ≡ token.end
term_alone text token term end (OneToken kind is) = is
term_alone text token term end (WithTag kind tag has is) = absurd (term_no_string token term kind)
term_alone text token term end (WithDatatype kind iri has is) = absurd (term_no_string token term kind)
term_alone text token term end (AsString kind tag datatype is) = absurd (term_no_string token term kind)

module _ (text : List ℕ) (token : Token) (utf8 : IsUtf8 text) where
  pub one_end : (a b : ℕ) → GoesTo text token a → GoesTo text token b → a ≡ b
  one_end a b (OneToken kind is) other = is ∙ sym (term_alone text token kind b other)
  one_end a b other (OneToken kind is) = term_alone text token kind a other ∙ sym is
  one_end a b (WithTag kind t has is) (WithTag kind' u also is') =
      is ∙ ap (λ (t : Token). t.end) (one_tag text token utf8 t u has also) ∙ sym is'
  one_end a b (WithTag kind t has is) (WithDatatype kind' u also is') =
      absurd (tag_or_datatype text token utf8 t u has also)
  one_end a b (WithTag kind t has is) (AsString kind' none datatype is') = absurd (none t has)
  one_end a b (WithDatatype kind t has is) (WithTag kind' u also is') =
      absurd (tag_or_datatype text token utf8 u t also has)
  one_end a b (WithDatatype kind t has is) (WithDatatype kind' u also is') =
      is ∙ ap (λ (t : Token). t.end) (one_datatype text token utf8 t u has also) ∙ sym is'
  one_end a b (WithDatatype kind t has is) (AsString kind' tag none is') = absurd (none t has)
  one_end a b (AsString kind none datatype is) (WithTag kind' u also is') = absurd (none u also)
  one_end a b (AsString kind tag none is) (WithDatatype kind' u also is') = absurd (none u also)
  one_end a b (AsString kind tag datatype is) (AsString kind' tag' datatype' is') = is ∙ sym is'

-- ---- within the text

-- a place at which the text may be cut
pub record IsPlace (text : List ℕ) (at : ℕ) : Type 0 where
  pub within : at ≤ length text
  pub boundary : IsCharBoundary text at

token_ends : (text : List ℕ) (at : ℕ) (token : Token) → IsTokenAt text at token → (end : ℕ)
    → end ≡ token.end → IsPlace text end
token_ends text at token here end is =
    subst (λ n. IsPlace text n) (sym is) (record { within = here.within; boundary = here.end })

pub goes_within : (text : List ℕ) (token : Token) → IsGiven text token → (end : ℕ) → GoesTo text token end
    → IsPlace text end
goes_within text token given end (OneToken kind is) = token_ends text given.0 token given.1 end is
goes_within text token given end (WithTag kind tag has is) = token_ends text token.end tag has.0 end is
goes_within text token given end (WithDatatype kind iri has is) =
    token_ends text has.0.end iri has.3 end is
goes_within text token given end (AsString kind tag datatype is) =
    token_ends text given.0 token given.1 end is

-- ---- the end of what is found

found_end : (start stop : ℕ) (r : Result Term TermFaultKind) (term : Term) (end : ℕ)
    → A term end ≡ found start stop r → end ≡ stop
found_end start stop (Ok made) term end e = cc
found_end start stop (Err kind) term end e = absurd (cc)

iri_end : (token : Token) (r : Result (List ℕ) TermFaultKind) (term : Term) (end : ℕ)
    → A term end ≡ found_iri token r → end ≡ token.end
iri_end token (Ok iri) term end e = cc
iri_end token (Err kind) term end e = absurd (cc)

typed_end : (text : List ℕ) (token iri : Token) (r : Result (List ℕ) TermFaultKind) (term : Term) (end : ℕ)
    → A term end ≡ found_typed text token iri r → end ≡ iri.end
typed_end text token iri (Ok datatype) term end e =
    found_end token.start iri.end (judged (typed (said text token) datatype)) term end e
typed_end text token iri (Err kind) term end e = absurd (cc)

module _ (text : List ℕ) (token : Token) (document : Document) (term : Term) (end : ℕ) where
  abbrev bare : Literal
  bare = typed (token_text text token) (datatype_of token.kind)

  abbrev with_tag : Token → Literal
  with_tag tag = tagged (said text token) (drop 1 (token_text text tag))

  abbrev plain : Literal
  plain = typed (said text token) xsd_string

  pub found_goes : IsFound text token document (A term end) → GoesTo text token end
  found_goes (AnIri kind is) =
      OneToken (rw kind refl) (iri_end token (iri_of text token (in_force document)) term end is)
  found_goes (ANode kind (inl node)) = OneToken (rw kind refl) (let e = node.3 in cc)
  found_goes (ANode kind (inr none)) = absurd (let e = none.1 in cc)
  found_goes (ALiteral kind is) =
      OneToken (bare_is_term token.kind kind) (found_end token.start token.end (judged bare) term end is)
  found_goes (AString kind (inl tag)) =
      WithTag kind tag.0 tag.1 (found_end token.start tag.0.end (judged (with_tag tag.0)) term end tag.2)
  found_goes (AString kind (inr (inl iri))) =
      WithDatatype kind iri.0 iri.1
      (typed_end text token iri.0 (iri_of text iri.0 (in_force document)) term end iri.2)
  found_goes (AString kind (inr (inr none))) =
      AsString kind none.0 none.1 (found_end token.start token.end (judged plain) term end none.2)
  found_goes (Other iri label bare string is) = absurd (cc)
