-- What is found at a token suits it, and is no wide literal.
use Rattle.std.proofs.Common.{◌≡◌, ℕ, Bool, true, false, List, Result, Ok, Err, refl, sym, ◌∙◌, inl, inr}
use Rattle.std.proofs.Common.{true≢false, drop}
use Rattle.std.specs.Prelude.{if◌then◌else◌}
use Rattle.shx_term.specs.declared.term.BlankName.{BlankName}
use Rattle.shx_term.specs.declared.term.Literal.{Literal}
use Rattle.shx_term.specs.declared.term.Term.{Term}
use Rattle.shx_term.specs.declared.term.Term.TheVariants.{Iri, Blank, Lit}
use Rattle.shx_term.specs.Spelling.{xsd_string}
use Rattle.shx_term.specs.ValidTriples.{IsIri, IsNotWide}
use Rattle.shx_term.specs.WideLiterals.{is_wide}
use Rattle.value_space.specs.Values.{is_float}
use Rattle.ttl_tokens.specs.declared.token.Token.{Token}
use Rattle.ttl_tokens.specs.declared.token.TokenKind.TheVariants.{BlankLabel}
use Rattle.ttl_tokens.specs.Unescaped.{token_text}
use Rattle.ttl_meaning.specs.declared.document.Document.{Document}
use Rattle.ttl_meaning.specs.declared.fault.TermFaultKind.{TermFaultKind}
use Rattle.ttl_meaning.specs.declared.fault.TermFaultKind.TheVariants.{FloatLiteral, WideValue}
use Rattle.ttl_meaning.specs.InForce.{HasNode, in_force}
use Rattle.ttl_meaning.specs.Terms.{said, iri_of, judged, typed, tagged, datatype_of}
use Rattle.ttl_read.specs.Grammar.{is_iri}
use Rattle.ttl_read.specs.ReadTerm.{A, found, found_iri, found_typed, IsFound, AnIri, ANode, ALiteral}
use Rattle.ttl_read.specs.ReadTerm.{AString, Other}
use Rattle.ttl_read.proofs.KindLemmas.{apart, iri_or_bare, iri_or_string}

-- ---- IRIs

found_iri_is : (token : Token) (r : Result (List ℕ) TermFaultKind) (term : Term) (end : ℕ)
    → A term end ≡ found_iri token r → IsIri term
found_iri_is token (Ok iri) term end e = let same : term ≡ Iri iri = cc in rw same tt
found_iri_is token (Err kind) term end e = absurd (cc)

iri_not_wide : (term : Term) → IsIri term → IsNotWide term
iri_not_wide (Iri iri) is = tt
iri_not_wide (Blank node) is = absurd is
iri_not_wide (Lit literal) is = absurd is

-- ---- literals

judged_not_wide : (start stop : ℕ) (literal : Literal) (term : Term) (end : ℕ)
    → A term end ≡ found start stop (judged literal) → IsNotWide term
judged_not_wide start stop literal term end = go (is_float literal) (is_wide literal) refl
  where
    go : (float wide : Bool) → is_wide literal ≡ wide
        → A term end
        ≡ found start stop
        (if float then Err FloatLiteral else if wide then Err WideValue else Ok (Lit literal))
        → IsNotWide term
    go true wide is e = absurd (cc)
    go false true is e = absurd (cc)
    go false false is e = let same : term ≡ Lit literal = cc in rw same is

typed_not_wide : (text : List ℕ) (token iri : Token) (r : Result (List ℕ) TermFaultKind) (term : Term)
    (end : ℕ) → A term end ≡ found_typed text token iri r → IsNotWide term
typed_not_wide text token iri (Ok datatype) term end e =
    judged_not_wide token.start iri.end (typed (said text token) datatype) term end e
typed_not_wide text token iri (Err kind) term end e = absurd (cc)

-- ---- by the token

module _ (text : List ℕ) (token : Token) (document : Document) (term : Term) (end : ℕ) where
  pub found_at_iri : is_iri token.kind ≡ true → IsFound text token document (A term end) → IsIri term
  found_at_iri iri (AnIri kind is) =
      found_iri_is token (iri_of text token (in_force document)) term end is
  found_at_iri iri (ANode kind is) = absurd (true≢false (sym iri ∙ rw kind refl))
  found_at_iri iri (ALiteral kind is) =
      absurd (true≢false (sym kind ∙ apart _ _ (iri_or_bare token.kind) iri))
  found_at_iri iri (AString kind is) =
      absurd (true≢false (sym kind ∙ apart _ _ (iri_or_string token.kind) iri))
  found_at_iri iri (Other none label bare string is) = absurd (true≢false (sym iri ∙ none))

  pub found_at_label : token.kind ≡ BlankLabel → IsFound text token document (A term end)
      → (node : BlankName) × HasNode document node × (term ≡ Blank node)
  found_at_label label (AnIri kind is) = absurd (true≢false (sym kind ∙ rw label refl))
  found_at_label label (ANode kind (inl node)) = (node.0, node.1, let e = node.3 in cc)
  found_at_label label (ANode kind (inr none)) = absurd (let e = none.1 in cc)
  found_at_label label (ALiteral kind is) = absurd (true≢false (sym kind ∙ rw label refl))
  found_at_label label (AString kind is) = absurd (true≢false (sym kind ∙ rw label refl))
  found_at_label label (Other none other bare string is) = absurd (other label)

  pub found_not_wide : IsFound text token document (A term end) → IsNotWide term
  found_not_wide (AnIri kind is) =
      iri_not_wide term (found_iri_is token (iri_of text token (in_force document)) term end is)
  found_not_wide (ANode kind (inl node)) =
      let e = node.3 in let same : term ≡ Blank node.0 = cc in rw same tt
  found_not_wide (ANode kind (inr none)) = absurd (let e = none.1 in cc)
  found_not_wide (ALiteral kind is) =
      judged_not_wide token.start token.end (typed (token_text text token) (datatype_of token.kind))
      term end is
  found_not_wide (AString kind (inl tag)) =
      judged_not_wide token.start tag.0.end (tagged (said text token) (drop 1 (token_text text tag.0)))
      term end tag.2
  found_not_wide (AString kind (inr (inl iri))) =
      typed_not_wide text token iri.0 (iri_of text iri.0 (in_force document)) term end iri.2
  found_not_wide (AString kind (inr (inr none))) =
      judged_not_wide token.start token.end (typed (said text token) xsd_string) term end none.2
  found_not_wide (Other iri label bare string is) = absurd (cc)
