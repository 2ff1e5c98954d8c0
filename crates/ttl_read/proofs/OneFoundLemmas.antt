-- At a token one thing is found.
use Rattle.std.proofs.Common.{◌≡◌, ◌≢◌, ℕ, Bool, true, false, List, sym, ap, ◌∙◌, inl, inr}
use Rattle.std.proofs.Common.{true≢false, drop}
use Rattle.std.specs.Bool.{MatchBool}
use Rattle.std.specs.Str.{IsUtf8}
use Rattle.shx_term.specs.declared.term.BlankName.{BlankName}
use Rattle.shx_term.specs.declared.term.Term.TheVariants.{Blank}
use Rattle.shx_term.specs.Spelling.{spelling_of}
use Rattle.ttl_tokens.specs.declared.token.Token.{Token}
use Rattle.ttl_tokens.specs.declared.token.TokenKind.{TokenKind}
use Rattle.ttl_tokens.specs.declared.token.TokenKind.TheVariants.{IriRef, PnameLn, PnameNs, BlankLabel}
use Rattle.ttl_tokens.specs.declared.token.TokenKind.TheVariants.{Integer, Decimal, Double, WordTrue}
use Rattle.ttl_tokens.specs.declared.token.TokenKind.TheVariants.{WordFalse, StringQuote, StringSingleQuote}
use Rattle.ttl_tokens.specs.declared.token.TokenKind.TheVariants.{StringLongQuote, StringLongSingleQuote}
use Rattle.ttl_tokens.specs.Unescaped.{token_text}
use Rattle.ttl_meaning.specs.declared.document.Document.{Document}
use Rattle.ttl_meaning.specs.InForce.{HasNode, in_force}
use Rattle.ttl_meaning.specs.Terms.{said, iri_of, judged, typed, tagged, datatype_of}
use Rattle.ttl_meaning.proofs.NodeLemmas.{one_node}
use Rattle.ttl_read.specs.Grammar.{is_iri, is_bare_literal, is_string, is_kind}
use Rattle.ttl_read.specs.ReadTerm.{Found, A, No, found, found_iri, found_typed}
use Rattle.ttl_read.specs.ReadTerm.{IsFound, AnIri, ANode, ALiteral, AString, Other, IsNodeFound}
use Rattle.ttl_read.specs.ReadTerm.{IsOneFound, IsStringFound}
use Rattle.ttl_read.proofs.FoundLemmas.{one_tag, one_datatype, tag_or_datatype}
use Rattle.ttl_read.proofs.KindLemmas.{not_of_kind}

-- one answer alone
abbrev pub IsOnce : (Found → Type 0) → Type 0
IsOnce P = (a b : Found) → P a → P b → a ≡ b

once_equal : (answer : Found) → IsOnce (λ a. a ≡ answer)
once_equal answer a b e f = e ∙ sym f

once_match : (test : Bool) (P Q : Found → Type 0) → IsOnce P → IsOnce Q
    → IsOnce (λ a. MatchBool test (P a) (Q a))
once_match true P Q p q = p
once_match false P Q p q = q

-- ---- a blank node

-- nodes that are spelled alike are one
abbrev pub AreToldApart : (BlankName → Type 0) → Type 0
AreToldApart Is =
    (node other : BlankName) → Is node → Is other → spelling_of (Blank node) ≡ spelling_of (Blank other)
    → node ≡ other

-- ... so one of them is found
pub one_of_them : (Is : BlankName → Type 0) → AreToldApart Is → (text : List ℕ) (token : Token)
    → IsOnce (IsOneFound Is text token)
one_of_them Is one text token a b (inl n) (inl m) =
    let same : n.0 ≡ m.0 = one n.0 m.0 n.1 m.1 (n.2 ∙ sym m.2) in
    n.3 ∙ ap (λ (node : BlankName). A (Blank node) token.end) same ∙ sym m.3
one_of_them Is one text token a b (inl n) (inr none) = absurd (none.0 n.0 n.1 n.2)
one_of_them Is one text token a b (inr none) (inl m) = absurd (none.0 m.0 m.1 m.2)
one_of_them Is one text token a b (inr none) (inr also) = none.1 ∙ sym also.1

-- ---- by the kind of a token, in turn

module _ (P Q R S T : Type 0) where
  abbrev ByKind : TokenKind → Type 0
  ByKind k =
      MatchBool (is_iri k) P (MatchBool (is_kind BlankLabel k) Q (MatchBool (is_bare_literal k) R
      (MatchBool (is_string k) S T)))

  by_iri : (k : TokenKind) → is_iri k ≡ true → P → ByKind k
  by_iri IriRef h p = p
  by_iri PnameLn h p = p
  by_iri PnameNs h p = p
  by_iri k h p = absurd (true≢false (sym h))

  by_node : (k : TokenKind) → k ≡ BlankLabel → Q → ByKind k
  by_node k h q = rw h q

  by_literal : (k : TokenKind) → is_bare_literal k ≡ true → R → ByKind k
  by_literal Integer h r = r
  by_literal Decimal h r = r
  by_literal Double h r = r
  by_literal WordTrue h r = r
  by_literal WordFalse h r = r
  by_literal k h r = absurd (true≢false (sym h))

  by_string : (k : TokenKind) → is_string k ≡ true → S → ByKind k
  by_string StringQuote h s = s
  by_string StringSingleQuote h s = s
  by_string StringLongSingleQuote h s = s
  by_string StringLongQuote h s = s
  by_string k h s = absurd (true≢false (sym h))

  by_other : (k : TokenKind) → is_iri k ≡ false → k ≢ BlankLabel → is_bare_literal k ≡ false
      → is_string k ≡ false → T → ByKind k
  by_other k iri label bare string t = rw (iri, not_of_kind BlankLabel k label, bare, string) t

module _ (text : List ℕ) (token : Token) (document : Document) (utf8 : IsUtf8 text) where
  -- ---- a string

  abbrev with_tag : Token → Found
  with_tag tag = found token.start tag.end (judged (tagged (said text token) (drop 1 (token_text text tag))))

  abbrev with_datatype : Token → Found
  with_datatype iri = found_typed text token iri (iri_of text iri (in_force document))

  string_once : IsOnce (IsStringFound text token document)
  string_once a b (inl t) (inl u) = t.2 ∙ ap with_tag (one_tag text token utf8 t.0 u.0 t.1 u.1) ∙ sym u.2
  string_once a b (inl t) (inr (inl d)) = absurd (tag_or_datatype text token utf8 t.0 d.0 t.1 d.1)
  string_once a b (inl t) (inr (inr none)) = absurd (none.0 t.0 t.1)
  string_once a b (inr (inl d)) (inl t) = absurd (tag_or_datatype text token utf8 t.0 d.0 t.1 d.1)
  string_once a b (inr (inl d)) (inr (inl e)) =
      d.2 ∙ ap with_datatype (one_datatype text token utf8 d.0 e.0 d.1 e.1) ∙ sym e.2
  string_once a b (inr (inl d)) (inr (inr none)) = absurd (none.1 d.0 d.1)
  string_once a b (inr (inr none)) (inl t) = absurd (none.0 t.0 t.1)
  string_once a b (inr (inr none)) (inr (inl d)) = absurd (none.1 d.0 d.1)
  string_once a b (inr (inr none)) (inr (inr also)) = none.2 ∙ sym also.2

  -- ---- whatever the token is

  abbrev the_iri : Found
  the_iri = found_iri token (iri_of text token (in_force document))

  abbrev the_literal : Found
  the_literal = found token.start token.end (judged (typed (token_text text token) (datatype_of token.kind)))

  abbrev IsByKind : Found → Type 0
  IsByKind a =
      ByKind (a ≡ the_iri) (IsNodeFound text token document a) (a ≡ the_literal)
      (IsStringFound text token document a) (a ≡ No 2 token.start) token.kind

  by_kind : (a : Found) → IsFound text token document a → IsByKind a
  by_kind a (AnIri kind is) = by_iri _ _ _ _ _ token.kind kind is
  by_kind a (ANode kind is) = by_node _ _ _ _ _ token.kind kind is
  by_kind a (ALiteral kind is) = by_literal _ _ _ _ _ token.kind kind is
  by_kind a (AString kind is) = by_string _ _ _ _ _ token.kind kind is
  by_kind a (Other iri label bare string is) = by_other _ _ _ _ _ token.kind iri label bare string is

  by_kind_once : IsOnce IsByKind
  by_kind_once =
      once_match (is_iri token.kind) (λ a. a ≡ the_iri) _ (once_equal the_iri)
      (once_match (is_kind BlankLabel token.kind) (IsNodeFound text token document) _
      (one_of_them (HasNode document) (one_node document) text token)
      (once_match (is_bare_literal token.kind) (λ a. a ≡ the_literal) _ (once_equal the_literal)
      (once_match (is_string token.kind) (IsStringFound text token document) (λ a. a ≡ No 2 token.start)
      string_once (once_equal (No 2 token.start)))))

  pub one_found : (a b : Found) → IsFound text token document a → IsFound text token document b → a ≡ b
  one_found a b found also = by_kind_once a b (by_kind a found) (by_kind b also)
