-- The terms of a pair, and what it is read as.
use Rattle.std.proofs.Common.{◌≡◌, ◌≢◌, ℕ, List, Result, Ok, Err, Some, refl, sym, ap, ◌∙◌, inl, inr}
use Rattle.std.proofs.Common.{Bool, true, false, not}
use Rattle.std.specs.Str.{IsUtf8}
use Rattle.shx_term.specs.declared.fault_codes.TheConstants.{UNKNOWN_BLANK}
use Rattle.shx_term.specs.declared.term.Term.{Term}
use Rattle.ttl_tokens.specs.declared.token.Token.{Token}
use Rattle.ttl_tokens.specs.declared.token.TokenKind.{TokenKind}
use Rattle.ttl_tokens.specs.declared.token.TokenKind.TheVariants.{BlankLabel}
use Rattle.ttl_tokens.specs.Unescaped.{token_text}
use Rattle.ttl_meaning.specs.declared.document.Document.{Document}
use Rattle.ttl_meaning.specs.declared.fault.NoNode.TheVariants.{Unknown}
use Rattle.ttl_meaning.specs.InForce.{IsCalled}
use Rattle.ttl_meaning.specs.ShapesNodes.{MayBeOfShapes}
use Rattle.ttl_meaning.proofs.NodeLemmas.{one_shape}
use Rattle.ttl_read.specs.Grammar.{is_kind}
use Rattle.ttl_read.specs.ReadTerm.{Found, A, No, IsFound}
use Rattle.ttl_read.proofs.KindLemmas.{kind_is, kind_is_not}
use Rattle.ttl_read.proofs.OneFoundLemmas.{one_found, one_of_them}
use Rattle.script_lines.specs.declared.command.Command.{Command}
use Rattle.script_lines.specs.declared.command.Command.TheVariants.{Slice}
use Rattle.script_lines.specs.declared.fault.LineFault.{LineFault}
use Rattle.script_lines.specs.declared.fault.LineFault.TheVariants.{Line, Memory}
use Rattle.script_lines.specs.declared.line_form.PairTokens.{PairTokens}
use Rattle.script_lines.specs.Lines.{IsShapeFound, IsPairRead, BadShape, BadNode, APair, term_fault}
use Rattle.script_lines.specs.inner.Parts.{IsTermRead}
use Rattle.script_lines.proofs.TermLemmas.{found_or_not, same_fault, same_term}

-- ---- a shape that is called by the name of a blank node

pub no_label : (kind : TokenKind) → not (is_kind BlankLabel kind) ≡ true → kind ≢ BlankLabel
no_label kind differs = kind_is_not BlankLabel kind (by (is_kind BlankLabel kind) differs)
  where
    by : (b : Bool) → not b ≡ true → b ≡ false
    by true e = sym e
    by false e = refl

pub a_label : (kind : TokenKind) → not (is_kind BlankLabel kind) ≡ false → kind ≡ BlankLabel
a_label kind same = kind_is BlankLabel kind (by (is_kind BlankLabel kind) same)
  where
    by : (b : Bool) → not b ≡ false → b ≡ true
    by true e = refl
    by false e = sym e

module _ (line : List ℕ) (token : Token) (document : Document) (label : token.kind ≡ BlankLabel)
    (name : List ℕ) (is : name ≡ token_text line token) where
  pub shape_called : (term : Term) → IsCalled MayBeOfShapes name (Ok term)
      → IsTermRead (IsShapeFound line token document) (Ok term)
  shape_called term called = (
    token.end,
    inl (label, inl (called.0, called.1, called.2 ∙ is, ap (λ t. A t token.end) called.3)),
  )

  pub shape_unknown : IsCalled MayBeOfShapes name (Err Unknown) → (fault : LineFault)
      → fault ≡ Line UNKNOWN_BLANK (Some token.start)
      → IsTermRead (IsShapeFound line token document) (Err fault)
  shape_unknown none fault made = λ other. (
    UNKNOWN_BLANK,
    token.start,
    inl (label, inr (λ node may spelled. none node may (spelled ∙ sym is), refl)),
    made,
  )

-- ---- both terms

module _ (line : List ℕ) (document : Document) (pair : PairTokens) where
  abbrev Shape : Found → Type 0
  Shape = IsShapeFound line pair.shape document

  abbrev Node : Found → Type 0
  Node = IsFound line pair.node document

  pub bad_shape : (fault : LineFault) → IsTermRead Shape (Err fault) → fault ≢ Memory
      → IsPairRead line document pair (Err fault)
  bad_shape fault h other = let f = h other in BadShape f.0 f.1 f.2 (ap Err f.3)

  module _ (shape : Term) (found : IsTermRead Shape (Ok shape)) where
    pub bad_node : (fault : LineFault) → IsTermRead Node (Err fault) → fault ≢ Memory
        → IsPairRead line document pair (Err fault)
    bad_node fault h other = let f = h other in BadNode shape found.0 found.1 f.0 f.1 f.2 (ap Err f.3)

    pub both_terms : (node : Term) → IsTermRead Node (Ok node)
        → IsPairRead line document pair (Ok (Slice shape node))
    both_terms node h = APair shape node found.0 h.0 found.1 h.1 refl

-- ---- a pair has one reading

module _ (line : List ℕ) (utf8 : IsUtf8 line) (document : Document) (pair : PairTokens) where
  shape : (a b : Found) → IsShapeFound line pair.shape document a → IsShapeFound line pair.shape document b
      → a ≡ b
  shape a b (inl x) (inl y) = one_of_them MayBeOfShapes one_shape line pair.shape a b x.1 y.1
  shape a b (inl x) (inr y) = absurd (y.0 x.0)
  shape a b (inr x) (inl y) = absurd (x.0 y.0)
  shape a b (inr x) (inr y) = one_found line pair.shape document utf8 a b x.1 y.1

  node : (a b : Found) → IsFound line pair.node document a → IsFound line pair.node document b → a ≡ b
  node = one_found line pair.node document utf8

  abbrev Reading : Type 0
  Reading = Result Command LineFault

  abbrev IsRead : Reading → Type 0
  IsRead = IsPairRead line document pair

  module _ (b : Reading) where
    by_shape : (code at : ℕ) → IsShapeFound line pair.shape document (No code at) → IsRead b
        → b ≡ Err (term_fault code at)
    by_shape code at f (BadShape c a g e) = e ∙ ap Err (same_fault c a code at (shape _ _ g f))
    by_shape code at f (BadNode s n g c a o e) = absurd (found_or_not s n code at (shape _ _ g f))
    by_shape code at f (APair s o n m g q e) = absurd (found_or_not s n code at (shape _ _ g f))

    module _ (s : Term) (s_end : ℕ) (f : IsShapeFound line pair.shape document (A s s_end)) where
      by_node : (code at : ℕ) → IsFound line pair.node document (No code at) → IsRead b
          → b ≡ Err (term_fault code at)
      by_node code at o (BadShape c a g e) = absurd (found_or_not s s_end c a (shape _ _ f g))
      by_node code at o (BadNode t n g c a v e) = e ∙ ap Err (same_fault c a code at (node _ _ v o))
      by_node code at o (APair t v n m g w e) = absurd (found_or_not v m code at (node _ _ w o))

      by_both : (o : Term) (o_end : ℕ) → IsFound line pair.node document (A o o_end) → IsRead b
          → b ≡ Ok (Slice s o)
      by_both o o_end k (BadShape c a g e) = absurd (found_or_not s s_end c a (shape _ _ f g))
      by_both o o_end k (BadNode t n g c a v e) = absurd (found_or_not o o_end c a (node _ _ k v))
      by_both o o_end k (APair t v n m g w e) =
          let s_is : t ≡ s = same_term t s n s_end (shape _ _ g f) in
          let o_is : v ≡ o = same_term v o m o_end (node _ _ w k) in
          e ∙ rw (s_is, o_is) refl

  pub one_pair_read : (a b : Reading) → IsRead a → IsRead b → a ≡ b
  one_pair_read a b (BadShape c at f e) h = e ∙ sym (by_shape b c at f h)
  one_pair_read a b (BadNode s n f c at o e) h = e ∙ sym (by_node b s n f c at o h)
  one_pair_read a b (APair s o n m f q e) h = e ∙ sym (by_both b s n f o m q h)
