-- A line has one reading.
use Rattle.std.proofs.Common.{◌≡◌, ℕ, List, Result, Ok, Err, refl, sym, ap, ◌∙◌, subst, arith, inl, inr}
use Rattle.std.specs.Str.{IsUtf8}
use Rattle.shx_term.specs.declared.edit.Edit.TheVariants.{Insert, Remove}
use Rattle.shx_term.specs.declared.limits.Limits.{Limits}
use Rattle.shx_term.specs.declared.term.Term.{Term}
use Rattle.shx_term.specs.declared.triple.TermTriple.{TermTriple}
use Rattle.ttl_meaning.specs.declared.document.Document.{Document}
use Rattle.ttl_read.specs.ReadTerm.{Found, A, No, IsFound}
use Rattle.ttl_read.proofs.OneFoundLemmas.{one_found}
use Rattle.script_lines.specs.declared.command.Command.{Command}
use Rattle.script_lines.specs.declared.fault.LineFault.{LineFault}
use Rattle.script_lines.specs.declared.line_form.LineForm.{LineForm}
use Rattle.script_lines.specs.declared.line_form.LineForm.TheVariants as the_form
use Rattle.script_lines.specs.declared.line_form.Terms.{Terms}
use Rattle.script_lines.specs.Lines.{IsPredicateFound, IsTripleRead, BadSubject, BadPredicate, BadObject}
use Rattle.script_lines.specs.Lines.{ATriple, IsAsked, IsLineRead, TooLong, NotUtf8, NoForm, AForm}
use Rattle.script_lines.specs.Lines.{edits_by, term_fault}
use Rattle.script_lines.proofs.OneFormLemmas.{one_form}
use Rattle.script_lines.proofs.PairReadLemmas.{one_pair_read}
use Rattle.script_lines.proofs.TermLemmas.{found_or_not, same_fault, same_term}

module _ (line : List ℕ) (utf8 : IsUtf8 line) (document : Document) where
  one_predicate : (terms : Terms) (a b : Found) → IsPredicateFound line terms.predicate document a
      → IsPredicateFound line terms.predicate document b → a ≡ b
  one_predicate terms a b (inl word) (inl also) = word.1 ∙ sym also.1
  one_predicate terms a b (inl word) (inr other) = absurd (other.0 word.0)
  one_predicate terms a b (inr other) (inl word) = absurd (other.0 word.0)
  one_predicate terms a b (inr other) (inr also) =
      one_found line terms.predicate document utf8 a b other.1 also.1

  module _ (terms : Terms) where
    abbrev Reading : Type 0
    Reading = Result TermTriple LineFault

    abbrev IsRead : Reading → Type 0
    IsRead = IsTripleRead line document terms

    subject : (a b : Found) → IsFound line terms.subject document a → IsFound line terms.subject document b
        → a ≡ b
    subject = one_found line terms.subject document utf8

    object : (a b : Found) → IsFound line terms.object document a → IsFound line terms.object document b
        → a ≡ b
    object = one_found line terms.object document utf8

    -- ---- the reading, by what is found of each term in turn

    module _ (b : Reading) where
      by_subject : (code at : ℕ) → IsFound line terms.subject document (No code at) → IsRead b
          → b ≡ Err (term_fault code at)
      by_subject code at f (BadSubject c a g e) = e ∙ ap Err (same_fault c a code at (subject _ _ g f))
      by_subject code at f (BadPredicate s n g c a p e) = absurd (found_or_not s n code at (subject _ _ g f))
      by_subject code at f (BadObject s p n m g q c a o e) =
          absurd (found_or_not s n code at (subject _ _ g f))
      by_subject code at f (ATriple s p o n m l g q r e) =
          absurd (found_or_not s n code at (subject _ _ g f))

      module _ (s : Term) (s_end : ℕ) (f : IsFound line terms.subject document (A s s_end)) where
        by_predicate : (code at : ℕ) → IsPredicateFound line terms.predicate document (No code at) → IsRead b
            → b ≡ Err (term_fault code at)
        by_predicate code at p (BadSubject c a g e) = absurd (found_or_not s s_end c a (subject _ _ f g))
        by_predicate code at p (BadPredicate t n g c a q e) =
            e ∙ ap Err (same_fault c a code at (one_predicate terms _ _ q p))
        by_predicate code at p (BadObject t q n m g r c a o e) =
            absurd (found_or_not q m code at (one_predicate terms _ _ r p))
        by_predicate code at p (ATriple t q o n m l g r v e) =
            absurd (found_or_not q m code at (one_predicate terms _ _ r p))

        module _ (p : Term) (p_end : ℕ) (h : IsPredicateFound line terms.predicate document (A p p_end)) where
          by_object : (code at : ℕ) → IsFound line terms.object document (No code at) → IsRead b
              → b ≡ Err (term_fault code at)
          by_object code at o (BadSubject c a g e) = absurd (found_or_not s s_end c a (subject _ _ f g))
          by_object code at o (BadPredicate t n g c a q e) =
              absurd (found_or_not p p_end c a (one_predicate terms _ _ h q))
          by_object code at o (BadObject t q n m g r c a v e) =
              e ∙ ap Err (same_fault c a code at (object _ _ v o))
          by_object code at o (ATriple t q v n m l g r w e) =
              absurd (found_or_not v l code at (object _ _ w o))

          by_all : (o : Term) (o_end : ℕ) → IsFound line terms.object document (A o o_end) → IsRead b
              → b ≡ Ok (record { s = s; p = p; o = o })
          by_all o o_end k (BadSubject c a g e) = absurd (found_or_not s s_end c a (subject _ _ f g))
          by_all o o_end k (BadPredicate t n g c a q e) =
              absurd (found_or_not p p_end c a (one_predicate terms _ _ h q))
          by_all o o_end k (BadObject t q n m g r c a v e) =
              absurd (found_or_not o o_end c a (object _ _ k v))
          by_all o o_end k (ATriple t q v n m l g r w e) =
              let s_is : t ≡ s = same_term t s n s_end (subject _ _ g f) in
              let p_is : q ≡ p = same_term q p m p_end (one_predicate terms _ _ r h) in
              let o_is : v ≡ o = same_term v o l o_end (object _ _ w k) in
              e ∙ rw (s_is, p_is, o_is) refl

    one_triple_read : (a b : Reading) → IsRead a → IsRead b → a ≡ b
    one_triple_read a b (BadSubject c at f e) h = e ∙ sym (by_subject b c at f h)
    one_triple_read a b (BadPredicate s n f c at p e) h = e ∙ sym (by_predicate b s n f c at p h)
    one_triple_read a b (BadObject s p n m f q c at o e) h = e ∙ sym (by_object b s n f p m q c at o h)
    one_triple_read a b (ATriple s p o n m l f q r e) h = e ∙ sym (by_all b s n f p m q o l r h)

  -- ---- what a form asks for

  one_asked : (f : LineForm) (a b : Result Command LineFault) → IsAsked line document f a
      → IsAsked line document f b → a ≡ b
  one_asked the_form.Blank a b h k = h ∙ sym k
  one_asked (the_form.Alone word) a b h k = h ∙ sym k
  one_asked (the_form.Insert terms) a b h k =
      h.2 ∙ ap (edits_by Insert) (one_triple_read terms h.0 k.0 h.1 k.1) ∙ sym k.2
  one_asked (the_form.Remove terms) a b h k =
      h.2 ∙ ap (edits_by Remove) (one_triple_read terms h.0 k.0 h.1 k.1) ∙ sym k.2
  one_asked (the_form.Slice pair) a b h k = one_pair_read line utf8 document pair a b h k
  one_asked (the_form.Shapes name) a b h k = h ∙ sym k

-- ---- the line

module _ (limits : Limits) (document : Document) (line : List ℕ) (a b : Result Command LineFault) where
  pub one_reading : IsLineRead limits document line a → IsLineRead limits document line b → a ≡ b
  one_reading (TooLong more e) (TooLong also f) = e ∙ sym f
  one_reading (TooLong more e) (NotUtf8 less none f) = absurd (omega (arith, more, less))
  one_reading (TooLong more e) (NoForm less utf8 none f) = absurd (omega (arith, more, less))
  one_reading (TooLong more e) (AForm less utf8 form has asked) = absurd (omega (arith, more, less))
  one_reading (NotUtf8 less none e) (TooLong more f) = absurd (omega (arith, more, less))
  one_reading (NotUtf8 less none e) (NotUtf8 also nor f) = e ∙ sym f
  one_reading (NotUtf8 less none e) (NoForm also utf8 nor f) = absurd (none utf8)
  one_reading (NotUtf8 less none e) (AForm also utf8 form has asked) = absurd (none utf8)
  one_reading (NoForm less utf8 none e) (TooLong more f) = absurd (omega (arith, more, less))
  one_reading (NoForm less utf8 none e) (NotUtf8 also nor f) = absurd (nor utf8)
  one_reading (NoForm less utf8 none e) (NoForm also utf8' nor f) = e ∙ sym f
  one_reading (NoForm less utf8 none e) (AForm also utf8' form has asked) = absurd (none form has)
  one_reading (AForm less utf8 f has asked) (TooLong more e) = absurd (omega (arith, more, less))
  one_reading (AForm less utf8 f has asked) (NotUtf8 also nor e) = absurd (nor utf8)
  one_reading (AForm less utf8 f has asked) (NoForm also utf8' none e) = absurd (none f has)
  one_reading (AForm less utf8 f has asked) (AForm also utf8' g has' asked') =
      let same : g ≡ f = one_form line utf8 g f has' has in
      one_asked line utf8 document f a b asked
      (subst (λ (form : LineForm). IsAsked line document form b) same asked')
