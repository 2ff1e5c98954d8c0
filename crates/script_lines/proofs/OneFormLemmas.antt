-- A line has one form.
use Rattle.std.proofs.Common.{◌≡◌, ℕ, zero, true, List, get_or, refl, sym, ap, ◌∙◌, subst, codes}
use Rattle.std.specs.Str.{IsUtf8}
use Rattle.ttl_tokens.specs.declared.token.Token.{Token}
use Rattle.ttl_tokens.specs.Tokens.{IsTokenAt}
use Rattle.ttl_tokens.proofs.OneTokenLemmas.{one_token}
use Rattle.script_lines.specs.declared.line_form.LineForm.{LineForm}
use Rattle.script_lines.specs.declared.line_form.LineForm.TheVariants.{Blank, Alone, Insert, Remove, Slice}
use Rattle.script_lines.specs.declared.line_form.LineForm.TheVariants.{Shapes}
use Rattle.script_lines.specs.declared.line_form.Terms.{Terms}
use Rattle.script_lines.specs.declared.word.Word.{Word}
use Rattle.script_lines.specs.declared.word.Word.TheVariants.{Report, Count, Begin, Commit, Abandon}
use Rattle.script_lines.specs.declared.word.Word.TheVariants.{Undo, Redo}
use Rattle.script_lines.specs.Forms.{EndsAt, HasForm, IsTriple, begins_with, word_end, word_text}
use Rattle.script_lines.proofs.BlankLineLemmas.{is_letter, not_blank}
use Rattle.script_lines.proofs.FormLemmas.{form_head, head}
use Rattle.script_lines.proofs.NameLemmas.{one_name}
use Rattle.script_lines.proofs.PairLemmas.{one_pair}

same_terms : (a b : Terms) → a.subject ≡ b.subject → a.predicate ≡ b.predicate → a.object ≡ b.object → a ≡ b
same_terms a b s p o = rw (s, p, o) refl

module _ (line : List ℕ) (utf8 : IsUtf8 line) where
  one_triple : (at : ℕ) (a b : Terms) → IsTriple line at a → IsTriple line at b → a ≡ b
  one_triple at a b t u =
      let s : a.subject ≡ b.subject =
      one_token line at a.subject b.subject utf8 t.subject.next u.subject.next in
      let p : a.predicate ≡ b.predicate =
      one_token line b.subject.end a.predicate b.predicate utf8
      (subst (λ (x : Token). IsTokenAt line x.end a.predicate) s t.predicate.next) u.predicate.next in
      let o : a.object ≡ b.object =
      one_token line b.predicate.end a.object b.object utf8
      (subst (λ (x : Token). IsTokenAt line x.end a.object) p t.object) u.object in
      same_terms a b s p o

  -- ---- a word is at no end

  word_more : (word : Word) → begins_with (word_text word) line ≡ true → EndsAt line zero → ⊥
  word_more word = not_blank line utf8 (word_text word) (begins_letter word)
    where
      begins_letter : (word : Word) → is_letter (get_or (word_text word) 0 0) ≡ true
      begins_letter Report = refl
      begins_letter Count = refl
      begins_letter Begin = refl
      begins_letter Commit = refl
      begins_letter Abandon = refl
      begins_letter Undo = refl
      begins_letter Redo = refl

  insert_more : begins_with (codes "insert") line ≡ true → EndsAt line zero → ⊥
  insert_more = not_blank line utf8 (codes "insert") refl

  remove_more : begins_with (codes "remove") line ≡ true → EndsAt line zero → ⊥
  remove_more = not_blank line utf8 (codes "remove") refl

  slice_more : begins_with (codes "slice") line ≡ true → EndsAt line zero → ⊥
  slice_more = not_blank line utf8 (codes "slice") refl

  shapes_more : begins_with (codes "shapes") line ≡ true → EndsAt line zero → ⊥
  shapes_more = not_blank line utf8 (codes "shapes") refl

  only_blank : EndsAt line zero → (form : LineForm) → HasForm line form → form ≡ Blank
  only_blank end Blank h = refl
  only_blank end (Alone word) h = absurd (word_more word h.begins end)
  only_blank end (Insert terms) h = absurd (insert_more h.word_is.begins end)
  only_blank end (Remove terms) h = absurd (remove_more h.word_is.begins end)
  only_blank end (Slice pair) h = absurd (slice_more h.word_is.begins end)
  only_blank end (Shapes name) h = absurd (shapes_more h.word_is.begins end)

  -- ---- by the word

  one_head : (a b : LineForm) → head a ≡ head b → HasForm line a → HasForm line b → a ≡ b
  one_head Blank Blank e h k = refl
  one_head (Alone a) (Alone b) e h k = let same : a ≡ b = cc in ap Alone same
  one_head (Insert a) (Insert b) e h k =
      ap Insert (one_triple (word_end (codes "insert") line) a b h.triple k.triple)
  one_head (Remove a) (Remove b) e h k =
      ap Remove (one_triple (word_end (codes "remove") line) a b h.triple k.triple)
  one_head (Slice a) (Slice b) e h k =
      ap Slice (one_pair line utf8 (word_end (codes "slice") line) a b h.pair_is k.pair_is)
  one_head (Shapes a) (Shapes b) e h k =
      ap Shapes (one_name line utf8 (word_end (codes "shapes") line) a b h.name_is k.name_is)
  one_head a b e h k = absurd (cc)

  some_word : (EndsAt line zero → ⊥) → (a b : LineForm) → HasForm line a → HasForm line b → a ≡ b
  some_word some a b h k =
      one_head a b (sym (form_head line some a h) ∙ form_head line some b k) h k

  pub one_form : (a b : LineForm) → HasForm line a → HasForm line b → a ≡ b
  one_form Blank b h k = sym (only_blank h b k)
  one_form (Alone word) b h k = some_word (word_more word h.begins) (Alone word) b h k
  one_form (Insert terms) b h k = some_word (insert_more h.word_is.begins) (Insert terms) b h k
  one_form (Remove terms) b h k = some_word (remove_more h.word_is.begins) (Remove terms) b h k
  one_form (Slice pair) b h k = some_word (slice_more h.word_is.begins) (Slice pair) b h k
  one_form (Shapes name) b h k = some_word (shapes_more h.word_is.begins) (Shapes name) b h k
