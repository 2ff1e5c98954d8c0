-- Which form a line has, by the word with which it begins.
use Rattle.std.proofs.Common.{◌≡◌, ℕ, zero, true, List, ◌++◌, Option, Some, None, drop, cond}
use Rattle.std.proofs.Common.{refl, sym, ap, ◌∙◌, codes, nat_eq, MatchOption}
use Rattle.std.specs.List.{starts_with}
use Rattle.ttl_tokens.specs.declared.token.Token.{Token}
use Rattle.script_lines.specs.declared.line_form.LineForm.{LineForm}
use Rattle.script_lines.specs.declared.line_form.LineForm.TheVariants.{Blank, Alone, Insert, Remove, Slice}
use Rattle.script_lines.specs.declared.line_form.LineForm.TheVariants.{Shapes}
use Rattle.script_lines.specs.declared.line_form.PairTokens.{PairTokens}
use Rattle.script_lines.specs.declared.line_form.Terms.{Terms}
use Rattle.script_lines.specs.declared.word.Word.{Word}
use Rattle.script_lines.specs.declared.word.Word.TheVariants.{Report, Count, Begin, Commit, Abandon}
use Rattle.script_lines.specs.declared.word.Word.TheVariants.{Undo, Redo}
use Rattle.script_lines.specs.Forms.{EndsAt, HasForm, IsName, IsPair, IsTriple, begins_with, word_start}
use Rattle.script_lines.specs.Forms.{word_end, word_text}
use Rattle.script_lines.specs.inner.Parts.{IsPartedWord, IsWordEnd}
use Rattle.script_lines.proofs.WordLemmas.{begins_is}

-- a form without its terms
pub data Head : Type 0 where
  Empty : Head
  Lone : Word → Head
  Inserts : Head
  Removes : Head
  Slices : Head
  Renews : Head

abbrev pub head : LineForm → Head
head Blank = Empty
head (Alone word) = Lone word
head (Insert terms) = Inserts
head (Remove terms) = Removes
head (Slice pair) = Slices
head (Shapes name) = Renews

-- whether a text begins with a word, and what it is then
abbrev or_else : List ℕ → List ℕ → Head → Head → Head
or_else text word is other = cond (starts_with nat_eq text word) is other

abbrev or_alone : List ℕ → Word → Head → Head
or_alone text word other = or_else text (word_text word) (Lone word) other

-- what a text is by the first of the words with which it begins
abbrev head_of : List ℕ → Head
head_of text =
    or_alone text Report (or_alone text Count (or_alone text Begin (or_alone text Commit
    (or_alone text Abandon (or_alone text Undo (or_alone text Redo
    (or_else text (codes "insert") Inserts (or_else text (codes "remove") Removes
    (or_else text (codes "slice") Slices (or_else text (codes "shapes") Renews Empty))))))))))

-- ... which is the only one, since none of them is a front of another
word_tells : (word : Word) (more : List ℕ) → head_of (word_text word ++ more) ≡ Lone word
word_tells Report more = refl
word_tells Count more = refl
word_tells Begin more = refl
word_tells Commit more = refl
word_tells Abandon more = refl
word_tells Undo more = refl
word_tells Redo more = refl

module _ (line : List ℕ) where
  abbrev pub NoForm : Type 0
  NoForm = (form : LineForm) → HasForm line form → ⊥

  abbrev pub line_head : Head
  line_head = head_of (drop (word_start line) line)

  pub alone_head : (word : Word) → begins_with (word_text word) line ≡ true → line_head ≡ Lone word
  alone_head word begins = ap head_of (begins_is (word_text word) line begins) ∙ word_tells word _

  pub insert_head : begins_with (codes "insert") line ≡ true → line_head ≡ Inserts
  insert_head begins = ap head_of (begins_is (codes "insert") line begins)

  pub remove_head : begins_with (codes "remove") line ≡ true → line_head ≡ Removes
  remove_head begins = ap head_of (begins_is (codes "remove") line begins)

  pub slice_head : begins_with (codes "slice") line ≡ true → line_head ≡ Slices
  slice_head begins = ap head_of (begins_is (codes "slice") line begins)

  pub shapes_head : begins_with (codes "shapes") line ≡ true → line_head ≡ Renews
  shapes_head begins = ap head_of (begins_is (codes "shapes") line begins)

  module _ (some : EndsAt line zero → ⊥) where
    pub form_head : (form : LineForm) → HasForm line form → line_head ≡ head form
    form_head Blank h = absurd (some h)
    form_head (Alone word) h = alone_head word h.begins
    form_head (Insert terms) h = insert_head h.word_is.begins
    form_head (Remove terms) h = remove_head h.word_is.begins
    form_head (Slice pair) h = slice_head h.word_is.begins
    form_head (Shapes name) h = shapes_head h.word_is.begins

    -- ---- no form but that of the word

    by_word : (word : Word) (form : LineForm) → head form ≡ Lone word → HasForm line form
        → EndsAt line (word_end (word_text word) line)
    by_word word (Alone other) is h = let same : other ≡ word = cc in rw (← same) h.ends
    by_word word form is h = absurd (cc)

    by_insert : (form : LineForm) → head form ≡ Inserts → HasForm line form
        → (terms : Terms) × IsTriple line (word_end (codes "insert") line) terms
    by_insert (Insert terms) is h = (terms, h.triple)
    by_insert form is h = absurd (cc)

    by_remove : (form : LineForm) → head form ≡ Removes → HasForm line form
        → (terms : Terms) × IsTriple line (word_end (codes "remove") line) terms
    by_remove (Remove terms) is h = (terms, h.triple)
    by_remove form is h = absurd (cc)

    by_slice : (form : LineForm) → head form ≡ Slices → HasForm line form
        → (pair : PairTokens) × IsPair line (word_end (codes "slice") line) pair
    by_slice (Slice pair) is h = (pair, h.pair_is)
    by_slice form is h = absurd (cc)

    by_shapes : (form : LineForm) → head form ≡ Renews → HasForm line form
        → (name : Token) × IsName line (word_end (codes "shapes") line) name
    by_shapes (Shapes name) is h = (name, h.name_is)
    by_shapes form is h = absurd (cc)

    -- ---- the answers

    module _ (at : ℕ) where
      -- what is found where a word may stand alone
      abbrev IsAlone : LineForm → Option LineForm → Type 0
      IsAlone form found = MatchOption found (EndsAt line at → ⊥) (λ f. (f ≡ form) × EndsAt line at)

      pub alone_answer : (word : Word) → IsWordEnd line (word_text word) at → (found : Option LineForm)
          → IsAlone (Alone word) found → MatchOption found NoForm (HasForm line)
      alone_answer word end None none = λ form h.
          none (rw end.place (by_word word form (sym (form_head form h) ∙ alone_head word end.begins) h))
      alone_answer word end (Some form) here =
          rw here.0 (record { begins = end.begins; ends = rw end.place at here.1 })

      -- no triple follows
      pub no_insert : IsPartedWord line (codes "insert") at
          → ((terms : Terms) → IsTriple line at terms → ⊥) → NoForm
      no_insert word none = λ form h.
          let triple = by_insert form (sym (form_head form h) ∙ insert_head word.ends.begins) h in
          none triple.0 (rw word.ends.place triple.1)

      pub no_remove : IsPartedWord line (codes "remove") at
          → ((terms : Terms) → IsTriple line at terms → ⊥) → NoForm
      no_remove word none = λ form h.
          let triple = by_remove form (sym (form_head form h) ∙ remove_head word.ends.begins) h in
          none triple.0 (rw word.ends.place triple.1)

      -- no pair follows
      pub no_slice : IsPartedWord line (codes "slice") at
          → ((pair : PairTokens) → IsPair line at pair → ⊥) → NoForm
      no_slice word none = λ form h.
          let pair = by_slice form (sym (form_head form h) ∙ slice_head word.ends.begins) h in
          none pair.0 (rw word.ends.place pair.1)

      -- no name follows
      pub no_shapes : IsPartedWord line (codes "shapes") at → ((name : Token) → IsName line at name → ⊥)
          → NoForm
      no_shapes word none = λ form h.
          let name = by_shapes form (sym (form_head form h) ∙ shapes_head word.ends.begins) h in
          none name.0 (rw word.ends.place name.1)
