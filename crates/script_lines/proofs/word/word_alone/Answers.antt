use Rattle.std.proofs.Common.{◌≡◌, ℕ, ◌<◌, false, List, [], ◌∷◌, slice_index_or, arith, lit<, ◌∙◌, sym, ap}
use borrow.Author.Count.{below_more}
use Rattle.script_lines.specs.declared.word.Word.TheVariants.{Report, Count, Begin, Commit, Abandon}
use Rattle.script_lines.specs.declared.word.Word.TheVariants.{Undo, Redo}
use Rattle.script_lines.specs.Forms.{begins_with, word_text}
use Rattle.script_lines.specs.inner.Parts.{BeginsWithNone}
use Rattle.script_lines.proofs.word.word_alone.Goals as goal

pub loop-word-init : goal.loop-word-init
loop-word-init c = λ k less. absurd (omega (arith, less))

module _ (line : List ℕ) where
  abbrev IsNot : ℕ → Type 0
  IsNot k =
      begins_with (word_text (slice_index_or (Report ∷ Count ∷ Begin ∷ Commit ∷ Abandon ∷ Undo ∷ Redo ∷ []) k
      Report)) line ≡ false

  none_of_all : ((k : ℕ) → k < 7 → IsNot k) → BeginsWithNone line
  none_of_all not Report = not 0 (lit< tt)
  none_of_all not Count = not 1 (lit< tt)
  none_of_all not Begin = not 2 (lit< tt)
  none_of_all not Commit = not 3 (lit< tt)
  none_of_all not Abandon = not 4 (lit< tt)
  none_of_all not Undo = not 5 (lit< tt)
  none_of_all not Redo = not 6 (lit< tt)

pub loop-word-preserved : goal.loop-word-preserved
loop-word-preserved c =
    below_more (IsNot c.args.line.now) c.loop-word.word-index c.loop-word.invariant
    (ap (λ (word : List ℕ). begins_with word c.args.line.now) (sym c.text.ensures) ∙ c.in_default.ensures)

pub returns : goal.returns
returns c =
    none_of_all c.args.line.now
    (λ k less. c.loop-word.invariant k (let past = c.loop-word-test.false in omega (arith, less, past)))
