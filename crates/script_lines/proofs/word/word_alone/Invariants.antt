use Rattle.std.proofs.Common.{◌≡◌, ℕ, ◌<◌, false, slice_index_or}
use Rattle.script_lines.specs.declared.word.Word.TheVariants.{Report}
use Rattle.script_lines.specs.Forms.{begins_with, word_text}
use Rattle.script_lines.proofs.word.word_alone.Given as goal

-- the line begins with none of those before
abbrev pub invariant-loop-word : goal.invariant-loop-word
invariant-loop-word l =
    (k : ℕ) → k < l.word-index
    → begins_with (word_text (slice_index_or l.word-items k Report)) l.line ≡ false
