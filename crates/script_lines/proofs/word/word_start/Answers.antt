use Rattle.std.proofs.Common.{◌∙◌, ap, Option, ℕ, length}
use Rattle.std.specs.Option.{unwrap_or}
use Rattle.script_lines.proofs.WordLemmas.{first_or_all}
use Rattle.script_lines.proofs.word.word_start.Goals as goal

pub returns : goal.returns
returns c =
    let line = c.args.line.now in
    c.unwrap_or.ensures ∙ ap (λ (found : Option ℕ). unwrap_or found (length line)) c.first_other.ensures
    ∙ rw c.as_bytes.ensures.value (first_or_all line)
