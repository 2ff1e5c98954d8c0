use Rattle.std.proofs.Common.{subst, None}
use Rattle.script_run.specs.Replies.{Replies}
use Rattle.script_run.specs.Script.{refusal}
use Rattle.script_run.proofs.loading.refuse_text.Goals as goal

pub returns-in-Text : goal.returns-in-Text
returns-in-Text c =
    let refused = c.refuse_line in
    rw c.in-Text.is (record {
      replies = λ manner s work is.
          subst (λ code. Replies manner (refusal s code None) refused.result refused.new.script work work)
          c.told_code.ensures (refused.ensures.replies manner s work is);
      running = refused.ensures.running;
      moves = refused.ensures.moves;
    })
