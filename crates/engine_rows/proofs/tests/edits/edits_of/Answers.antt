use Rattle.std.proofs.lemmas.List.Elements.{All-push}
use Rattle.shx_term.specs.Edit.{IsValidEdit}
use Rattle.engine_rows.proofs.tests.edits.edits_of.Goals as goal

pub loop-line-preserved : goal.loop-line-preserved
loop-line-preserved c =
    rw c.in_ok-push.ensures.items
    (All-push IsValidEdit c.loop-line.edits.items c.in_ok-edit_of.field-0 c.loop-line.invariant
    c.in_ok-edit_of.ensures)
