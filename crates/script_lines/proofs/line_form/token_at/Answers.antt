use Rattle.script_lines.proofs.TripleLemmas.{token_known}
use Rattle.script_lines.proofs.line_form.token_at.Goals as goal

pub returns : goal.returns
returns c =
    rw c.ok.ensures.value
    (token_known c.args.line.now c.utf8.line c.args.at c.next_token.result c.next_token.ensures.found
    c.next_token.ensures.none)
