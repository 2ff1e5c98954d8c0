use Rattle.script_lines.proofs.TermLemmas.{term_refused}
use Rattle.ttl_read.specs.ReadTerm.{IsFound}
use Rattle.script_lines.proofs.term.term_at.Goals as goal

pub returns-in-Err-At : goal.returns-in-Err-At
returns-in-Err-At c =
    term_refused (IsFound c.args.line.now c.args.token.now c.args.document.now) c.in-Err-At.code
    c.in-Err-At.at c.line_code.result c.of_term.result
    (rw c.in-Err-At.field-0-is at c.in-Err-At.ensures.refused) c.line_code.ensures c.of_term.ensures
