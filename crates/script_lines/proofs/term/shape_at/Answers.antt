use Rattle.std.proofs.Common.{◌≡◌, sym, ◌∙◌, inr, rules}
use Rattle.ttl_tokens.specs.Unescaped.{token_text}
use Rattle.ttl_read.specs.ReadTerm.{IsFound}
use Rattle.script_lines.specs.Lines.{IsShapeFound}
use Rattle.script_lines.proofs.PairReadLemmas.{a_label, no_label, shape_called, shape_unknown}
use Rattle.script_lines.proofs.TermLemmas.{read_weaker}
use Rattle.script_lines.proofs.term.shape_at.Goals as goal

pub returns-then-ne : goal.returns-then-ne
returns-then-ne c =
    let line = c.args.line.now in
    let token = c.args.token.now in
    let document = c.args.document.now in
    let other = no_label token.kind (sym c.ne.ensures ∙ c.if-ne.true) in
    read_weaker (IsFound line token document) (IsShapeFound line token document)
    (λ found is. inr (other, is)) c.term_at.result c.term_at.ensures

pub returns-in-Ok : goal.returns-in-Ok
returns-in-Ok c =
    let label = a_label c.args.token.now.kind (sym c.ne.ensures ∙ c.if-ne.false) in
    let is : c.range.result.now ≡ token_text c.args.line.now c.args.token.now = search rules in
    shape_called c.args.line.now c.args.token.now c.args.document.now label c.range.result.now is
    c.in-Ok.shape c.in-Ok.ensures

pub returns-in-Err-Unknown : goal.returns-in-Err-Unknown
returns-in-Err-Unknown c =
    let label = a_label c.args.token.now.kind (sym c.ne.ensures ∙ c.if-ne.false) in
    let is : c.range.result.now ≡ token_text c.args.line.now c.args.token.now = search rules in
    shape_unknown c.args.line.now c.args.token.now c.args.document.now label c.range.result.now is
    (rw c.in-Err-Unknown.field-0-is at c.in-Err-Unknown.ensures) c.of_term.result c.of_term.ensures
