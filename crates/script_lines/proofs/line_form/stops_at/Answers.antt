use Rattle.std.proofs.Common.{sym, ◌∙◌}
use Rattle.ttl_tokens.specs.declared.token.TokenKind.TheVariants.{Dot}
use Rattle.ttl_read.specs.Grammar.{is_kind}
use Rattle.script_lines.proofs.TripleLemmas.{comes_not, stops_here, stops_not}
use Rattle.script_lines.proofs.line_form.stops_at.Goals as goal

pub returns-then-eq : goal.returns-then-eq
returns-then-eq c =
    stops_here c.args.line.now c.utf8.line c.args.at c.in-Some.dot c.in-Some.ensures
    (sym c.eq.ensures ∙ c.if-eq.true) c.ends_at.result c.ends_at.ensures

pub returns-else-eq : goal.returns-else-eq
returns-else-eq c =
    rw c.if-eq.false
    (stops_not c.args.line.now c.utf8.line c.args.at
    (comes_not c.args.line.now c.utf8.line c.args.at (is_kind Dot) c.in-Some.dot c.in-Some.ensures
    (sym c.eq.ensures ∙ c.if-eq.false)))
