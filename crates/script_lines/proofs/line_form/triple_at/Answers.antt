use Rattle.script_lines.proofs.TripleLemmas.{no_predicate, no_object, no_term, no_stop, a_triple}
use Rattle.script_lines.proofs.line_form.triple_at.Goals as goal

pub returns-in_err-predicate : goal.returns-in_err-predicate
returns-in_err-predicate c =
    rw c.from_residual-in_err-predicate.ensures
    (no_predicate c.args.line.now c.utf8.line c.args.at c.in_ok-subject.subject c.in_ok-subject.ensures
    c.in_err-predicate.ensures)

pub returns-in_err-object : goal.returns-in_err-object
returns-in_err-object c =
    rw c.from_residual-in_err-object.ensures
    (no_object c.args.line.now c.utf8.line c.args.at c.in_ok-subject.subject c.in_ok-subject.ensures
    c.in_ok-predicate.predicate c.in_ok-predicate.ensures c.in_err-object.ensures)

pub returns-in_err-term_end : goal.returns-in_err-term_end
returns-in_err-term_end c =
    rw c.from_residual-in_err-term_end.ensures
    (no_term c.args.line.now c.utf8.line c.args.at c.in_ok-subject.subject c.in_ok-subject.ensures
    c.in_ok-predicate.predicate c.in_ok-predicate.ensures c.in_ok-object.object c.in_ok-object.ensures
    c.in_err-term_end.ensures)

pub returns-then-not-stops_at : goal.returns-then-not-stops_at
returns-then-not-stops_at c =
    no_stop c.args.line.now c.utf8.line c.args.at c.in_ok-subject.subject c.in_ok-subject.ensures
    c.in_ok-predicate.predicate c.in_ok-predicate.ensures c.in_ok-object.object c.in_ok-object.ensures
    c.in_ok-term_end.field-0 c.in_ok-term_end.ensures c.stops_at.result c.stops_at.ensures
    c.if-not-stops_at.true

pub returns : goal.returns
returns c =
    a_triple c.args.line.now c.utf8.line c.args.at c.in_ok-subject.subject c.in_ok-subject.ensures
    c.in_ok-predicate.predicate c.in_ok-predicate.ensures c.in_ok-object.object c.in_ok-object.ensures
    c.in_ok-term_end.field-0 c.in_ok-term_end.ensures c.stops_at.result c.stops_at.ensures
    c.if-not-stops_at.false
