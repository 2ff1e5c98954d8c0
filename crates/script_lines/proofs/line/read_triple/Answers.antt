use Rattle.std.proofs.lemmas.Result.{err_from_is_err_and}
use Rattle.script_lines.proofs.TermLemmas.{bad_subject, bad_predicate, bad_object, all_terms, valid_triple}
use Rattle.script_lines.proofs.line.read_triple.Goals as goal

pub term_at-requires : goal.term_at-requires
term_at-requires c = (c.requires.0, c.requires.1.subject.next)

pub returns-in_err-s-clause-refused : goal.returns-in_err-s-clause-refused
returns-in_err-s-clause-refused c =
    let exit = err_from_is_err_and c.from_residual.result c.from_residual.ensures.1 in
    rw (exit.1, exit.2)
    (bad_subject c.args.line.now c.args.document.now c.args.terms.now c.in_err-s.field-0.0 c.in_err-s.ensures)

pub predicate_at-requires : goal.predicate_at-requires
predicate_at-requires c = (c.args.terms.now.subject.end, c.requires.1.predicate.next)

pub returns-in_err-p-clause-refused : goal.returns-in_err-p-clause-refused
returns-in_err-p-clause-refused c =
    let exit = err_from_is_err_and c.from_residual-in_err-p.result c.from_residual-in_err-p.ensures.1 in
    rw (exit.1, exit.2)
    (bad_predicate c.args.line.now c.args.document.now c.args.terms.now c.in_ok-s.s c.in_ok-s.ensures
    c.in_err-p.field-0.0 c.in_err-p.ensures)

pub term_at-requires-2 : goal.term_at-requires-2
term_at-requires-2 c = (c.args.terms.now.predicate.end, c.requires.1.object)

pub returns-in_err-o-clause-refused : goal.returns-in_err-o-clause-refused
returns-in_err-o-clause-refused c =
    let exit = err_from_is_err_and c.from_residual-in_err-o.result c.from_residual-in_err-o.ensures.1 in
    rw (exit.1, exit.2)
    (bad_object c.args.line.now c.args.document.now c.args.terms.now c.in_ok-s.s c.in_ok-s.ensures c.in_ok-p.p
    c.in_ok-p.ensures c.in_err-o.field-0.0 c.in_err-o.ensures)

pub returns-clause-triple : goal.returns-clause-triple
returns-clause-triple c =
    all_terms c.args.line.now c.args.document.now c.args.terms.now c.in_ok-s.s c.in_ok-s.ensures c.in_ok-p.p
    c.in_ok-p.ensures c.in_ok-o.o c.in_ok-o.ensures

pub returns-clause-valid : goal.returns-clause-valid
returns-clause-valid c =
    valid_triple c.args.line.now c.args.document.now c.args.terms.now c.requires.0 c.requires.1 c.in_ok-s.s
    c.in_ok-p.p c.in_ok-o.o c.in_ok-s.ensures c.in_ok-p.ensures c.in_ok-o.ensures
