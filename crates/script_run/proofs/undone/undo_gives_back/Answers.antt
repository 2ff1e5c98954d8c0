use Rattle.script_run.proofs.UndoneLemmas.{report_again, report_back, triples_again, triples_back}
use Rattle.script_run.proofs.undone.undo_gives_back.Goals as goal

pub returns-clause-triples : goal.returns-clause-triples
returns-clause-triples c = triples_back

pub returns-clause-report : goal.returns-clause-report
returns-clause-report c = λ limits s edits usable well have.
    report_back limits s edits usable well have c.same_graphs_answer_alike.ensures.report
    c.entered_terms_change_no_report.ensures.report

pub returns-clause-again : goal.returns-clause-again
returns-clause-again c = triples_again

pub returns-clause-report_again : goal.returns-clause-report_again
returns-clause-report_again c = λ limits s edits usable well have.
    report_again limits s edits usable well have c.same_graphs_answer_alike.ensures.report
    c.entered_terms_change_no_report.ensures.report
