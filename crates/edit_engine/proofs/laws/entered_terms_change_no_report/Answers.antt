use Rattle.std.proofs.Common.{sym}
use Rattle.edit_engine.proofs.AlikeLemmas.{pairs_alike, report_alike}
use Rattle.edit_engine.proofs.EnterLemmas.{AreAlike-entered}
use Rattle.edit_engine.proofs.laws.entered_terms_change_no_report.Goals as goal

pub returns-clause-pairs : goal.returns-clause-pairs
returns-clause-pairs c = λ plan due g h asked more valid.
    sym (pairs_alike plan g h (AreAlike-entered plan g h asked more valid c.results_depend_on_reads.ensures
    c.targets_depend_on_reads.ensures) plan.targeted)

pub returns-clause-report : goal.returns-clause-report
returns-clause-report c = λ plan due g h asked more valid.
    sym (report_alike plan g h (AreAlike-entered plan g h asked more valid c.results_depend_on_reads.ensures
    c.targets_depend_on_reads.ensures))
