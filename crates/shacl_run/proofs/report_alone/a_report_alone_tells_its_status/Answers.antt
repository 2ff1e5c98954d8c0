use Rattle.shacl_run.proofs.ReportAloneLemmas.{reports_alone}
use Rattle.shacl_run.proofs.report_alone.a_report_alone_tells_its_status.Goals as goal

pub returns : goal.returns
returns c = λ limits readings verdict loads words asked texts notices s output is none opened due.
    reports_alone limits readings verdict loads texts notices s output words asked is none opened due
