use Rattle.shape_eval.specs.Report.{pairs}
use Rattle.shape_eval.specs.Results.{results}
use Rattle.shape_eval.proofs.ReportLemmas.{all_empty, parts_empty}
use Rattle.shape_eval.proofs.laws.a_report_is_empty_where_all_conform.Goals as goal

pub returns-clause-empty : goal.returns-clause-empty
returns-clause-empty c = λ plan g. parts_empty (results plan.shapes g) (pairs plan g)

pub returns-clause-conform : goal.returns-clause-conform
returns-clause-conform c = λ plan g. all_empty (results plan.shapes g) (pairs plan g)
