use Rattle.edit_engine.proofs.SameReportLemmas.{MayBeAsked-same, nested-same, pairs-same, report-same}
use Rattle.edit_engine.proofs.same_graphs.same_graphs_answer_alike.Goals as goal

pub returns-clause-asked : goal.returns-clause-asked
returns-clause-asked c = MayBeAsked-same

pub returns-clause-pairs : goal.returns-clause-pairs
returns-clause-pairs c = pairs-same c.results_depend_on_reads.ensures c.targets_depend_on_reads.ensures

pub returns-clause-report : goal.returns-clause-report
returns-clause-report c = report-same c.results_depend_on_reads.ensures c.targets_depend_on_reads.ensures

pub returns-clause-nested : goal.returns-clause-nested
returns-clause-nested c =
    nested-same c.results_depend_on_reads.ensures c.targets_depend_on_reads.ensures
    c.nested_pairs_are_read.ensures.depend
