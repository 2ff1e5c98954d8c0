use Rattle.edit_engine.proofs.NetSameLemmas.{SameGraph-after, fits_same, net_same, outcome_same}
use Rattle.edit_engine.proofs.SameReportLemmas.{fresh-same, touched-same}
use Rattle.edit_engine.proofs.same_graphs.same_graphs_are_changed_alike.Goals as goal

pub returns-clause-net : goal.returns-clause-net
returns-clause-net c = λ g h edits same. net_same g h same edits

pub returns-clause-fits : goal.returns-clause-fits
returns-clause-fits c = λ g h net same. fits_same g h same net

pub returns-clause-outcome : goal.returns-clause-outcome
returns-clause-outcome c = λ most_triples most_terms g h net same.
    outcome_same g h same net most_triples most_terms

pub returns-clause-graph : goal.returns-clause-graph
returns-clause-graph c = λ g h net same. SameGraph-after g h same net

pub returns-clause-touched : goal.returns-clause-touched
returns-clause-touched c = touched-same c.results_depend_on_reads.ensures c.targets_depend_on_reads.ensures

pub returns-clause-fresh : goal.returns-clause-fresh
returns-clause-fresh c =
    fresh-same c.results_depend_on_reads.ensures c.targets_depend_on_reads.ensures
    c.nested_pairs_are_read.ensures.depend
