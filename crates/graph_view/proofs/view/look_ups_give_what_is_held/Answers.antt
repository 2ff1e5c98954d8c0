use Rattle.graph_view.proofs.LookUpLemmas.{Contains-objects_of, Contains-subjects_of}
use Rattle.graph_view.proofs.LookUpLemmas.{Contains-triples_of, Contains-triples_with}
use Rattle.graph_view.proofs.view.look_ups_give_what_is_held.Goals as goal

pub returns-clause-objects : goal.returns-clause-objects
returns-clause-objects c = Contains-objects_of

pub returns-clause-subjects : goal.returns-clause-subjects
returns-clause-subjects c = Contains-subjects_of

pub returns-clause-by_subject : goal.returns-clause-by_subject
returns-clause-by_subject c = Contains-triples_of

pub returns-clause-by_predicate : goal.returns-clause-by_predicate
returns-clause-by_predicate c = Contains-triples_with
