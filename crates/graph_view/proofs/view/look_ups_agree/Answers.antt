use Rattle.std.proofs.Common.{refl}
use Rattle.graph_view.proofs.SameLookUpLemmas.{objects_of-agree, subjects_of-agree}
use Rattle.graph_view.proofs.SameLookUpLemmas.{triples_of-agree, triples_with-agree}
use Rattle.graph_view.proofs.view.look_ups_agree.Goals as goal

pub returns-clause-objects : goal.returns-clause-objects
returns-clause-objects c = λ g h s p known agree. objects_of-agree g h known agree s p refl

pub returns-clause-subjects : goal.returns-clause-subjects
returns-clause-subjects c = λ g h p o known agree. subjects_of-agree g h known agree p o refl

pub returns-clause-by_subject : goal.returns-clause-by_subject
returns-clause-by_subject c = λ g h s known agree. triples_of-agree g h known agree s refl

pub returns-clause-by_predicate : goal.returns-clause-by_predicate
returns-clause-by_predicate c = λ g h p known agree. triples_with-agree g h known agree p refl
