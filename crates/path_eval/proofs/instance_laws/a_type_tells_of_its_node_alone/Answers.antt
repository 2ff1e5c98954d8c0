use Rattle.path_eval.proofs.InstanceLemmas.{instance_inserted, instance_removed}
use Rattle.path_eval.proofs.instance_laws.a_type_tells_of_its_node_alone.Goals as goal

pub returns-clause-inserted : goal.returns-clause-inserted
returns-clause-inserted c = instance_inserted

pub returns-clause-removed : goal.returns-clause-removed
returns-clause-removed c = instance_removed
