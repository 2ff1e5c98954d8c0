use Rattle.path_eval.proofs.InstanceLemmas.{instance_test}
use Rattle.path_eval.proofs.instance_laws.instances_are_told.Goals as goal

pub returns : goal.returns
returns c = instance_test
