use Rattle.path_eval.proofs.InstanceLemmas.{instance_agreement}
use Rattle.path_eval.proofs.instance_laws.instances_depend_on_their_reads.Goals as goal

pub returns : goal.returns
returns c = instance_agreement
