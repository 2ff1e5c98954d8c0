use Rattle.path_eval.specs.Instances.{instance_route}
use Rattle.path_eval.proofs.InstanceLemmas.{instance_end}
use Rattle.path_eval.proofs.instance_values.reach.Goals as goal

pub returns-clause-nodes : goal.returns-clause-nodes
returns-clause-nodes g c =
    c.reach_laid.ensures.nodes c.args.direction instance_route c.instance_edges-edges.ensures
    (instance_end c.args.direction)

pub returns-clause-known : goal.returns-clause-known
returns-clause-known g c =
    c.reach_laid.ensures.known c.args.direction instance_route c.instance_edges-edges.ensures
    (instance_end c.args.direction)

pub returns-clause-reads : goal.returns-clause-reads
returns-clause-reads g c =
    c.reach_laid.ensures.reads c.args.direction instance_route c.instance_edges-edges.ensures
    (instance_end c.args.direction)
