use Rattle.std.specs.Prelude.{flat_map, take}
use Rattle.shx_term.specs.Members.{Adds}
use Rattle.path_eval.specs.declared.direction.Direction.TheVariants.{Forward}
use Rattle.path_eval.specs.Superclasses.{IsRightOf, superclass_route}
use Rattle.path_eval.specs.Values.{nodes_reached, path_reads}
use Rattle.path_eval.proofs.superclasses.Superclasses.all_of.Given as goal

abbrev pub invariant-loop-kind : goal.invariant-loop-kind
invariant-loop-kind g l =
    let graph = g.V.GraphView.graph l.view in
    let done = take l.kind-index l.types in
    record {
      known : IsRightOf l.self graph;
      classes : Adds l.initial.all.classes.keys l.all.classes.keys
          (flat_map (nodes_reached graph Forward superclass_route) done);
      reads : Adds l.initial.all.reads l.all.reads
          (flat_map (path_reads graph Forward superclass_route) done);
    }
