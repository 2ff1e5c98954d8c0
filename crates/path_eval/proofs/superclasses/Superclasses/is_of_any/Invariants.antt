use Rattle.std.specs.Prelude.{◌≡◌, nat_eq, flat_map, take}
use Rattle.std.specs.List.{list_any}
use Rattle.path_eval.specs.declared.direction.Direction.TheVariants.{Forward}
use Rattle.path_eval.specs.Superclasses.{IsRightOf, superclass_route}
use Rattle.path_eval.specs.Values.{nodes_reached, path_reads}
use Rattle.path_eval.proofs.superclasses.Superclasses.is_of_any.Given as goal

abbrev pub invariant-loop-kind : goal.invariant-loop-kind
invariant-loop-kind g l =
    let graph = g.V.GraphView.graph l.view in
    let done = take l.kind-index l.types in
    record {
      known : IsRightOf l.self graph;
      is : l.is ≡ list_any (nat_eq l.class) (flat_map (nodes_reached graph Forward superclass_route) done);
      reads : g.N.Notes.notes l.initial.reads l.reads
          (flat_map (path_reads graph Forward superclass_route) done);
    }
