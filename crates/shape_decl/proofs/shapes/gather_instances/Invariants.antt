use Rattle.std.specs.Prelude.{◌≡◌, ◌++◌, flat_map, take}
use Rattle.path_eval.specs.declared.direction.Direction.TheVariants.{Backward}
use Rattle.path_eval.specs.Instances.{instance_route}
use Rattle.path_eval.specs.Values.{nodes_reached}
use Rattle.shape_decl.proofs.shapes.gather_instances.Given as goal

abbrev pub invariant-loop-class : goal.invariant-loop-class
invariant-loop-class g l =
    l.found.items
    ≡ l.fn.found.items
    ++ flat_map (nodes_reached (g.V.GraphView.graph l.graph) Backward instance_route)
    (take l.class-index l.classes)
