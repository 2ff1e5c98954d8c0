use Rattle.std.specs.Prelude.{◌≡◌, ◌++◌, map, take}
use Rattle.shape_eval.specs.declared.target.Target.TheVariants as target
use Rattle.shape_compile.proofs.targets.targets_of.Given as goal

abbrev pub invariant-loop-node : goal.invariant-loop-node
invariant-loop-node l = l.found.items ≡ map target.Node (take l.node-index l.node-items)

abbrev pub invariant-loop-class : goal.invariant-loop-class
invariant-loop-class l =
    l.found.items ≡ l.initial.found.items ++ map target.Class (take l.class-index l.class-items)

abbrev pub invariant-loop-p : goal.invariant-loop-p
invariant-loop-p l =
    l.found.items ≡ l.initial.found.items ++ map target.SubjectsOf (take l.p-index l.p-items)

abbrev pub invariant-loop-p-2 : goal.invariant-loop-p-2
invariant-loop-p-2 l =
    l.found.items ≡ l.initial.found.items ++ map target.ObjectsOf (take l.p-index l.p-items)
