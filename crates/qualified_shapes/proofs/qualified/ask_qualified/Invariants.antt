use Rattle.std.proofs.Common.{◌≡◌, ◌∷◌, ◌++◌}
use Rattle.std.specs.Prelude.{take}
use Rattle.comp_core.specs.Asking.{pairs_asked}
use Rattle.qualified_shapes.proofs.qualified.ask_qualified.Given as goal

abbrev pub invariant-loop-v : goal.invariant-loop-v
invariant-loop-v l =
    l.out.items ≡ l.fn.out.items ++ pairs_asked (l.shape ∷ l.siblings) (take l.v-index l.values)
