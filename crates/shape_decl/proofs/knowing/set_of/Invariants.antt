use Rattle.std.specs.Prelude.{◌≡◌, ℕ, ◌==◌, nat_eq, take}
use Rattle.indexmap.specs.IndexSet.{contains}
use Rattle.std.specs.List.{list_any}
use Rattle.shape_decl.proofs.knowing.set_of.Given as goal

abbrev pub invariant-loop-node : goal.invariant-loop-node
invariant-loop-node l =
    (n : ℕ) → contains nat_eq l.found n ≡ list_any (λ node. node == n) (take l.node-index l.nodes)
