use Rattle.std.proofs.Common.{◌≡◌, ◌++◌}
use Rattle.std.specs.Prelude.{flat_map}
use Rattle.shacl_run.proofs.node_rows.add_in_term_order.Given as goal

abbrev pub invariant-loop-at : goal.invariant-loop-at
invariant-loop-at l = l.rows.items ≡ l.fn.rows.items ++ flat_map (λ at. at.rows.items) l.yielded
