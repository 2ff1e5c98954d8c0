use Rattle.std.specs.Prelude.{◌≡◌, ℕ, [], length}
use Rattle.shape_refs.specs.inner.Near.{row_at}
use Rattle.shape_refs.proofs.siblings.empty_rows.Given as goal

abbrev pub invariant-loop : goal.invariant-loop
invariant-loop l = record {
  long : length l.rows.items ≡ l.counter;
  empty : (i : ℕ) → row_at l.rows.items i ≡ [];
}
