use Rattle.std.specs.Prelude.{◌≡◌, ℕ, List, All, length, map, take}
use Rattle.shape_eval.specs.Constraint.{IsReadOf}
use Rattle.shape_compile.specs.Constraints.{said_by}
use Rattle.shape_compile.proofs.reading.read_terms.Given as goal

abbrev pub invariant-loop-constraint : goal.invariant-loop-constraint
invariant-loop-constraint l = record {
  long : length l.constraint-items ≡ length l.fn.constraints.items;
  said : (nodes : List ℕ) → map (said_by nodes) l.constraint-items
      ≡ map (said_by nodes) l.fn.constraints.items;
  read : All (λ c. IsReadOf c l.pool.terms) (take l.constraint-index l.constraint-items);
}
