-- What a pool keeps while a text is read.
use Rattle.std.specs.Prelude.{◌≡◌, ℕ, Some, slice_get}
use Rattle.shx_term.specs.declared.term.Term.{Term}
use Rattle.shx_term.specs.Pool.{Pooled}

-- each number keeps its term, and the limit stays
pub record KeepsTerms (before after : Pooled) : Type 0 where
  pub limit : after.limit ≡ before.limit
  pub each : (id : ℕ) (t : Term) → slice_get before.terms id ≡ Some t → slice_get after.terms id ≡ Some t
