-- The shape that a result names.
use Rattle.std.specs.Prelude.{ℕ, List, [], Option, Some, None}
use Rattle.shape_eval.specs.declared.shape.PlanShape.{PlanShape}

-- a text of a shape, and nothing where there is no shape
abbrev pub of_shape : (PlanShape → List ℕ) → Option PlanShape → List ℕ
of_shape text None = []
of_shape text (Some shape) = text shape
