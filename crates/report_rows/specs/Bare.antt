-- Shapes without constraints, as they may stand in a plan.
use Rattle.std.specs.Prelude.{◌≡◌, List, []}
use Rattle.shx_term.specs.declared.term.Term.{Term}
use Rattle.shape_eval.specs.declared.shape.PlanShape.{PlanShape}
use Rattle.shape_eval.specs.Plan.{HasTermsOf, IsOrderly}

pub record IsBare (terms : List Term) (sh : PlanShape) : Type 0 where
  pub known : HasTermsOf terms sh
  pub orderly : IsOrderly terms sh
  pub bare : sh.constraints.items ≡ []
