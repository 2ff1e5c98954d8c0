-- What is known of a plan.
use Rattle.shape_eval.specs.declared.plan.Plan.{Plan}
use Rattle.shape_eval.specs.Plan.{Planned}

-- its shapes by number, and the targeted ones in their order
abbrev pub plan_of : Plan → Planned
plan_of plan = record { shapes = plan.shapes.items; targeted = plan.targeted.items }
