-- One plan in the place of another, of whose shapes some are alike: pairs of the one as pairs of the other.
-- Of each new shape `alikes` has the number of the old one that is alike, where one is.
use Rattle.std.specs.Prelude.{ℕ, nat_eq, List, Option, Some, None, position, slice_get}
use Rattle.std.specs.Option.{option_eq, option_map, unwrap_or}
use Rattle.comp_core.specs.declared.pair.Pair.{Pair}
use Rattle.shape_eval.specs.Plan.{Planned}
use Rattle.shape_eval.specs.Planned.{plan_of}
use Rattle.shape_eval.specs.Report.{at_shape}
use Rattle.plan_swap.specs.declared.swap.Swap.{Swap}
use Rattle.plan_swap.specs.Alike.{AreAlikes}
use Rattle.plan_swap.specs.Renumbered.{new_number}

-- the pair of the old plan that a new one was: at the alike shape, and at the same node
abbrev pub pair_before : List (Option ℕ) → Pair → Option Pair
pair_before alikes p = option_map (λ m. at_shape m p.node) (unwrap_or (slice_get alikes p.shape) None)

-- the pair of the new plan that an old one is
abbrev pub pair_after : List (Option ℕ) → Pair → Option Pair
pair_after alikes p =
    option_map (λ n. at_shape n p.node) (position (option_eq nat_eq (Some p.shape)) alikes)

-- ---- both plans

abbrev pub plan_before : Swap → Planned
plan_before swap = plan_of swap.old.now

abbrev pub plan_after : Swap → Planned
plan_after swap = plan_of swap.new.now

-- which of their shapes are alike is told
pub record IsSwap (swap : Swap) : Type 0 where
  pub alikes : AreAlikes (plan_before swap).shapes (plan_after swap).shapes swap.alikes.now

-- the number that an old shape has in the new plan
abbrev pub number_after : Swap → ℕ → ℕ
number_after swap m = new_number (plan_before swap).shapes (plan_after swap).shapes m
