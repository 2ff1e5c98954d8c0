-- Texts of shapes that the lines of a script load, and what comes of them.
use Rattle.std.specs.Prelude.{ℕ, Bool, true, false, All, List, Option}
use Rattle.shx_outside.specs.Outside.{FlaggedText}
use Rattle.shx_term.specs.declared.limits.Limits.{Limits}
use Rattle.shx_term.specs.ValidTriples.{IsValidTermTriple}
use Rattle.graph_view.specs.Graph.{Graph}
use Rattle.shape_eval.specs.Plan.{Planned}
use Rattle.plan_swap.specs.Alike.{AreAlikes}
use Rattle.shape_text.specs.TextReadings.{TextReading, States, Faulty, Long}
use Rattle.shape_text.specs.Verdict.{IsRefusedAt, IsVerdict, Obstacle, is_refused, plans, stops}

-- what the shapes of a document come to: a plan, with the shape in force that is declared alike for each of
-- its shapes that has one; or what stands in the way of a plan; or they were not looked at
pub data Judgement : Type 0 where
  takes : Planned → List (Option ℕ) → Judgement
  refuses : Obstacle → Judgement
  unjudged : Judgement

-- what a text is read as, and what the shapes come to that it states
pub record Load : Type 0 where
  pub reading : TextReading
  pub judgement : Judgement

-- the shapes that a graph states come to this, where those of this plan are in force; where the host refused
-- a pattern of them, it is the one that it refused last
abbrev pub IsJudgement : Limits → Option FlaggedText → Planned → Graph → Judgement → Type 0
IsJudgement limits last old g (takes plan alikes) =
    IsVerdict limits g (plans plan) × AreAlikes old.shapes plan.shapes alikes
IsJudgement limits last old g (refuses obstacle) =
    IsVerdict limits g (stops obstacle) × IsRefusedAt limits g obstacle last
IsJudgement limits last old g unjudged = ⊥

-- the host refused a pattern
abbrev pub is_pattern_refused : Judgement → Bool
is_pattern_refused (refuses (is_refused shape)) = true
is_pattern_refused judgement = false

-- what a text states is valid
abbrev pub StatesValid : TextReading → Type 0
StatesValid (States document end) = All IsValidTermTriple end.triples
StatesValid (Faulty code at) = Unit {0}
StatesValid Long = Unit {0}
