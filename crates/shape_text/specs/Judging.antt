-- What a shapes text is made into, in terms of what it is read as.
use Rattle.std.specs.Prelude.{◌≡◌, ℕ, List}
use Rattle.shx_outside.specs.declared.role.Role.TheVariants.{Shapes as of_shapes}
use Rattle.shx_outside.specs.Outside.{PatternState}
use Rattle.shx_term.specs.declared.limits.Limits.{Limits}
use Rattle.shx_term.specs.declared.term.Scope.TheVariants.{Shapes}
use Rattle.shx_term.specs.declared.term.Term.{Term}
use Rattle.shx_term.specs.Vocabulary.{vocabulary}
use Rattle.graph_view.specs.Graph.{Graph}
use Rattle.ttl_meaning.specs.State.{State}
use Rattle.shape_eval.specs.Plan.{Planned, IsPlan}
use Rattle.shape_eval.specs.Planned.{plan_of}
use Rattle.report_write.specs.declared.answer.Answer.{Answer}
use Rattle.shape_text.specs.declared.judging.Accepted.{Accepted}
use Rattle.shape_text.specs.declared.refusal.Refusal.{Refusal}
use Rattle.shape_text.specs.declared.refusal.Refusal.TheVariants.{Text, Cut}
use Rattle.shape_text.specs.declared.unopened.Unopened.{Unopened}
use Rattle.shape_text.specs.declared.unopened.Unopened.TheVariants as unopened
use Rattle.shape_text.specs.TextReadings.{TextReading, States, Faulty, Long, IsReadAs, stated_graph}
use Rattle.shape_text.specs.Verdict.{passed_over, RoseWhere, IsRefusedAt, IsVerdict, Obstacle}
use Rattle.shape_text.specs.Verdict.{obstacle_answer, plans, refuses_pattern, stops}
use Rattle.shape_text.specs.Refusal.{IsRefusalOf}

-- ---- the shapes of a graph

-- the graph's shapes come to this plan, or to what is answered in its place; want of memory says nothing, but
-- that no pattern was refused
pub record PlansAs (limits : Limits) (g : Graph) (before after : PatternState) (plan : Planned) : Type 0 where
  pub judged : IsVerdict limits g (plans plan)
  pub fits : IsPlan g.terms plan.shapes
  pub patterns : after.faults ≡ before.faults

pub record StopsAs (limits : Limits) (g : Graph) (before after : PatternState) (answer : Answer) : Type 0
  where
    pub obstacle : Obstacle
    pub judged : IsVerdict limits g (stops obstacle)
    pub told : answer ≡ obstacle_answer obstacle
    pub patterns : RoseWhere (refuses_pattern (stops obstacle)) before.faults after.faults
    pub refused : IsRefusedAt limits g obstacle after.refused

abbrev pub IsUnplanned : Limits → Graph → PatternState → PatternState → Refusal → Type 0
IsUnplanned limits g before after (Text answer) = StopsAs limits g before after answer
IsUnplanned limits g before after (Cut stop) = after.faults ≡ before.faults

-- ---- the shapes text

-- the text states a document whose shapes come to this plan
pub record Accepts (limits : Limits) (base text : List ℕ) (before after : PatternState) (accepted : Accepted)
    : Type 0 where
  pub document : Graph
  pub end : State
  pub read : IsReadAs limits base Shapes vocabulary text (States document end)
  pub plan : PlansAs limits (stated_graph document) before after (plan_of accepted.plan)
  pub terms : document.terms ≡ accepted.pool.terms
  pub passed : accepted.passed_over ≡ passed_over (stated_graph document)

-- the text has a fault of Turtle or is too long, or its shapes come to no plan
abbrev pub IsShapesRefusal : Limits → TextReading → PatternState → PatternState → List Term → Answer → Type 0
IsShapesRefusal limits (States document end) before after terms answer =
    (terms ≡ document.terms) × StopsAs limits (stated_graph document) before after answer
IsShapesRefusal limits (Faulty code at) before after terms answer =
    IsRefusalOf of_shapes (Faulty code at) answer × (after.faults ≡ before.faults)
IsShapesRefusal limits Long before after terms answer =
    IsRefusalOf of_shapes Long answer × (after.faults ≡ before.faults)

abbrev pub RefusesShapes : Limits → List ℕ → List ℕ → PatternState → PatternState → Unopened → Type 0
RefusesShapes limits base text before after (unopened.Told answer pool) =
    (reading : TextReading) × IsReadAs limits base Shapes vocabulary text reading
    × IsShapesRefusal limits reading before after pool.terms answer
RefusesShapes limits base text before after (unopened.Cut stop) = Unit {0}
