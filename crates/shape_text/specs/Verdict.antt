-- What the shapes of a text come to: a plan of them, or what stands in its way.
use Rattle.std.specs.Prelude.{◌≡◌, ℕ, Bool, true, false, List, [], length, Option, Some, None}
use Rattle.std.specs.Prelude.{slice_index}
use Rattle.shx_term.specs.declared.fault_codes.TheConstants.{RECURSIVE, BAD_PATTERN, PATTERN_REFUSED}
use Rattle.shx_term.specs.declared.fault_codes.TheConstants.{REFERENCES_TOO_DEEP}
use Rattle.shx_term.specs.declared.vocabulary.TheConstants.{SH_SPARQL}
use Rattle.shx_outside.specs.Counted.{Rose}
use Rattle.shx_outside.specs.Outside.{FlaggedText}
use Rattle.shx_term.specs.declared.limits.Limits.{Limits}
use Rattle.graph_view.specs.declared.key.Key.TheVariants.{Predicate}
use Rattle.graph_view.specs.Graph.{Graph}
use Rattle.graph_view.specs.Key.{look}
use Rattle.shape_decl.specs.Declarations.{declarations}
use Rattle.shape_check.specs.Faults.{first, graph_faults}
use Rattle.shape_check.specs.declared.fault.ShapeFault.{ShapeFault}
use Rattle.shape_eval.specs.Plan.{Planned}
use Rattle.shape_refs.specs.Outcome.{IsLeastRecursive, IsLeastTooDeep}
use Rattle.shape_compile.specs.Answers.{IsAtPattern, IsBadPattern, IsPlanOf, IsRefusedPattern}
use Rattle.report_write.specs.declared.answer.Answer.{Answer}
use Rattle.report_write.specs.declared.answer.Answer.TheVariants.{OfShape, Rule}

-- what stands in the way of a plan
pub data Obstacle : Type 0 where
  -- shapes break rules, and this is the first fault
  breaks : ShapeFault → Obstacle
  -- the least shape that reaches itself
  recurs : ℕ → Obstacle
  -- the least shape from which more references lead on than the limit
  reaches_far : ℕ → Obstacle
  -- the first shape whose pattern is none
  misspells : ℕ → Obstacle
  -- the first shape whose pattern the host did not build, though it may be one
  is_refused : ℕ → Obstacle

pub data Verdict : Type 0 where
  -- the shapes are accepted, and this plan means them
  plans : Planned → Verdict
  stops : Obstacle → Verdict

-- no rule is broken
pub record BreaksNone (limits : Limits) (g : Graph) : Type 0 where
  pub faultless : graph_faults limits g ≡ []

-- what stands in the way of a plan of the shapes of a graph: the first of these that does
abbrev pub IsObstacle : Limits → Graph → Obstacle → Type 0
IsObstacle limits g (breaks fault) = first (graph_faults limits g) ≡ Some fault
IsObstacle limits g (recurs shape) =
    BreaksNone limits g
    × ((cycle : List ℕ) × (slice_index cycle 0 ≡ shape)
    × IsLeastRecursive g.terms (declarations limits g) cycle)
IsObstacle limits g (reaches_far shape) =
    BreaksNone limits g × IsLeastTooDeep limits.reference_depth g.terms (declarations limits g) shape
IsObstacle limits g (misspells shape) =
    BreaksNone limits g × IsBadPattern limits g.terms (declarations limits g) shape
IsObstacle limits g (is_refused shape) =
    BreaksNone limits g × IsAtPattern limits g.terms (declarations limits g) shape

-- what the shapes of a graph come to
abbrev pub IsVerdict : Limits → Graph → Verdict → Type 0
IsVerdict limits g (plans plan) = BreaksNone limits g × IsPlanOf limits g.terms (declarations limits g) plan
IsVerdict limits g (stops obstacle) = IsObstacle limits g obstacle

-- where the host refused a pattern, what it refused last is one of the shape that is told
abbrev pub IsRefusedAt : Limits → Graph → Obstacle → Option FlaggedText → Type 0
IsRefusedAt limits g (is_refused shape) last = IsRefusedPattern g.terms (declarations limits g) shape last
IsRefusedAt limits g obstacle last = Unit {0}

-- ---- what is told in place of a report

abbrev pub fault_answer : ℕ → ℕ → Option ℕ → Option ℕ → Answer
fault_answer code shape (Some predicate) (Some term) = Rule code shape predicate term
fault_answer code shape (Some predicate) None = OfShape code shape
fault_answer code shape None term = OfShape code shape

abbrev pub obstacle_answer : Obstacle → Answer
obstacle_answer (breaks fault) = fault_answer fault.code fault.shape fault.predicate fault.term
obstacle_answer (recurs shape) = OfShape RECURSIVE shape
obstacle_answer (reaches_far shape) = OfShape REFERENCES_TOO_DEEP shape
obstacle_answer (misspells shape) = OfShape BAD_PATTERN shape
obstacle_answer (is_refused shape) = OfShape PATTERN_REFUSED shape

-- by which code that is told
abbrev pub obstacle_code : Obstacle → ℕ
obstacle_code (breaks fault) = fault.code
obstacle_code (recurs shape) = RECURSIVE
obstacle_code (reaches_far shape) = REFERENCES_TOO_DEEP
obstacle_code (misspells shape) = BAD_PATTERN
obstacle_code (is_refused shape) = PATTERN_REFUSED

-- the host refused a pattern
abbrev pub refuses_pattern : Verdict → Bool
refuses_pattern (stops (is_refused shape)) = true
refuses_pattern verdict = false

-- a count rose, or it did not
abbrev pub RoseWhere : Bool → ℕ → ℕ → Type 0
RoseWhere true before now = Rose before now
RoseWhere false before now = now ≡ before

-- ---- what is passed over

-- how many triples of a shapes graph are passed over: those with sh:sparql
abbrev pub passed_over : Graph → ℕ
passed_over g = length (look g.triples (Predicate SH_SPARQL))
