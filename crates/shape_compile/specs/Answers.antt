-- What is answered of declared shapes: a plan, or what stands in its way.
use Rattle.std.specs.Prelude.{◌≡◌, ℕ, List, Option, Some, Result, Ok, Err, ⊤}
use Rattle.shx_outside.specs.Counted.{Rose}
use Rattle.shx_outside.specs.Outside.{FlaggedText}
use Rattle.shx_outside.specs.Patterns.{IsNoPattern}
use Rattle.shx_term.specs.declared.limits.Limits.{Limits}
use Rattle.shx_term.specs.declared.term.Term.{Term}
use Rattle.shape_decl.specs.Declarations.{Declaration}
use Rattle.shape_eval.specs.Plan.{Planned, planned}
use Rattle.shape_refs.specs.Outcome.{AreInReach, IsLeastRecursive, IsLeastTooDeep}
use Rattle.shape_compile.specs.Meaning.{PlanMeans}
use Rattle.shape_compile.specs.Patterns.{AreRead, AreReadBefore, StatesPattern, flags_of, text_at}
use Rattle.shape_compile.specs.declared.fault.CompileFault.{CompileFault}
use Rattle.shape_compile.specs.declared.fault.CompileFault.TheVariants as fault

-- ---- a plan

-- the plan means what is declared, which nothing stands in the way of
pub record IsPlanOf (limits : Limits) (terms : List Term) (ds : List Declaration) (plan : Planned) : Type 0
  where
    pub reach : AreInReach limits.reference_depth terms ds
    pub patterns : AreRead terms ds
    pub means : PlanMeans terms ds plan.shapes
    pub targeted : plan ≡ planned terms plan.shapes

-- ---- what stands in the way

-- a shape states a pattern, and those of the shapes before it are read
pub record IsAtPattern (limits : Limits) (terms : List Term) (ds : List Declaration) (shape : ℕ) : Type 0
  where
    pub reach : AreInReach limits.reference_depth terms ds
    pub before : AreReadBefore terms ds shape
    pub decl : Declaration
    pub node : decl.node ≡ shape
    pub value : ℕ
    pub states : StatesPattern ds decl value

-- it is none that the grammar reads
pub record IsBadPattern (limits : Limits) (terms : List Term) (ds : List Declaration) (shape : ℕ) : Type 0
  where
    pub at : IsAtPattern limits terms ds shape
    pub bad : IsNoPattern (text_at terms at.value) (flags_of terms at.decl)

abbrev pub Tells : Limits → List Term → List Declaration → CompileFault → Type 0
Tells limits terms ds (fault.Recursive cycle) = IsLeastRecursive terms ds cycle.items
Tells limits terms ds (fault.ReferencesTooDeep shape) = IsLeastTooDeep limits.reference_depth terms ds shape
Tells limits terms ds (fault.BadPattern shape) = IsBadPattern limits terms ds shape
Tells limits terms ds (fault.PatternRefused shape) = IsAtPattern limits terms ds shape
Tells limits terms ds fault.Memory = ⊤

-- ---- the host of patterns

-- its count of refusals rose where a pattern was refused, and in no other case
abbrev pub HasPatternCause : {T : Type 0} → ℕ → ℕ → Result T CompileFault → Type 0
HasPatternCause before now (Ok value) = now ≡ before
HasPatternCause before now (Err (fault.Recursive cycle)) = now ≡ before
HasPatternCause before now (Err (fault.ReferencesTooDeep shape)) = now ≡ before
HasPatternCause before now (Err (fault.BadPattern shape)) = now ≡ before
HasPatternCause before now (Err (fault.PatternRefused shape)) = Rose before now
HasPatternCause before now (Err fault.Memory) = now ≡ before

-- what the host refused last is a pattern that the shape states, with its flags
pub record IsRefusedPattern (terms : List Term) (ds : List Declaration) (shape : ℕ)
    (last : Option FlaggedText) : Type 0 where
  pub decl : Declaration
  pub node : decl.node ≡ shape
  pub value : ℕ
  pub states : StatesPattern ds decl value
  pub last_is : last ≡ Some (record { flags = flags_of terms decl; text = text_at terms value })

-- the host's last one is the pattern that was refused, where one was, and in every other case it stays
abbrev pub LastRefused : List Term → List Declaration → Option FlaggedText → Option FlaggedText → CompileFault
    → Type 0
LastRefused terms ds before now (fault.Recursive cycle) = now ≡ before
LastRefused terms ds before now (fault.ReferencesTooDeep shape) = now ≡ before
LastRefused terms ds before now (fault.BadPattern shape) = now ≡ before
LastRefused terms ds before now (fault.PatternRefused shape) = IsRefusedPattern terms ds shape now
LastRefused terms ds before now fault.Memory = now ≡ before

abbrev pub TellsRefused : {T : Type 0} → List Term → List Declaration → Option FlaggedText
    → Option FlaggedText → Result T CompileFault → Type 0
TellsRefused terms ds before now (Ok value) = now ≡ before
TellsRefused terms ds before now (Err why) = LastRefused terms ds before now why
