-- The patterns of declarations, as they were built.
use Rattle.std.specs.Prelude.{◌≡◌, ℕ, ◌≤◌, List, [], ◌∷◌, Option, Some, None, length, slice_get}
use Rattle.std.specs.Prelude.{Contains, ⊤}
use Rattle.shx_outside.specs.Patterns.{BuiltPattern, IsBuiltOf, IsNoPattern}
use Rattle.shx_term.specs.declared.term.Term.{Term}
use Rattle.shx_term.specs.declared.vocabulary.TheConstants.{SH_PATTERN}
use Rattle.path_eval.specs.Route.{Route}
use Rattle.shape_decl.specs.Declarations.{Declaration, values_under}
use Rattle.shape_decl.specs.PathReadings.{RouteReading, Read}
use Rattle.shape_compile.specs.Patterns.{AreReadBefore, flags_of, text_at}
use Rattle.shape_compile.specs.declared.fault.CompileFault.{CompileFault}
use Rattle.shape_compile.specs.declared.fault.CompileFault.TheVariants as fault

-- the one pattern that the shape states was built, or it states none
abbrev pub IsBuiltFor : List Term → Declaration → Option BuiltPattern → Type 0
IsBuiltFor terms d None = values_under d SH_PATTERN ≡ []
IsBuiltFor terms d (Some built) =
    (value : ℕ) × (values_under d SH_PATTERN ≡ value ∷ [])
    × IsBuiltOf (text_at terms value) (flags_of terms d) built

-- the same of each declaration, by its place
pub record AreBuilt (terms : List Term) (ds : List Declaration) (built : List (Option BuiltPattern)) : Type 0
  where
    pub long : length built ≡ length ds
    pub each : (i : ℕ) (d : Declaration) (pattern : Option BuiltPattern) → slice_get ds i ≡ Some d
        → slice_get built i ≡ Some pattern → IsBuiltFor terms d pattern

-- ---- why none was built

-- no shape states two patterns
pub record HaveOnePattern (ds : List Declaration) : Type 0 where
  pub each : (d : Declaration) → Contains ds d → length (values_under d SH_PATTERN) ≤ 1

-- a pattern of the shape is told, and whether it is none
abbrev pub StopsHere : List Term → Declaration → CompileFault → Type 0
StopsHere terms d (fault.Recursive cycle) = ⊥
StopsHere terms d (fault.ReferencesTooDeep shape) = ⊥
StopsHere terms d (fault.BadPattern shape) =
    (d.node ≡ shape) × ((value : ℕ) × Contains (values_under d SH_PATTERN) value
    × IsNoPattern (text_at terms value) (flags_of terms d))
StopsHere terms d (fault.PatternRefused shape) =
    (d.node ≡ shape) × ((value : ℕ) × Contains (values_under d SH_PATTERN) value)
StopsHere terms d fault.Memory = ⊤

-- those of the shapes before it are read
pub record IsStopped (terms : List Term) (ds : List Declaration) (shape : ℕ) (why : CompileFault) : Type 0
  where
    pub decl : Declaration
    pub declared : Contains ds decl
    pub before : AreReadBefore terms ds shape
    pub here : StopsHere terms decl why

abbrev pub StopsAtPattern : List Term → List Declaration → CompileFault → Type 0
StopsAtPattern terms ds (fault.Recursive cycle) = ⊥
StopsAtPattern terms ds (fault.ReferencesTooDeep shape) = ⊥
StopsAtPattern terms ds (fault.BadPattern shape) = IsStopped terms ds shape (fault.BadPattern shape)
StopsAtPattern terms ds (fault.PatternRefused shape) = IsStopped terms ds shape (fault.PatternRefused shape)
StopsAtPattern terms ds fault.Memory = ⊤

-- ---- paths

-- each path is read
pub record HavePaths (ds : List Declaration) : Type 0 where
  pub each : (d : Declaration) (reading : RouteReading) → Contains ds d → d.path ≡ Some reading
      → (route : Route) × (reading ≡ Read route)
