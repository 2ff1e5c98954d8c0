-- What a plan means: each declared shape, once, with what is declared of it.
use Rattle.std.specs.Prelude.{◌≡◌, ℕ, nat_eq, ◌&&◌, List, [], ◌∷◌, ◌++◌, map, slice_get}
use Rattle.std.specs.Prelude.{if◌then◌else◌, All, Contains}
use Rattle.std.specs.List.{IsDistinct}
use Rattle.std.specs.Option.{option_map, unwrap_or}
use Rattle.shx_term.specs.Members.{SameMembers}
use Rattle.shx_term.specs.TermKinds.{is_iri}
use Rattle.shx_term.specs.declared.term.Term.{Term}
use Rattle.shx_term.specs.declared.vocabulary.TheConstants.{SH_TARGET_NODE, SH_TARGET_CLASS}
use Rattle.shx_term.specs.declared.vocabulary.TheConstants.{SH_TARGET_SUBJECTS_OF, SH_TARGET_OBJECTS_OF}
use Rattle.shx_term.specs.declared.vocabulary.TheConstants.{SH_SEVERITY, SH_VIOLATION, SH_MESSAGE}
use Rattle.shx_term.specs.declared.vocabulary.TheConstants.{SH_DEACTIVATED}
use Rattle.path_eval.specs.Route.{route_of}
use Rattle.shape_decl.specs.Declarations.{Declaration, least, values_under}
use Rattle.shape_decl.specs.PathReadings.{Read}
use Rattle.shape_eval.specs.declared.shape.PlanShape.{PlanShape}
use Rattle.shape_eval.specs.declared.target.Target.{Target}
use Rattle.shape_eval.specs.declared.target.Target.TheVariants as target
use Rattle.shape_eval.specs.Constraint.{IsReadOf}
use Rattle.shape_eval.specs.Plan.{nodes_of}
use Rattle.shape_compile.specs.Constraints.{constraints_stated, said_by}
use Rattle.shape_refs.specs.Truth.{is_any_true}

-- an IRI that is a class is a target itself (SHACL, section 2.1.3.3)
abbrev pub own_class : List Term → Declaration → List ℕ
own_class terms d = if d.is_class && is_iri (slice_get terms d.node) then d.node ∷ [] else []

abbrev pub targets_stated : List Term → Declaration → List Target
targets_stated terms d =
    map target.Node (values_under d SH_TARGET_NODE)
    ++ (map target.Class (values_under d SH_TARGET_CLASS ++ own_class terms d)
    ++ (map target.SubjectsOf (values_under d SH_TARGET_SUBJECTS_OF)
    ++ map target.ObjectsOf (values_under d SH_TARGET_OBJECTS_OF)))

-- the severity that is stated, or sh:Violation (SHACL, section 2.1.4)
abbrev pub severity_of : Declaration → ℕ
severity_of d = unwrap_or (least (values_under d SH_SEVERITY)) SH_VIOLATION

-- a shape of a plan means what is declared, where the shapes of the plan are of these nodes
pub record ShapeMeans (terms : List Term) (ds : List Declaration) (nodes : List ℕ) (d : Declaration)
    (shape : PlanShape) : Type 0 where
  pub path : option_map (λ path. Read (route_of path)) shape.path ≡ d.path
  pub severity : shape.severity ≡ severity_of d
  pub messages : shape.messages.items ≡ values_under d SH_MESSAGE
  pub deactivated : shape.deactivated ≡ is_any_true terms (values_under d SH_DEACTIVATED)
  pub targets : shape.targets.items ≡ targets_stated terms d
  pub constraints : map (said_by nodes) shape.constraints.items ≡ constraints_stated terms ds d
  pub read : All (λ c. IsReadOf c terms) shape.constraints.items

-- exactly one shape for each declaration, found by its node
pub record PlanMeans (terms : List Term) (ds : List Declaration) (shapes : List PlanShape) : Type 0 where
  pub declared : SameMembers (nodes_of shapes) (map (λ d. d.node) ds)
  pub once : IsDistinct nat_eq (nodes_of shapes)
  pub each : (d : Declaration) (shape : PlanShape) → Contains ds d → Contains shapes shape
      → shape.node ≡ d.node → ShapeMeans terms ds (nodes_of shapes) d shape
