-- What is true of the declarations of a graph.
use Rattle.std.specs.Prelude.{◌≡◌, ℕ, ◌<◌, nat_eq, true, List, map, Contains, Some}
use Rattle.std.specs.List.{IsDistinct}
use Rattle.shx_term.specs.declared.limits.Limits.{Limits}
use Rattle.shx_term.specs.declared.vocabulary.TheConstants.{SH_PATH, VOCABULARY_LEN}
use Rattle.shx_term.specs.TermKinds.{is_node}
use Rattle.graph_view.specs.Graph.{Graph, AllKnown, objects_of}
use Rattle.shape_decl.specs.Declarations.{Declaration, declaration_of, declarations, list_reading}
use Rattle.shape_decl.specs.Declarations.{lists_under, values_under}
use Rattle.shape_decl.specs.Lists.{list_of}
use Rattle.shape_decl.specs.PathReadings.{RouteReading}
use Rattle.shape_decl.specs.Shapes.{shape_nodes}
use Rattle.shape_decl.specs.Tables.{list_predicates, shape_list_predicates, shape_predicates}

-- ---- what a declaration has

-- under a predicate of the vocabulary stand the objects that the node has, and no others
abbrev pub ValuesStandUnderTheirPredicates : Type 0
ValuesStandUnderTheirPredicates =
    (limits : Limits) (g : Graph) (node p : ℕ) → p < VOCABULARY_LEN
    → values_under (declaration_of limits g node) p ≡ objects_of g node p

-- under a parameter that expects lists stand the readings of its values, and no others
abbrev pub ListsStandUnderTheirParameters : Type 0
ListsStandUnderTheirParameters =
    (limits : Limits) (g : Graph) (node p : ℕ) → Contains list_predicates p
    → lists_under (declaration_of limits g node) p ≡ map (list_reading g) (objects_of g node p)

-- what is read as a path is a value of sh:path
abbrev pub HasReadItsPath : Declaration → Type 0
HasReadItsPath d =
    (reading : RouteReading) → d.path ≡ Some reading → (head : ℕ) × Contains (values_under d SH_PATH) head

abbrev pub PathsAreReadFromValues : Type 0
PathsAreReadFromValues =
    (limits : Limits) (g : Graph) (node : ℕ) → HasReadItsPath (declaration_of limits g node)

-- ---- which nodes are declared

abbrev pub DeclarationsAreOfShapes : Type 0
DeclarationsAreOfShapes =
    (limits : Limits) (g : Graph) → map (λ d. d.node) (declarations limits g) ≡ shape_nodes g

abbrev pub ShapesAreDistinct : Type 0
ShapesAreDistinct = (g : Graph) → IsDistinct nat_eq (shape_nodes g)

-- a value of a parameter that expects a shape is declared
abbrev pub NamedShapesAreDeclared : Type 0
NamedShapesAreDeclared =
    (g : Graph) → AllKnown g → (node p value : ℕ) → Contains shape_predicates p
    → Contains (objects_of g node p) value → is_node g.terms value ≡ true → Contains (shape_nodes g) value

-- so is a member of a list that is the value of a parameter that expects a list of shapes
abbrev pub NamedMembersAreDeclared : Type 0
NamedMembersAreDeclared =
    (g : Graph) → AllKnown g → (node p head : ℕ) (members : List ℕ) (member : ℕ)
    → Contains shape_list_predicates p → Contains (objects_of g node p) head → list_of g head ≡ Some members
    → Contains members member → is_node g.terms member ≡ true → Contains (shape_nodes g) member
