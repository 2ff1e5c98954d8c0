-- Which nodes are shapes (SHACL, section 2).
use Rattle.std.specs.Prelude.{◌≡◌, ℕ, true, List, [], ◌∷◌, ◌++◌, map, flat_map, filter, Contains}
use Rattle.std.specs.Prelude.{Option, Some, None, ◌⊎◌}
use Rattle.shx_term.specs.declared.triple.Triple.{Triple}
use Rattle.shx_term.specs.declared.vocabulary.TheConstants.{SH_NODE_SHAPE, SH_PROPERTY_SHAPE}
use Rattle.shx_term.specs.IdOrder.{id_cmp, in_term_order}
use Rattle.shx_term.specs.InOrder.{Lists}
use Rattle.shx_term.specs.TermKinds.{is_node}
use Rattle.graph_view.specs.Graph.{Graph, AllKnown, triples_with}
use Rattle.path_eval.specs.declared.direction.Direction.TheVariants.{Backward}
use Rattle.path_eval.specs.Instances.{IsInstance, instance_route}
use Rattle.path_eval.specs.Values.{nodes_reached}
use Rattle.shape_decl.specs.Lists.{IsList, list_of}
use Rattle.shape_decl.specs.Tables.{shape_list_predicates, shape_predicates, subject_predicates}

-- ---- the four ways to be a shape

abbrev pub shape_classes : List ℕ
shape_classes = SH_NODE_SHAPE ∷ SH_PROPERTY_SHAPE ∷ []

pub record IsOfShapeClass (g : Graph) (n : ℕ) : Type 0 where
  pub class : ℕ
  pub is_one : Contains shape_classes class
  pub instance : IsInstance g.triples n class

-- what a target predicate or a parameter is stated of
pub record IsShapeSubject (g : Graph) (n : ℕ) : Type 0 where
  pub triple : Triple
  pub held : Contains g.triples triple
  pub predicate : Contains subject_predicates triple.p
  pub is : n ≡ triple.s

-- the value of a parameter that expects a shape
pub record IsShapeValue (g : Graph) (n : ℕ) : Type 0 where
  pub triple : Triple
  pub held : Contains g.triples triple
  pub predicate : Contains shape_predicates triple.p
  pub is : n ≡ triple.o

-- a member of a list that is the value of a parameter that expects a list of shapes
pub record IsShapeMember (g : Graph) (n : ℕ) : Type 0 where
  pub triple : Triple
  pub held : Contains g.triples triple
  pub predicate : Contains shape_list_predicates triple.p
  pub members : List ℕ
  pub list : IsList g triple.o members
  pub is : Contains members n

pub record IsShape (g : Graph) (n : ℕ) : Type 0 where
  pub node : is_node g.terms n ≡ true
  pub cause : IsOfShapeClass g n ⊎ IsShapeSubject g n ⊎ IsShapeValue g n ⊎ IsShapeMember g n

-- ---- the shapes, as a list

abbrev pub subjects_with : Graph → ℕ → List ℕ
subjects_with g p = map (λ t. t.s) (triples_with g p)

abbrev pub objects_with : Graph → ℕ → List ℕ
objects_with g p = map (λ t. t.o) (triples_with g p)

abbrev pub members_or_none : Option (List ℕ) → List ℕ
members_or_none (Some members) = members
members_or_none None = []

abbrev pub members_with : Graph → ℕ → List ℕ
members_with g p = flat_map (λ t. members_or_none (list_of g t.o)) (triples_with g p)

abbrev pub candidates : Graph → List ℕ
candidates g =
    flat_map (nodes_reached g Backward instance_route) shape_classes
    ++ (flat_map (subjects_with g) subject_predicates
    ++ (flat_map (objects_with g) shape_predicates
    ++ flat_map (members_with g) shape_list_predicates))

-- each shape once, in term order
unfoldable pub shape_nodes : Graph → List ℕ
shape_nodes g = in_term_order g.terms (filter (is_node g.terms) (candidates g))

abbrev pub ShapesAreListed : Type 0
ShapesAreListed = (g : Graph) → AllKnown g → Lists (id_cmp g.terms) (IsShape g) (shape_nodes g)
