-- The declarations of a shapes graph: each shape with what is stated of it.
use Rattle.std.specs.Prelude.{ℕ, ◌==◌, Bool, List, [], ◌∷◌, map, flat_map, length, take, drop}
use Rattle.std.specs.Prelude.{Option, Some, None, if◌then◌else◌}
use Rattle.std.specs.List.{list_any, range_with_len}
use Rattle.std.specs.Option.{option_map}
use Rattle.shx_term.specs.declared.limits.Limits.{Limits}
use Rattle.shx_term.specs.declared.vocabulary.TheConstants.{RDFS_CLASS, SH_NODE_SHAPE, SH_PATH}
use Rattle.shx_term.specs.declared.vocabulary.TheConstants.{VOCABULARY_LEN}
use Rattle.graph_view.specs.Graph.{Graph, objects_of}
use Rattle.path_eval.specs.Instances.{is_instance}
use Rattle.shape_decl.specs.declared.declaration.Declared.{Declared}
use Rattle.shape_decl.specs.declared.declaration.ListValue.{ListValue}
use Rattle.shape_decl.specs.declared.declaration.ShapeDecl.{ShapeDecl}
use Rattle.shape_decl.specs.Lists.{list_of}
use Rattle.shape_decl.specs.PathReadings.{RouteReading, path_reading, told_reading}
use Rattle.shape_decl.specs.Shapes.{shape_nodes}
use Rattle.shape_decl.specs.Tables.{list_predicates}

-- the values of a predicate, in term order
pub record Values : Type 0 where
  pub predicate : ℕ
  pub values : List ℕ

-- a value that is expected to be a list, and its members if it is one
pub record ListReading : Type 0 where
  pub head : ℕ
  pub members : Option (List ℕ)

pub record Declaration : Type 0 where
  pub node : ℕ
  pub is_node_shape : Bool
  pub is_class : Bool
  -- of each predicate of the vocabulary that the shape has, in the vocabulary's order
  pub values : List Values
  -- of each value of a parameter that expects a list, in the same order
  pub lists : List ListReading
  -- of the first value of sh:path in term order
  pub path : Option RouteReading

-- ---- what a declaration says of one predicate

abbrev pub values_among : List Values → ℕ → List ℕ
values_among [] p = []
values_among (row ∷ rows) p = if row.predicate == p then row.values else values_among rows p

-- its values; none where the shape does not have it
abbrev pub values_under : Declaration → ℕ → List ℕ
values_under d p = values_among d.values p

-- the predicate is a parameter that expects lists
abbrev pub takes_lists : ℕ → Bool
takes_lists p = list_any (λ list_predicate. list_predicate == p) list_predicates

-- how many lists its values are
abbrev pub lists_in : Values → ℕ
lists_in row = if takes_lists row.predicate then length row.values else 0

-- lists stand in the order of the values that head them: behind those of the rows before, as many as values
abbrev pub lists_among : List Values → List ListReading → ℕ → List ListReading
lists_among [] lists p = []
lists_among (row ∷ rows) lists p =
    if row.predicate == p then take (length row.values) lists
    else lists_among rows (drop (lists_in row) lists) p

-- the lists that are its values; none where it is no parameter that expects lists
abbrev pub lists_under : Declaration → ℕ → List ListReading
lists_under d p = if takes_lists p then lists_among d.values d.lists p else []

-- ---- what the graph states of a node

-- the numbers of the vocabulary
unfoldable pub predicates : List ℕ
predicates = range_with_len 0 VOCABULARY_LEN

abbrev pub unless_empty : ℕ → List ℕ → List Values
unless_empty p [] = []
unless_empty p (v ∷ vs) = record { predicate = p; values = v ∷ vs } ∷ []

unfoldable pub values_of : Graph → ℕ → List Values
values_of g node = flat_map (λ p. unless_empty p (objects_of g node p)) predicates

abbrev pub list_reading : Graph → ℕ → ListReading
list_reading g head = record { head = head; members = list_of g head }

unfoldable pub lists_of : Graph → ℕ → List ListReading
lists_of g node = flat_map (λ p. map (list_reading g) (objects_of g node p)) list_predicates

-- the first of a list
abbrev pub least : List ℕ → Option ℕ
least [] = None
least (v ∷ vs) = Some v

unfoldable pub path_of : Limits → Graph → ℕ → Option RouteReading
path_of limits g node = option_map (path_reading limits g) (least (objects_of g node SH_PATH))

abbrev pub declaration_of : Limits → Graph → ℕ → Declaration
declaration_of limits g node = record {
  node = node;
  is_node_shape = is_instance g node SH_NODE_SHAPE;
  is_class = is_instance g node RDFS_CLASS;
  values = values_of g node;
  lists = lists_of g node;
  path = path_of limits g node;
}

unfoldable pub declarations : Limits → Graph → List Declaration
declarations limits g = map (declaration_of limits g) (shape_nodes g)

-- ---- what a declaration of the code says

abbrev pub told_values : Declared → Values
told_values declared = record { predicate = declared.predicate; values = declared.values.items }

abbrev pub told_list : ListValue → ListReading
told_list list = record { head = list.head; members = list.members }

abbrev pub told_decl : ShapeDecl → Declaration
told_decl decl = record {
  node = decl.node;
  is_node_shape = decl.is_node_shape;
  is_class = decl.is_class;
  values = map told_values decl.values.items;
  lists = map told_list decl.lists.items;
  path = option_map told_reading decl.path;
}
