-- What a graph declares depends on which triples it holds, and not on their order: all that is declared is
-- made of look-ups, so the parts of it are the same one by one.
use Rattle.std.specs.Prelude.{◌≡◌, ℕ, ◌+◌, ◌==◌, zero, suc, nat_eq, nat_lt, ◌||◌, List, [], ◌∷◌, ◌++◌}
use Rattle.std.specs.Prelude.{map, filter, flat_map, length, slice_get, Option, Some, None, if◌then◌else◌}
use Rattle.std.specs.List.{list_any, IsDistinct}
use Rattle.std.specs.Option.{option_map}
use Rattle.std.proofs.Common.{refl, ap, ◌∙◌}
use Rattle.shx_term.specs.declared.limits.Limits.{Limits}
use Rattle.shx_term.specs.declared.term.Term.{Term}
use Rattle.shx_term.specs.declared.term.Term.TheVariants.{Iri, Blank, Lit}
use Rattle.shx_term.specs.declared.triple.Triple.{Triple}
use Rattle.shx_term.specs.declared.vocabulary.TheConstants.{RDF_FIRST, RDF_REST, RDF_NIL, RDFS_CLASS}
use Rattle.shx_term.specs.declared.vocabulary.TheConstants.{SH_NODE_SHAPE, SH_PATH, SH_SPARQL}
use Rattle.shx_term.specs.declared.vocabulary.TheConstants.{SH_ALTERNATIVE_PATH, SH_INVERSE_PATH}
use Rattle.shx_term.specs.declared.vocabulary.TheConstants.{SH_ZERO_OR_MORE_PATH, SH_ONE_OR_MORE_PATH}
use Rattle.shx_term.specs.declared.vocabulary.TheConstants.{SH_ZERO_OR_ONE_PATH}
use Rattle.shx_term.specs.IdOrder.{in_term_order}
use Rattle.shx_term.specs.Members.{SameMembers}
use Rattle.shx_term.specs.TermKinds.{is_node}
use Rattle.shx_term.specs.Triple.{same_triple}
use Rattle.shx_term.specs.TripleOrder.{in_triple_order}
use Rattle.shx_term.proofs.SetLemmas.{SameMembers-filter}
use Rattle.graph_view.specs.declared.key.Key.{Key}
use Rattle.graph_view.specs.declared.key.Key.TheVariants.{In, Subject, Predicate}
use Rattle.graph_view.specs.Graph.{Graph, objects_of, subjects_of, triples_of, triples_with}
use Rattle.graph_view.specs.Key.{is_touching, look}
use Rattle.graph_view.specs.SameGraph.{SameGraph}
use Rattle.graph_view.proofs.SameGraphLemmas.{IsDistinct-filter, length-same, numbers_same, objects_of-same}
use Rattle.graph_view.proofs.SameGraphLemmas.{triples_same}
use Rattle.path_eval.specs.declared.direction.Direction.{Direction}
use Rattle.path_eval.specs.declared.direction.Direction.TheVariants.{Forward, Backward}
use Rattle.path_eval.specs.Instances.{instance_route, is_instance}
use Rattle.path_eval.specs.Relation.{opposite, step_key}
use Rattle.path_eval.specs.Route.{Route, along, here, first_then, none, one_or_other, turned, any_times}
use Rattle.path_eval.specs.Route.{some_times, perhaps}
use Rattle.path_eval.specs.Values.{nodes_reached}
use Rattle.path_eval.specs.Way.{way, stay, either, then_by, repeated, closed, step_to}
use Rattle.shape_decl.specs.declared.path_fault.PathFault.TheVariants as fault
use Rattle.shape_decl.specs.Declarations.{declaration_of, declarations, least, lists_of, path_of}
use Rattle.shape_decl.specs.Declarations.{predicates, unless_empty, values_of}
use Rattle.shape_decl.specs.Lists.{cell_at, cell_of, list_of, members_within}
use Rattle.shape_decl.specs.PathForms.{Inverse, Alternative, ZeroOrMore, OneOrMore, ZeroOrOne}
use Rattle.shape_decl.specs.PathForms.{Sequence, Formless, form_by_triple, form_by_triples, form_of}
use Rattle.shape_decl.specs.PathForms.{form_of_term, parts_in, several}
use Rattle.shape_decl.specs.PathReadings.{Met, fault_of, fault_of_form, parts_or_fault, path_reading}
use Rattle.shape_decl.specs.PathReadings.{read_unless, route_at, route_by, unfolded, unless_fault}
use Rattle.shape_decl.specs.Shapes.{candidates, members_or_none, members_with, shape_classes}
use Rattle.shape_decl.specs.Shapes.{shape_nodes}
use Rattle.shape_decl.specs.Tables.{list_predicates, shape_list_predicates, shape_predicates}
use Rattle.shape_decl.specs.Tables.{subject_predicates}
use Rattle.shape_check.specs.Faults.{faults, graph_faults}

module _ (g h : Graph) (same : SameGraph g h) where
  -- ---- look-ups

  found_same : (key : Key) → SameMembers (look g.triples key) (look h.triples key)
  found_same key = SameMembers-filter (λ t. is_touching t key) g.triples h.triples same.triples

  ordered_same : (key : Key)
      → in_triple_order g.terms (look g.triples key) ≡ in_triple_order h.terms (look h.triples key)
  ordered_same key =
      triples_same g.terms (look g.triples key) (look h.triples key) (found_same key)
      ∙ ap (λ terms. in_triple_order terms (look h.triples key)) same.terms

  objects_same : (s p : ℕ) → objects_of g s p ≡ objects_of h s p
  objects_same s p = objects_of-same g h same s p

  subjects_same : (p o : ℕ) → subjects_of g p o ≡ subjects_of h p o
  subjects_same p o =
      let there = look h.triples (In p o) in
      numbers_same g.terms (look g.triples (In p o)) there (found_same (In p o)) (λ t. t.s)
      ∙ ap (λ terms. in_term_order terms (map (λ t. t.s) there)) same.terms

  of_same : (s : ℕ) → triples_of g s ≡ triples_of h s
  of_same s = ordered_same (Subject s)

  with_same : (p : ℕ) → triples_with g p ≡ triples_with h p
  with_same p = ordered_same (Predicate p)

  -- ---- paths

  step_same : (d : Direction) (p x : ℕ) → step_to g d p x ≡ step_to h d p x
  step_same Forward p x = objects_same x p
  step_same Backward p x = subjects_same p x

  way_same : (d : Direction) (route : Route) → way g d route ≡ way h d route
  way_same d (along p) = λ i. record { to = λ x. step_same d p x i; reads = λ x. step_key d p x ∷ [] }
  way_same d here = refl
  way_same Forward (first_then a b) = λ i. then_by (way_same Forward a i) (way_same Forward b i)
  way_same Backward (first_then a b) = λ i. then_by (way_same Backward b i) (way_same Backward a i)
  way_same d none = refl
  way_same d (one_or_other a b) = λ i. either (way_same d a i) (way_same d b i)
  way_same d (turned a) = way_same (opposite d) a
  way_same d (any_times a) = λ i. closed (length (same.terms i)) (way_same d a i)
  way_same d (some_times a) = λ i. repeated (length (same.terms i)) (way_same d a i)
  way_same d (perhaps a) = λ i. either stay (way_same d a i)

  pub nodes_reached-same : (d : Direction) (route : Route) (x : ℕ)
      → nodes_reached g d route x ≡ nodes_reached h d route x
  nodes_reached-same d route x = λ i. in_term_order (same.terms i) ((way_same d route i).to x)

  pub is_instance-same : (node class : ℕ) → is_instance g node class ≡ is_instance h node class
  is_instance-same node class = ap (list_any (nat_eq class)) (nodes_reached-same Forward instance_route node)

  -- ---- lists

  cell_same : (node : ℕ) → cell_at g node ≡ cell_at h node
  cell_same node =
      λ i. cell_of (node == RDF_NIL) (objects_same node RDF_FIRST i) (objects_same node RDF_REST i)

  pub list_of-same : (head : ℕ) → list_of g head ≡ list_of h head
  unfolding list_of
  list_of-same head = λ i. members_within (suc (same.count i)) (λ node. cell_same node i) head

  -- ---- forms of paths

  by_triple_same : (t : Triple) → form_by_triple g t ≡ form_by_triple h t
  by_triple_same t =
      λ i.
      if t.p == SH_INVERSE_PATH then Inverse t.o
      else if t.p == SH_ALTERNATIVE_PATH then several Alternative (list_of-same t.o i) Formless
      else if t.p == SH_ZERO_OR_MORE_PATH then ZeroOrMore t.o
      else if t.p == SH_ONE_OR_MORE_PATH then OneOrMore t.o
      else if t.p == SH_ZERO_OR_ONE_PATH then ZeroOrOne t.o
      else Formless

  by_triples_same : (triples : List Triple) → form_by_triples g triples ≡ form_by_triples h triples
  by_triples_same [] = refl
  by_triples_same (t ∷ []) = by_triple_same t
  by_triples_same (t ∷ (u ∷ triples)) = refl

  by_term_same : (node : ℕ) (term : Option Term) → form_of_term g node term ≡ form_of_term h node term
  by_term_same node (Some (Iri iri)) = refl
  by_term_same node (Some (Blank name)) =
      ap (λ triples. several Sequence (list_of g node) (form_by_triples g triples)) (of_same node)
      ∙ (λ i. several Sequence (list_of-same node i) (by_triples_same (triples_of h node) i))
  by_term_same node (Some (Lit literal)) = refl
  by_term_same node None = refl

  pub form_of-same : (node : ℕ) → form_of g node ≡ form_of h node
  unfolding form_of
  form_of-same node =
      by_term_same node (slice_get g.terms node)
      ∙ ap (λ terms. form_of_term h node (slice_get terms node)) same.terms

  -- ---- readings of paths

  unfolded_same : (levels depth node : ℕ) → unfolded g levels depth node ≡ unfolded h levels depth node
  unfolded_same zero depth node = refl
  unfolded_same (suc levels) depth node =
      λ i.
      record { node = node; depth = depth }
      ∷ flat_map (λ inside. unfolded_same levels (depth + 1) inside i) (parts_in (form_of-same node i))

  fault_same : (limits : Limits) (before : ℕ) (met : Met)
      → fault_of limits g before met ≡ fault_of limits h before met
  fault_same limits before met =
      λ i.
      if nat_lt limits.path_depth met.depth || nat_lt limits.path_parts (before + 1)
      then Some fault.TooDeep
      else fault_of_form (form_of-same met.node i)

  parts_same : (limits : Limits) (before : ℕ) (mets : List Met)
      → parts_or_fault limits g before mets ≡ parts_or_fault limits h before mets
  parts_same limits before [] = refl
  parts_same limits before (met ∷ more) =
      λ i. unless_fault (fault_same limits before met i) (parts_same limits (before + 1) more i)

  route_same : (levels node : ℕ) → route_at g levels node ≡ route_at h levels node
  route_same zero node = refl
  route_same (suc levels) node =
      λ i. route_by (λ inside. route_same levels inside i) node (form_of-same node i)

  pub path_reading-same : (limits : Limits) (head : ℕ)
      → path_reading limits g head ≡ path_reading limits h head
  path_reading-same limits head =
      let levels = suc limits.path_depth in
      ap (read_unless (route_at g limits.path_depth head))
      (parts_same limits 0 (unfolded g levels 1 head)
      ∙ ap (parts_or_fault limits h 0) (unfolded_same levels 1 head))
      ∙ ap (λ route. read_unless route (parts_or_fault limits h 0 (unfolded h levels 1 head)))
      (route_same limits.path_depth head)

  -- ---- shapes

  members_same : (p : ℕ) → members_with g p ≡ members_with h p
  members_same p = λ i. flat_map (λ t. members_or_none (list_of-same t.o i)) (with_same p i)

  candidates_same : candidates g ≡ candidates h
  candidates_same =
      λ i.
      flat_map (λ class. nodes_reached-same Backward instance_route class i) shape_classes
      ++ (flat_map (λ p. map (λ t. t.s) (with_same p i)) subject_predicates
      ++ (flat_map (λ p. map (λ t. t.o) (with_same p i)) shape_predicates
      ++ flat_map (λ p. members_same p i) shape_list_predicates))

  pub shape_nodes-same : shape_nodes g ≡ shape_nodes h
  unfolding shape_nodes
  shape_nodes-same = λ i. in_term_order (same.terms i) (filter (is_node (same.terms i)) (candidates_same i))

  -- ---- declarations

  values_same : (node : ℕ) → values_of g node ≡ values_of h node
  unfolding values_of
  values_same node = λ i. flat_map (λ p. unless_empty p (objects_same node p i)) predicates

  lists_same : (node : ℕ) → lists_of g node ≡ lists_of h node
  unfolding lists_of
  lists_same node =
      λ i.
      flat_map
      (λ p. map (λ head. record { head = head; members = list_of-same head i }) (objects_same node p i))
      list_predicates

  path_same : (limits : Limits) (node : ℕ) → path_of limits g node ≡ path_of limits h node
  unfolding path_of
  path_same limits node =
      λ i. option_map (λ head. path_reading-same limits head i) (least (objects_same node SH_PATH i))

  declaration_same : (limits : Limits) (node : ℕ)
      → declaration_of limits g node ≡ declaration_of limits h node
  declaration_same limits node = λ i. record {
    node = node;
    is_node_shape = is_instance-same node SH_NODE_SHAPE i;
    is_class = is_instance-same node RDFS_CLASS i;
    values = values_same node i;
    lists = lists_same node i;
    path = path_same limits node i;
  }

pub declarations_same : (limits : Limits) (g h : Graph) → SameGraph g h
    → declarations limits g ≡ declarations limits h
unfolding declarations
declarations_same limits g h same =
    λ i. map (λ node. declaration_same g h same limits node i) (shape_nodes-same g h same i)

pub graph_faults_same : (limits : Limits) (g h : Graph) → SameGraph g h
    → graph_faults limits g ≡ graph_faults limits h
graph_faults_same limits g h same = λ i. faults limits (same.terms i) (declarations_same limits g h same i)

-- as many triples have a predicate, where each stands once
pub length-with_same : (g h : Graph) → SameGraph g h → IsDistinct same_triple g.triples
    → IsDistinct same_triple h.triples → (p : ℕ)
    → length (look g.triples (Predicate p)) ≡ length (look h.triples (Predicate p))
length-with_same g h same distinct distinct' p =
    let key = Predicate p in
    length-same (look g.triples key) (look h.triples key) (found_same g h same key)
    (IsDistinct-filter (λ t. is_touching t key) same_triple g.triples distinct)
    (IsDistinct-filter (λ t. is_touching t key) same_triple h.triples distinct')

pub sparql_same : (g h : Graph) → SameGraph g h → IsDistinct same_triple g.triples
    → IsDistinct same_triple h.triples
    → length (look g.triples (Predicate SH_SPARQL)) ≡ length (look h.triples (Predicate SH_SPARQL))
sparql_same g h same distinct distinct' = length-with_same g h same distinct distinct' SH_SPARQL
