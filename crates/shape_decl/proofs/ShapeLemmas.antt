-- The nodes that are declared are the shapes: what is gathered is what is a shape by one of the four causes.
use Rattle.std.specs.Prelude.{◌≡◌, ℕ, List, ◌++◌, map, flat_map, filter, Some, None}
use Rattle.std.specs.Prelude.{Contains, ◌↔◌, ◌⊎◌}
use Rattle.std.proofs.Common.{refl, sym, subst, inl, inr}
use Rattle.std.proofs.lemmas.List.Elements.{Contains-append_left, Contains-append_right}
use Rattle.std.proofs.lemmas.List.Elements.{Contains-append_cases}
use Rattle.shx_term.specs.declared.triple.Triple.{Triple}
use Rattle.shx_term.specs.IdOrder.{id_cmp, in_term_order}
use Rattle.shx_term.specs.InOrder.{Lists}
use Rattle.shx_term.proofs.IdOrderLemmas.{in_term_order_lists, in_term_order_same}
use Rattle.shx_term.proofs.MemberLemmas.{none_in_empty, Contains-map, Contains-from_map, Contains-flat_map}
use Rattle.shx_term.proofs.MemberLemmas.{Contains-from_flat_map, Contains-filter, Contains-from_filter}
use Rattle.graph_view.specs.Graph.{Graph, AllKnown, triples_with}
use Rattle.graph_view.proofs.LookUpLemmas.{Contains-triples_with}
use Rattle.path_eval.specs.declared.direction.Direction.TheVariants.{Backward}
use Rattle.path_eval.specs.Instances.{instance_route}
use Rattle.path_eval.specs.Values.{nodes_reached}
use Rattle.path_eval.proofs.MeetsLemmas.{path_lists}
use Rattle.shape_decl.specs.Lists.{IsList, list_of}
use Rattle.shape_decl.specs.Shapes.{IsOfShapeClass, IsShapeSubject, IsShapeValue, IsShapeMember, IsShape}
use Rattle.shx_term.specs.TermKinds.{is_node}
use Rattle.shape_decl.specs.Shapes.{candidates, members_or_none, members_with, objects_with}
use Rattle.shape_decl.specs.Shapes.{shape_classes, shape_nodes, subjects_with}
use Rattle.shape_decl.specs.Tables.{shape_list_predicates, shape_predicates, subject_predicates}
use Rattle.shape_decl.specs.inner.Gathered.{gathered, heads, members_at}
use Rattle.shape_decl.proofs.ListLemmas.{lists_read}

either_told : {P Q : Type 0} (xs ys : List ℕ) (n : ℕ) → Contains xs n ↔ P → Contains ys n ↔ Q
    → Contains (xs ++ ys) n ↔ (P ⊎ Q)
either_told xs ys n first second = (
  λ c. elim (Contains-append_cases xs ys n c) [ inl d ↦ inl (first.0 d) | inr d ↦ inr (second.0 d) ],
  λ h. elim h [
    | inl p ↦ Contains-append_left xs ys n (first.1 p)
    | inr q ↦ Contains-append_right xs ys n (second.1 q)
  ],
)

either_alike : (xs ys zs : List ℕ) (n : ℕ) → Contains ys n ↔ Contains zs n
    → Contains (xs ++ ys) n ↔ Contains (xs ++ zs) n
either_alike xs ys zs n same = (
  λ c. elim (Contains-append_cases xs ys n c) [
    | inl d ↦ Contains-append_left xs zs n d
    | inr d ↦ Contains-append_right xs zs n (same.0 d)
  ],
  λ c. elim (Contains-append_cases xs zs n c) [
    | inl d ↦ Contains-append_left xs ys n d
    | inr d ↦ Contains-append_right xs ys n (same.1 d)
  ],
)

-- ---- by a triple whose predicate is in a table

-- a triple makes n a shape, in the way that P says
abbrev IsByTriple : Graph → List ℕ → (Triple → Type 0) → Type 0
IsByTriple g table P = (t : Triple) × Contains g.triples t × Contains table t.p × P t

module _ (g : Graph) (n : ℕ) (table : List ℕ) where
  by_triple : (f : ℕ → List ℕ) (P : Triple → Type 0)
      → ((p : ℕ) → Contains (f p) n ↔ ((t : Triple) × Contains (triples_with g p) t × P t))
      → Contains (flat_map f table) n ↔ IsByTriple g table P
  by_triple f P told = (
    λ c.
        let found = Contains-from_flat_map f table n c in
        let made = (told found.0).0 found.2 in
        let held = (Contains-triples_with g found.0 made.0).0 made.1 in
        (made.0, held.0, subst (Contains table) (sym held.1) found.1, made.2),
    λ is.
        let p = is.0.p in
        let there = (Contains-triples_with g p is.0).1 (is.1, refl) in
        Contains-flat_map f table p n is.2 ((told p).1 (is.0, there, is.3)),
  )

  with_place : (place : Triple → ℕ)
      → Contains (flat_map (λ p. map place (triples_with g p)) table) n
      ↔ IsByTriple g table (λ t. n ≡ place t)
  with_place place =
      by_triple (λ p. map place (triples_with g p)) (λ t. n ≡ place t) (λ p. (
        λ c. Contains-from_map place (triples_with g p) n c,
        λ h. subst (Contains (map place (triples_with g p))) (sym h.2)
            (Contains-map place (triples_with g p) h.0 h.1),
      ))

  with_members : Contains (flat_map (members_with g) table) n
      ↔ IsByTriple g table (λ t. (members : List ℕ) × IsList g t.o members × Contains members n)
  with_members =
      by_triple (members_with g) (λ t. (members : List ℕ) × IsList g t.o members × Contains members n) (λ p.
      let members = λ (t : Triple). members_or_none (list_of g t.o) in (
        λ c.
            let found = Contains-from_flat_map members (triples_with g p) n c in
            (found.0, found.1, (member found.0.o).0 found.2),
        λ h. Contains-flat_map members (triples_with g p) h.0 n h.1 ((member h.0.o).1 h.2),
      ))
    where
      member : (head : ℕ) → Contains (members_or_none (list_of g head)) n
          ↔ ((members : List ℕ) × IsList g head members × Contains members n)
      member head = (
        elim (list_of g head) as
            (λ found. list_of g head ≡ found → Contains (members_or_none found) n
            → (members : List ℕ) × IsList g head members × Contains members n) [
              | Some members ↦ λ e c. (members, (lists_read g head members).0 e, c)
              | None ↦ λ e c. absurd (none_in_empty n c)
            ] refl,
        λ h. subst (λ found. Contains (members_or_none found) n) (sym ((lists_read g head h.0).1 h.1)) h.2,
      )

-- ---- by any cause

module _ (g : Graph) (known : AllKnown g) where
  of_class : (n : ℕ)
      → Contains (flat_map (nodes_reached g Backward instance_route) shape_classes) n ↔ IsOfShapeClass g n
  of_class n =
      let instances = nodes_reached g Backward instance_route in (
        λ c.
            let found = Contains-from_flat_map instances shape_classes n c in
            record {
              class = found.0;
              is_one = found.1;
              instance = ((path_lists g known Backward instance_route found.0).each n).0 found.2;
            },
        λ is. Contains-flat_map instances shape_classes is.class n is.is_one
            (((path_lists g known Backward instance_route is.class).each n).1 is.instance),
      )

  subject : (n : ℕ) → Contains (flat_map (subjects_with g) subject_predicates) n ↔ IsShapeSubject g n
  subject n =
      let found = with_place g n subject_predicates (λ t. t.s) in (
        λ c. let h = found.0 c in record { triple = h.0; held = h.1; predicate = h.2; is = h.3 },
        λ is. found.1 (is.triple, is.held, is.predicate, is.is),
      )

  value : (n : ℕ) → Contains (flat_map (objects_with g) shape_predicates) n ↔ IsShapeValue g n
  value n =
      let found = with_place g n shape_predicates (λ t. t.o) in (
        λ c. let h = found.0 c in record { triple = h.0; held = h.1; predicate = h.2; is = h.3 },
        λ is. found.1 (is.triple, is.held, is.predicate, is.is),
      )

  member : (n : ℕ) → Contains (flat_map (members_with g) shape_list_predicates) n ↔ IsShapeMember g n
  member n =
      let found = with_members g n shape_list_predicates in (
        λ c.
            let h = found.0 c in
            record {
              triple = h.0;
              held = h.1;
              predicate = h.2;
              members = h.3.0;
              list = h.3.1;
              is = h.3.2;
            },
        λ is. found.1 (is.triple, is.held, is.predicate, (is.members, is.list, is.is)),
      )

  candidate : (n : ℕ) → Contains (candidates g) n
      ↔ (IsOfShapeClass g n ⊎ IsShapeSubject g n ⊎ IsShapeValue g n ⊎ IsShapeMember g n)
  candidate n =
      let subjects = flat_map (subjects_with g) subject_predicates in
      let values = flat_map (objects_with g) shape_predicates in
      let members = flat_map (members_with g) shape_list_predicates in
      either_told (flat_map (nodes_reached g Backward instance_route) shape_classes)
      (subjects ++ (values ++ members)) n (of_class n)
      (either_told subjects (values ++ members) n (subject n)
      (either_told values members n (value n) (member n)))

  pub shapes_listed : Lists (id_cmp g.terms) (IsShape g) (shape_nodes g)
  unfolding shape_nodes
  shapes_listed =
      let kept = filter (is_node g.terms) (candidates g) in
      let ordered = in_term_order_lists g.terms kept in
      record {
        sorted = ordered.sorted;
        each = λ n. (
          λ c.
              let found = Contains-from_filter (is_node g.terms) (candidates g) n ((ordered.each n).0 c) in
              record { node = found.1; cause = (candidate n).0 found.0 },
          λ is. (ordered.each n).1
              (Contains-filter (is_node g.terms) (candidates g) n ((candidate n).1 is.cause) is.node),
        );
      }

-- ---- what is gathered

module _ (g : Graph) (n : ℕ) where
  -- the members of the lists that heads head, each head taken once
  same_members : Contains (flat_map (members_at g) (heads g)) n
      ↔ Contains (flat_map (members_with g) shape_list_predicates) n
  same_members =
      let all = flat_map (objects_with g) shape_list_predicates in
      let once = in_term_order_lists g.terms all in (
        λ c.
            let of_head = Contains-from_flat_map (members_at g) (heads g) n c in
            let head = of_head.0 in
            let of_table =
            Contains-from_flat_map (objects_with g) shape_list_predicates head
            ((once.each head).0 of_head.1) in
            let p = of_table.0 in
            let of_triple = Contains-from_map (λ t. t.o) (triples_with g p) head of_table.2 in
            Contains-flat_map (members_with g) shape_list_predicates p n of_table.1
            (Contains-flat_map (λ (t : Triple). members_at g t.o) (triples_with g p) of_triple.0 n of_triple.1
            (subst (λ h. Contains (members_at g h) n) of_triple.2 of_head.2)),
        λ c.
            let of_table = Contains-from_flat_map (members_with g) shape_list_predicates n c in
            let p = of_table.0 in
            let of_triple =
            Contains-from_flat_map (λ (t : Triple). members_at g t.o) (triples_with g p) n of_table.2 in
            let t = of_triple.0 in
            let held =
            Contains-flat_map (objects_with g) shape_list_predicates p t.o of_table.1
            (Contains-map (λ u. u.o) (triples_with g p) t of_triple.1) in
            Contains-flat_map (members_at g) (heads g) t.o n ((once.each t.o).1 held) of_triple.2,
      )

  same_candidate : Contains (gathered g) n ↔ Contains (candidates g) n
  same_candidate =
      let instances = flat_map (nodes_reached g Backward instance_route) shape_classes in
      let subjects = flat_map (subjects_with g) subject_predicates in
      let values = flat_map (objects_with g) shape_predicates in
      let once = flat_map (members_at g) (heads g) in
      let members = flat_map (members_with g) shape_list_predicates in
      let last = either_alike values once members n same_members in
      let middle = either_alike subjects (values ++ once) (values ++ members) n last in
      either_alike instances (subjects ++ (values ++ once)) (subjects ++ (values ++ members)) n middle

-- so they are the shapes, once they are put in order
pub gathered_shapes : (g : Graph)
    → in_term_order g.terms (filter (is_node g.terms) (gathered g)) ≡ shape_nodes g
unfolding shape_nodes
gathered_shapes g =
    let kept = filter (is_node g.terms) (gathered g) in
    let due = filter (is_node g.terms) (candidates g) in
    in_term_order_same g.terms kept due (λ n. (
      λ c.
          let found = Contains-from_filter (is_node g.terms) (gathered g) n c in
          Contains-filter (is_node g.terms) (candidates g) n ((same_candidate g n).0 found.0) found.1,
      λ c.
          let found = Contains-from_filter (is_node g.terms) (candidates g) n c in
          Contains-filter (is_node g.terms) (gathered g) n ((same_candidate g n).1 found.0) found.1,
    ))
