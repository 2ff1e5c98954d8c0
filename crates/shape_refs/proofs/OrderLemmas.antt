-- An order of places, or what stands in its way, says the same of nodes.
use Rattle.std.specs.Prelude.{◌≡◌, ℕ, suc, ◌+◌, ◌-◌, ◌<◌, nat_eq, List, length, map, take, All, Contains, Ok}
use Rattle.std.specs.Prelude.{Vec}
use Rattle.std.specs.declared.alloc.Global.{Global}
use Rattle.std.specs.declared.cmp.Ordering.TheVariants.{Less}
use Rattle.std.specs.List.{IsDistinct}
use Rattle.std.proofs.Common.{refl, sym, ap, ◌∙◌, subst, arith, get_or, inl, inr}
use Rattle.std.proofs.lemmas.Bool.{cases_order, eqb-true}
use Rattle.std.proofs.lemmas.Bool.Decides.{Decides-eqb}
use Rattle.std.proofs.lemmas.Cmp.{tied_itself}
use Rattle.std.proofs.lemmas.List.{get_or-map, get_or_default, length-map, take-map}
use Rattle.std.proofs.lemmas.List.Elements.{Contains-get_or}
use Rattle.std.proofs.lemmas.Map.Keys.{Less-from_sorted}
use Rattle.std.proofs.lemmas.Map.Made.{AllPairs-from_IsDistinct, IsDistinct-from_AllPairs}
use Rattle.std.proofs.lemmas.Simd.{map-map}
use Rattle.shx_term.specs.declared.term.Term.{Term}
use Rattle.shx_term.specs.IdOrder.{id_cmp}
use Rattle.shx_term.specs.Members.{SameMembers}
use Rattle.shx_term.proofs.IdOrderLemmas.{id_cmp_total}
use Rattle.shx_term.proofs.MemberLemmas.{All_of_each, Contains-map, Contains-from_map}
use Rattle.shape_decl.specs.declared.declaration.ShapeDecl.{ShapeDecl}
use Rattle.shape_decl.specs.Declarations.{Declaration, told_decl}
use Rattle.shape_decl.proofs.DistinctLemmas.{distinct_in_order}
use Rattle.shape_order.specs.Chain.{IsCycle, IsLeastCycle, IsRecursive}
use Rattle.shape_order.specs.Levels.{HasSteps}
use Rattle.shape_order.specs.Order.{HasEach, IsOrdered}
use Rattle.shape_order.specs.Outcome.{IsExact, IsNumbering}
use Rattle.shape_order.specs.Outcome as places
use Rattle.shape_order.specs.Refs.{IsWithin, Refers, refs_of}
use Rattle.shape_order.specs.declared.ordering.Numbering.{Numbering}
use Rattle.shape_refs.specs.declared.declared.Declared.{Declared}
use Rattle.shape_refs.specs.Order.{IsShapeOrder, NameDeclared, StandInOrder, nodes_declared}
use Rattle.shape_refs.specs.Outcome.{AreInReach, IsLeastRecursive, IsLeastTooDeep, IsWithoutCycle}
use Rattle.shape_refs.specs.References.{references_of, refers_to}
use Rattle.shape_refs.specs.inner.Places.{nodes_at, places_of}
use Rattle.shape_refs.proofs.CarriedLemmas.{recursive_carried, steps_carried}
use Rattle.shape_refs.proofs.NodeLemmas.{IsOf, ReferAlike, StandsAt, one_node, one_place, refer_alike, stands}
use Rattle.shape_refs.proofs.NodeLemmas.{stands_of}

module _ (to other : ℕ → List ℕ) (nodes : List ℕ) (alike : ReferAlike to other nodes) where
  abbrev node : ℕ → ℕ
  node i = get_or nodes i 0

  pub within_nodes : IsWithin to (length nodes)
  within_nodes = record {
    each = λ i j r. (alike.forth.step i (node i) j (stands nodes i (alike.placed i j r)) r).1.within;
  }

  refers_nodes : (x y i j : ℕ) → x ≡ node i → y ≡ node j → Refers to i j → Refers other x y
  refers_nodes x y i j from into r =
      let next = alike.forth.step i (node i) j (stands nodes i (alike.placed i j r)) r in
      subst (λ w. Refers other w y) (sym from)
      (subst (Refers other (node i)) (sym (into ∙ next.1.is)) next.2)

  -- ---- shapes that reach themselves, and chains

  recursive_node : (i : ℕ) → IsRecursive to i → IsRecursive other (node i)
  recursive_node i longer =
      recursive_carried to other (StandsAt nodes) alike.forth (one_node nodes) i (node i)
      (stands nodes i (alike.placed i longer.0 longer.1)) longer

  recursive_place : (x : ℕ) → IsRecursive other x → (i : ℕ) × StandsAt nodes i x × IsRecursive to i
  recursive_place x longer =
      let place = alike.declared x longer.0 longer.1 in (
        place.0,
        place.1,
        recursive_carried other to (IsOf nodes) alike.back (one_place nodes alike.distinct) x place.0 place.1
            longer,
      )

  deep_node : (k i : ℕ) → HasSteps to (suc k) i → HasSteps other (suc k) (node i)
  deep_node k i steps =
      steps_carried to other (StandsAt nodes) alike.forth (suc k) i (node i)
      (stands nodes i (alike.placed i steps.0 steps.1)) steps

  deep_place : (k x : ℕ) → HasSteps other (suc k) x → (i : ℕ) × StandsAt nodes i x × HasSteps to (suc k) i
  deep_place k x steps =
      let place = alike.declared x steps.0 steps.1 in (
        place.0,
        place.1,
        steps_carried other to (IsOf nodes) alike.back (suc k) x place.0 place.1 steps,
      )

  -- ---- lists of places, and of their nodes

  node_of : (xs : List ℕ) (k : ℕ) → k < length xs → get_or (map node xs) k 0 ≡ node (get_or xs k 0)
  node_of xs k h = get_or-map node xs k 0 0 h

  pub nodes_distinct : (xs : List ℕ) → IsDistinct nat_eq xs
      → ((k : ℕ) → k < length xs → get_or xs k 0 < length nodes) → IsDistinct nat_eq (map node xs)
  nodes_distinct xs distinct within =
      IsDistinct-from_AllPairs Decides-eqb (map node xs) (λ i j d below inside e.
      let long = length-map xs node in
      let near : j < length xs = omega arith in
      let before : i < length xs = omega arith in
      let first = get_or xs i 0 in
      let second = get_or xs j 0 in
      let same : node first ≡ node second = sym (get_or-map node xs i 0 d before) ∙ e
      ∙ get_or-map node xs j 0 d near in
      AllPairs-from_IsDistinct Decides-eqb xs distinct i j 0 below near
      (one_place nodes alike.distinct (node second) first second
      (record { within = within i before; is = same }) (stands nodes second (within j near))))

  turns_within : (cycle : List ℕ) (start : ℕ) → IsCycle to start cycle → (k : ℕ) → k < length cycle
      → get_or cycle k 0 < length nodes
  turns_within cycle start is k h = elim (cases_order (k + 1) (length cycle)) [
    | inl e ↦
        let last : length cycle - 1 ≡ k = omega arith in
        subst (λ i. get_or cycle i 0 < length nodes) last
        (alike.placed (get_or cycle (length cycle - 1) 0) start is.closed)
    | inr (inl more) ↦ alike.placed (get_or cycle k 0) (get_or cycle (k + 1) 0) (is.trail.steps k more)
    | inr (inr none) ↦ absurd (omega arith)
  ]

  cycle_nodes : (cycle : List ℕ) (start : ℕ) → IsCycle to start cycle
      → IsCycle other (node start) (map node cycle)
  cycle_nodes cycle start is =
      let long = length-map cycle node in
      let filled = is.filled in
      let last = length cycle - 1 in
      let ends : last < length cycle = omega arith in
      record {
        filled = omega arith;
        first = node_of cycle 0 filled ∙ ap node is.first;
        distinct = nodes_distinct cycle is.distinct (turns_within cycle start is);
        trail = record {
          steps = λ k h.
              let more : k + 1 < length cycle = omega arith in
              let here : k < length cycle = omega arith in
              refers_nodes (get_or (map node cycle) k 0) (get_or (map node cycle) (k + 1) 0)
              (get_or cycle k 0) (get_or cycle (k + 1) 0) (node_of cycle k here) (node_of cycle (k + 1) more)
              (is.trail.steps k more);
        };
        closed =
            refers_nodes (get_or (map node cycle) (length (map node cycle) - 1) 0) (node start)
            (get_or cycle last 0) start
            (ap (λ n. get_or (map node cycle) (n - 1) 0) long ∙ node_of cycle last ends) refl is.closed;
      }

  module _ (order : List ℕ) (each : HasEach (length nodes) order) where
    ordered_nodes : IsOrdered to order → IsOrdered other (map node order)
    ordered_nodes ordered = record {
      behind = λ k h y r.
          let long = length-map order node in
          let near : k < length order = omega arith in
          let i = get_or order k 0 in
          let here = stands nodes i ((each.each i).0 (Contains-get_or order k 0 near)) in
          let step = alike.back.step (node i) i y here
          (subst (λ x. Refers other x y) (node_of order k near) r) in
          let front = ordered.behind k near step.0 step.2 in
          subst (Contains (take k (map node order))) step.1.is
          (subst (λ (ys : List ℕ). Contains ys (node step.0)) (sym (take-map node k order))
          (Contains-map node (take k order) step.0 front));
    }

    same_nodes : SameMembers (map node order) nodes
    same_nodes = record {
      each = λ x. (
        λ c.
            let found = Contains-from_map node order x c in
            subst (Contains nodes) (sym found.2)
            (Contains-get_or nodes found.0 0 ((each.each found.0).0 found.1)),
        λ c.
            subst (Contains (map node order)) (stands_of nodes x c).is
            (Contains-map node order c.0 ((each.each c.0).1 c.1)),
      );
    }

    pub each_within : (k : ℕ) → k < length order → get_or order k 0 < length nodes
    each_within k h = (each.each (get_or order k 0)).0 (Contains-get_or order k 0 h)

-- ---- the rows of places that are put in order

pub record AreRows (terms : List Term) (decls : List ShapeDecl) (rows : List (Vec ℕ Global)) : Type 0 where
  pub ascending : StandInOrder terms (map told_decl decls)
  pub named : NameDeclared (map told_decl decls)
  pub told : map (λ (row : Vec ℕ Global). row.items) rows
      ≡ map (λ d. places_of (map told_decl decls) (references_of terms (map told_decl decls) d))
      (map told_decl decls)

pub are_rows : (declared : Declared) {rows refs : List (Vec ℕ Global)}
    → StandInOrder declared.pool.now.terms (map told_decl declared.decls.now)
    → NameDeclared (map told_decl declared.decls.now) → rows ≡ refs
    → map (λ (row : Vec ℕ Global). row.items) refs ≡ map
    (λ d. places_of (map told_decl declared.decls.now)
    (references_of declared.pool.now.terms (map told_decl declared.decls.now) d))
    (map told_decl declared.decls.now)
    → AreRows declared.pool.now.terms declared.decls.now rows
are_rows declared ascending named same told = record {
  ascending = ascending;
  named = named;
  told = ap (map (λ (row : Vec ℕ Global). row.items)) same ∙ told;
}

module _ (decls : List ShapeDecl) where
  nodes_told : nodes_declared (map told_decl decls) ≡ map (λ (d : ShapeDecl). d.node) decls
  nodes_told = map-map (λ (d : Declaration). d.node) told_decl decls

  pub node_told : (place : ℕ) (d : ShapeDecl) → place < length decls
      → get_or (nodes_declared (map told_decl decls)) place 0 ≡ (get_or decls place d).node
  node_told place d inside =
      ap (λ (nodes : List ℕ). get_or nodes place 0) nodes_told
      ∙ get_or-map (λ (d : ShapeDecl). d.node) decls place d 0 inside

module _ {terms : List Term} {decls : List ShapeDecl} {rows : List (Vec ℕ Global)}
    (known : AreRows terms decls rows) where
  abbrev ds : List Declaration
  ds = map told_decl decls

  abbrev nodes : List ℕ
  nodes = nodes_declared ds

  abbrev to : ℕ → List ℕ
  to = refs_of rows

  abbrev refers : ℕ → List ℕ
  refers = refers_to terms ds

  alike : ReferAlike to refers nodes
  alike =
      let distinct = distinct_in_order (id_cmp terms) (id_cmp_total terms) nat_eq eqb-true nodes
      known.ascending in
      refer_alike terms ds known.named distinct rows known.told

  nodes_count : length nodes ≡ length decls
  nodes_count = ap length (nodes_told decls) ∙ length-map decls (λ (d : ShapeDecl). d.node)

  rows_count : length rows ≡ length nodes
  rows_count =
      sym (length-map rows (λ (row : Vec ℕ Global). row.items)) ∙ ap length known.told
      ∙ length-map ds (λ (d : Declaration). places_of ds (references_of terms ds d))
      ∙ sym (length-map ds (λ (d : Declaration). d.node))

  pub rows_within : IsWithin to (length rows)
  rows_within = subst (IsWithin to) (sym rows_count) (within_nodes to refers nodes alike)

  none_told : ((i : ℕ) → IsRecursive to i → ⊥) → IsWithoutCycle terms ds
  none_told none = record {
    none = λ x longer.
        let place = recursive_place to refers nodes alike x longer in
        none place.0 place.2;
  }

  -- ---- an order

  module _ (limit : ℕ) (n : Numbering) (is : IsNumbering to (length rows) limit n) (places : List ℕ)
      (are : places ≡ n.order.items) where
    each_place : HasEach (length nodes) places
    each_place = subst (HasEach (length nodes)) (sym are)
        (subst (λ count. HasEach count n.order.items) rows_count is.each)

    pub order_within : All (λ place. place < length decls) places
    order_within = All_of_each (λ place. place < length decls) places (λ place c.
        subst (λ count. place < count) nodes_count ((each_place.each place).0 c))

    pub order_distinct : IsDistinct nat_eq (nodes_at ds places)
    order_distinct =
        nodes_distinct to refers nodes alike places (subst (IsDistinct nat_eq) (sym are) is.distinct)
        (each_within to refers nodes alike places each_place)

    module _ (keys : List ℕ) (told : keys ≡ nodes_at ds places) where
      pub order_told : IsShapeOrder terms ds keys
      order_told = subst (IsShapeOrder terms ds) (sym told) (record {
        declared = same_nodes to refers nodes alike places each_place;
        once = order_distinct;
        behind = ordered_nodes to refers nodes alike places each_place
            (subst (IsOrdered to) (sym are) is.ordered);
      })

      pub order_count : length keys ≡ length decls
      order_count =
          ap length told ∙ length-map places (λ place. get_or nodes place 0) ∙ ap length are ∙ is.long
          ∙ rows_count ∙ nodes_count

  pub reach_told : (limit : ℕ) (n : Numbering) → IsExact to limit (Ok n) → AreInReach limit terms ds
  reach_told limit n exact =
      let none = λ (i : ℕ) (longer : IsRecursive to i). exact.recursive.1 (i, longer) in
      record {
        cycles = none_told none;
        shallow = λ x steps.
            let place = deep_place to refers nodes alike limit x steps in
            exact.too_deep.1 (none, (place.0, place.2));
      }

  -- ---- what stands in its way

  -- the places of nodes rise as their terms do
  lower : (i j x y : ℕ) → StandsAt nodes i x → StandsAt nodes j y → id_cmp terms x y ≡ Less → i < j
  lower i j x y a b less =
      let total = id_cmp_total terms in
      elim (cases_order i j) [
        | inl e ↦
            let same : y ≡ x = sym b.is ∙ ap (λ k. get_or nodes k 0) (sym e) ∙ a.is in
            let tied = tied_itself total x in
            let below = subst (λ z. id_cmp terms x z ≡ Less) same less in
            absurd (cc)
        | inr (inl below) ↦ below
        | inr (inr above) ↦
            let other = Less-from_sorted (id_cmp terms) nodes j i 0 known.ascending above a.within in
            let turned : id_cmp terms y x ≡ Less =
            subst (λ z. id_cmp terms y z ≡ Less) a.is
            (subst (λ z. id_cmp terms z (get_or nodes i 0) ≡ Less) b.is other) in
            let back = total.antisymm x y in
            absurd (cc)
      ]

  module _ (cycle : List ℕ) (is : IsLeastCycle to cycle) where
    pub cycle_within : All (λ place. place < length decls) cycle
    cycle_within k d h =
        let inside = turns_within to refers nodes alike cycle (get_or cycle 0 0) is.cycle k h in
        subst (λ place. place < length decls) (get_or_default cycle k 0 d h)
        (subst (λ count. get_or cycle k 0 < count) nodes_count inside)

    pub cycle_told : IsLeastRecursive terms ds (nodes_at ds cycle)
    cycle_told =
        let start = get_or cycle 0 0 in
        let first = node_of to refers nodes alike cycle 0 is.cycle.filled in
        let here = stands nodes start (alike.placed start is.recursive.0 is.recursive.1) in
        record {
          cycle = subst (λ s. IsCycle refers s (nodes_at ds cycle)) (sym first)
              (cycle_nodes to refers nodes alike cycle start is.cycle);
          recursive = subst (IsRecursive refers) (sym first)
              (recursive_node to refers nodes alike start is.recursive);
          least = λ n less longer.
              let place = recursive_place to refers nodes alike n longer in
              let below = lower place.0 start n (get_or nodes start 0) place.1 here
              (subst (λ s. id_cmp terms n s ≡ Less) first less) in
              is.least place.0 below place.2;
        }

  module _ (limit shape : ℕ) (is : places.IsLeastTooDeep to limit shape) where
    pub deep_within : shape < length decls
    deep_within = subst (λ count. shape < count) nodes_count (alike.placed shape is.deep.0 is.deep.1)

    pub deep_told : (node : ℕ) → get_or nodes shape 0 ≡ node → IsLeastTooDeep limit terms ds node
    deep_told node stands_there =
        let here : StandsAt nodes shape node =
        record { within = alike.placed shape is.deep.0 is.deep.1; is = stands_there } in
        record {
          cycles = none_told is.none;
          deep = subst (HasSteps refers (suc limit)) stands_there
              (deep_node to refers nodes alike limit shape is.deep);
          least = λ n less steps.
              let place = deep_place to refers nodes alike limit n steps in
              is.least place.0 (lower place.0 shape n node place.1 here less) place.2;
        }
