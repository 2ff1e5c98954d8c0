-- Shapes by their places and by their nodes: what refers to what is the same.
use Rattle.std.specs.Prelude.{◌≡◌, ℕ, zero, suc, ◌<◌, nat_eq, ◌==◌, true, false, List, [], ◌∷◌, length}
use Rattle.std.specs.Prelude.{map, flat_map, filter, not, slice_get, Option, Some, None, Contains, Vec}
use Rattle.std.specs.Prelude.{if◌then◌else◌}
use Rattle.std.specs.List.{IsDistinct, position_or_len}
use Rattle.std.specs.declared.alloc.Global.{Global}
use Rattle.std.proofs.Common.{refl, sym, ap, ◌∙◌, subst, arith, get_or, inl, inr, lt-ltb}
use Rattle.std.proofs.lemmas.Bool.{cases_order, eqb-true, eq-eqb}
use Rattle.std.proofs.lemmas.Bool.Decides.{Decides-eqb}
use Rattle.std.proofs.lemmas.Cmp.{nat_eq_equiv}
use Rattle.std.proofs.lemmas.List.{get_or-map, get_or_default, length-map}
use Rattle.std.proofs.lemmas.List.Elements.{Contains-append_cases, Contains-append_left}
use Rattle.std.proofs.lemmas.List.Quantifiers.{position-Some}
use Rattle.std.proofs.lemmas.Map.Made.{AllPairs-from_IsDistinct}
use Rattle.std.proofs.lemmas.Map.Views.{list_any-from_Contains}
use Rattle.std.proofs.lemmas.Option.{slice_get_cases, slice_get_within, slice_get-get_or}
use Rattle.std.proofs.lemmas.Option.{get_or_from_slice_get}
use Rattle.shx_term.specs.declared.term.Term.{Term}
use Rattle.shx_term.specs.declared.vocabulary.TheConstants.{SH_PROPERTY, SH_QUALIFIED_VALUE_SHAPE}
use Rattle.shx_term.specs.IdOrder.{in_term_order}
use Rattle.shx_term.proofs.HeldLemmas.{place_of_any}
use Rattle.shx_term.proofs.IdOrderLemmas.{in_term_order_lists}
use Rattle.shx_term.proofs.MemberLemmas.{none_in_empty, Contains-one, Contains-flat_map}
use Rattle.shx_term.proofs.MemberLemmas.{Contains-from_flat_map, Contains-filter, Contains-from_filter}
use Rattle.comp_core.specs.TermTests.{is_among}
use Rattle.shape_decl.specs.Declarations.{Declaration, values_under}
use Rattle.shape_decl.specs.Tables.{shape_list_predicates, shape_predicates}
use Rattle.shape_order.specs.Refs.{Refers, refs_of}
use Rattle.shape_order.proofs.LeastLemmas.{refers_below}
use Rattle.shape_refs.specs.Order.{NameDeclared, nodes_declared}
use Rattle.shape_refs.specs.References.{declared_at, has_siblings, members_under, named_by, parents_of}
use Rattle.shape_refs.specs.References.{qualified_within, references_of, refers_to, siblings_of}
use Rattle.shape_refs.specs.inner.Places.{if_any, place_of, places_of}
use Rattle.shape_refs.proofs.CarriedLemmas.{Carries}

-- ---- a place and its node

pub record StandsAt (nodes : List ℕ) (place node : ℕ) : Type 0 where
  pub within : place < length nodes
  pub is : get_or nodes place 0 ≡ node

-- seen from the node
abbrev pub IsOf : List ℕ → ℕ → ℕ → Type 0
IsOf nodes node place = StandsAt nodes place node

module _ (nodes : List ℕ) where
  pub stands : (i : ℕ) → i < length nodes → StandsAt nodes i (get_or nodes i 0)
  stands i h = record { within = h; is = refl }

  pub stands_of : (x : ℕ) (c : Contains nodes x) → StandsAt nodes c.0 x
  stands_of x c = record { within = c.1; is = get_or_default nodes c.0 0 x c.1 ∙ c.2 }

  pub one_node : (i x y : ℕ) → StandsAt nodes i x → StandsAt nodes i y → x ≡ y
  one_node i x y a b = sym a.is ∙ b.is

  module _ (distinct : IsDistinct nat_eq nodes) where
    apart : (i j : ℕ) → i < j → j < length nodes → get_or nodes i 0 ≡ get_or nodes j 0 → ⊥
    apart i j below inside = AllPairs-from_IsDistinct Decides-eqb nodes distinct i j 0 below inside

    pub one_place : (x i j : ℕ) → StandsAt nodes i x → StandsAt nodes j x → i ≡ j
    one_place x i j a b = elim (cases_order i j) [
      | inl e ↦ e
      | inr (inl below) ↦ absurd (apart i j below b.within (a.is ∙ sym b.is))
      | inr (inr above) ↦ absurd (apart j i above a.within (b.is ∙ sym a.is))
    ]

-- ---- what a declared shape refers to is declared

module _ (ds : List Declaration) (named : NameDeclared ds) where
  qualified_declared : (p : Declaration) (n : ℕ) → Contains (qualified_within ds p) n
      → Contains (nodes_declared ds) n
  qualified_declared p n c =
      let of_node = λ (node : ℕ). flat_map (λ (d : Declaration). values_under d SH_QUALIFIED_VALUE_SHAPE)
      (declared_at ds node) in
      let shape = Contains-from_flat_map of_node (values_under p SH_PROPERTY) n c in
      let found = Contains-from_flat_map (λ (d : Declaration). values_under d SH_QUALIFIED_VALUE_SHAPE)
      (declared_at ds shape.0) n shape.2 in
      let d = found.0 in
      let held = (Contains-from_filter (λ (d : Declaration). d.node == shape.0) ds d found.1).0 in
      named d n held
      (Contains-append_left (flat_map (values_under d) shape_predicates)
      (flat_map (members_under d) shape_list_predicates) n
      (Contains-flat_map (values_under d) shape_predicates SH_QUALIFIED_VALUE_SHAPE n (3, omega arith, refl)
      found.2))

  module _ (terms : List Term) where
    sibling_declared : (d : Declaration) (n : ℕ) → Contains (siblings_of terms ds d) n
        → Contains (nodes_declared ds) n
    sibling_declared d n =
        let near = flat_map (qualified_within ds) (parents_of ds d.node) in
        let own = λ (n : ℕ). not (is_among n (values_under d SH_QUALIFIED_VALUE_SHAPE)) in
        elim (has_siblings terms d) as
        (λ b. Contains (if b then in_term_order terms (filter own near) else []) n
        → Contains (nodes_declared ds) n) [
          | true ↦ λ c.
              let other = ((in_term_order_lists terms (filter own near)).each n).0 c in
              let parent = Contains-from_flat_map (qualified_within ds) (parents_of ds d.node) n
              (Contains-from_filter own near n other).0 in
              qualified_declared parent.0 n parent.2
          | false ↦ λ c. absurd (none_in_empty n c)
        ]

    pub reference_declared : (d : Declaration) (n : ℕ) → Contains ds d
        → Contains (references_of terms ds d) n → Contains (nodes_declared ds) n
    reference_declared d n held c =
        elim (Contains-append_cases (named_by d) (siblings_of terms ds d) n c) [
          | inl name ↦ named d n held name
          | inr sibling ↦ sibling_declared d n sibling
        ]

-- ---- places of nodes

module _ (ds : List Declaration) where
  pub node_of_place : (i : ℕ) (d : Declaration) → slice_get ds i ≡ Some d
      → StandsAt (nodes_declared ds) i d.node
  node_of_place i d e =
      let inside = slice_get_within ds i d e in
      record {
        within = subst (λ n. i < n) (sym (length-map ds (λ (d : Declaration). d.node))) inside;
        is = get_or-map (λ (d : Declaration). d.node) ds i d 0 inside
            ∙ ap (λ (d : Declaration). d.node) (get_or_from_slice_get ds i d d e);
      }

  declared_of : (i : ℕ) → i < length (nodes_declared ds) → (d : Declaration) × (slice_get ds i ≡ Some d)
  declared_of i h = elim (slice_get_cases ds i).1 [
    | inl found ↦ (found.0, found.2)
    | inr past ↦ absurd (let e = length-map ds (λ (d : Declaration). d.node) in omega (arith, past.0))
  ]

  pub placed_by : (n j : ℕ) (o : Option ℕ) → place_of ds n ≡ o → Contains (if_any o) j
      → StandsAt (nodes_declared ds) j n
  placed_by n j None e c = absurd (none_in_empty j c)
  placed_by n j (Some i) e c =
      let at = position-Some (nat_eq n) (nodes_declared ds) i 0 e in
      subst (λ k. StandsAt (nodes_declared ds) k n) (sym ((Contains-one i j).0 c))
      (record { within = at.0; is = sym (eqb-true n (get_or (nodes_declared ds) i 0) at.1) })

  pub has_place : (n : ℕ) → Contains (nodes_declared ds) n → (j : ℕ) × (place_of ds n ≡ Some j)
  has_place n c =
      let place = place_of_any (nat_eq n) (nodes_declared ds)
      (list_any-from_Contains nat_eq_equiv n (nodes_declared ds) c) in (
        position_or_len (nat_eq n) (nodes_declared ds),
        rw (lt-ltb _ (length (nodes_declared ds)) place) refl,
      )

  -- the places of nodes that are declared
  pub placed_node : (ns : List ℕ) (j : ℕ) → Contains (places_of ds ns) j
      → (n : ℕ) × Contains ns n × StandsAt (nodes_declared ds) j n
  placed_node ns j c =
      let found = Contains-from_flat_map (λ n. if_any (place_of ds n)) ns j c in
      (found.0, found.1, placed_by found.0 j (place_of ds found.0) refl found.2)

  pub node_placed : (ns : List ℕ) (n : ℕ) → Contains (nodes_declared ds) n → Contains ns n
      → (j : ℕ) × StandsAt (nodes_declared ds) j n × Contains (places_of ds ns) j
  node_placed ns n there c =
      let place = has_place n there in
      let j = place.0 in
      let one : Contains (if_any (place_of ds n)) j = rw place.1 ((Contains-one j j).1 refl) in (
        j,
        placed_by n j (place_of ds n) refl one,
        Contains-flat_map (λ n. if_any (place_of ds n)) ns n j c one,
      )

-- ---- rows, one for each declaration

row_at : (f : Declaration → List ℕ) (rows : List (Vec ℕ Global)) (ds : List Declaration)
    → map (λ (row : Vec ℕ Global). row.items) rows ≡ map f ds
    → (i : ℕ) (d : Declaration) → slice_get ds i ≡ Some d → refs_of rows i ≡ f d
row_at f [] [] e i d at = absurd (cc)
row_at f [] (x ∷ ds) e i d at = absurd (cc)
row_at f (v ∷ vs) [] e i d at = absurd (cc)
row_at f (v ∷ vs) (x ∷ ds) e zero d at = cc
row_at f (v ∷ vs) (x ∷ ds) e (suc i) d at = row_at f vs ds (cc) i d at

-- places refer to each other as their nodes do, and what refers to something has a place and a node
pub record ReferAlike (to other : ℕ → List ℕ) (nodes : List ℕ) : Type 0 where
  pub distinct : IsDistinct nat_eq nodes
  pub forth : Carries to other (StandsAt nodes)
  pub back : Carries other to (IsOf nodes)
  pub placed : (i j : ℕ) → Refers to i j → i < length nodes
  pub declared : (x y : ℕ) → Refers other x y → (i : ℕ) × StandsAt nodes i x

module _ (terms : List Term) (ds : List Declaration) (named : NameDeclared ds)
    (distinct : IsDistinct nat_eq (nodes_declared ds)) (rows : List (Vec ℕ Global))
    (are : map (λ (row : Vec ℕ Global). row.items) rows
    ≡ map (λ d. places_of ds (references_of terms ds d)) ds) where
  row_of : (i : ℕ) (d : Declaration) → slice_get ds i ≡ Some d
      → refs_of rows i ≡ places_of ds (references_of terms ds d)
  row_of = row_at (λ d. places_of ds (references_of terms ds d)) rows ds are

  place_within : (i j : ℕ) → Refers (refs_of rows) i j → i < length (nodes_declared ds)
  place_within i j r =
      let below = refers_below rows i j r in
      let long = ap length are in
      omega (
        arith,
        length-map rows (λ (row : Vec ℕ Global). row.items),
        length-map ds (λ (d : Declaration). places_of ds (references_of terms ds d)),
        length-map ds (λ (d : Declaration). d.node),
      )

  -- what is declared of a node
  declaration_at : (x : ℕ) (d : Declaration) → Contains (declared_at ds x) d
      → Contains ds d × ((i : ℕ) × (slice_get ds i ≡ Some d) × StandsAt (nodes_declared ds) i x)
  declaration_at x d c =
      let kept = Contains-from_filter (λ (d : Declaration). d.node == x) ds d c in
      let i = kept.0.0 in
      let at : slice_get ds i ≡ Some d = slice_get-get_or ds i d kept.0.1 ∙ ap Some kept.0.2 in (
        kept.0,
        (i, at, subst (StandsAt (nodes_declared ds) i) (eqb-true d.node x kept.1) (node_of_place ds i d at)),
      )

  forth_step : (i x j : ℕ) → StandsAt (nodes_declared ds) i x → Refers (refs_of rows) i j
      → (y : ℕ) × StandsAt (nodes_declared ds) j y × Refers (refers_to terms ds) x y
  forth_step i x j at r =
      let found = declared_of ds i at.within in
      let d = found.0 in
      let row : Contains (places_of ds (references_of terms ds d)) j =
      subst (λ (ns : List ℕ). Contains ns j) (row_of i d found.1) r in
      let to = placed_node ds (references_of terms ds d) j row in
      let held : Contains ds d =
      (i, slice_get_within ds i d found.1, get_or_from_slice_get ds i d d found.1) in
      let is = one_node (nodes_declared ds) i d.node x (node_of_place ds i d found.1) at in
      let here = Contains-filter (λ (d : Declaration). d.node == x) ds d held (eq-eqb d.node x is) in
      (to.0, to.2, Contains-flat_map (references_of terms ds) (declared_at ds x) d to.0 here to.1)

  back_step : (x i y : ℕ) → StandsAt (nodes_declared ds) i x → Refers (refers_to terms ds) x y
      → (j : ℕ) × StandsAt (nodes_declared ds) j y × Refers (refs_of rows) i j
  back_step x i y at r =
      let found = Contains-from_flat_map (references_of terms ds) (declared_at ds x) y r in
      let d = found.0 in
      let here = declaration_at x d found.1 in
      let same = one_place (nodes_declared ds) distinct x here.1.0 i here.1.2 at in
      let to = node_placed ds (references_of terms ds d) y
      (reference_declared ds named terms d y here.0 found.2) found.2 in (
        to.0,
        to.1,
        subst (λ k. Contains (refs_of rows k) to.0) same
            (subst (λ (ns : List ℕ). Contains ns to.0) (sym (row_of here.1.0 d here.1.1)) to.2),
      )

  pub refer_alike : ReferAlike (refs_of rows) (refers_to terms ds) (nodes_declared ds)
  refer_alike = record {
    distinct = distinct;
    forth = record { step = forth_step };
    back = record { step = back_step };
    placed = place_within;
    declared = λ x y r.
        let found = Contains-from_flat_map (references_of terms ds) (declared_at ds x) y r in
        let here = declaration_at x found.0 found.1 in
        (here.1.0, here.1.2);
  }
