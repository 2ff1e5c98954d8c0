-- The shapes of a plan that were made so far, and the patterns that are left for others.
use Rattle.std.specs.Prelude.{◌≡◌, ◌≢◌, ℕ, ◌==◌, ◌<◌, ◌+◌, nat_eq, List, [], ◌∷◌, ◌++◌, length, take}
use Rattle.std.specs.Prelude.{set, slice_get, slice_index, Option, Some, None, All, Contains}
use Rattle.std.specs.List.{IsDistinct}
use Rattle.std.specs.Option.{option_map}
use Rattle.std.proofs.Common.{refl, sym, ap, ◌∙◌, subst, arith, get_or, inl, inr}
use Rattle.std.proofs.lemmas.Bool.{eq-eqb}
use Rattle.std.proofs.lemmas.List.{get_or-set_other, get_or_default, length-map, length-set, map_push}
use Rattle.std.proofs.lemmas.List.{take_more}
use Rattle.std.proofs.lemmas.List.Elements.{Contains-append_left, Contains-push, Contains-push_cases}
use Rattle.std.proofs.lemmas.Option.{get_or_from_slice_get, same_Some, slice_get-get_or, slice_get-map}
use Rattle.std.proofs.lemmas.Option.{slice_get_cases, slice_get_read, slice_get_within}
use Rattle.shx_outside.specs.Patterns.{BuiltPattern}
use Rattle.shx_term.specs.declared.term.Term.{Term}
use Rattle.shx_term.proofs.MemberLemmas.{All_of_each, Contains-filter, Contains-flat_map, none_in_empty}
use Rattle.shape_decl.specs.Declarations.{Declaration}
use Rattle.shape_order.specs.Refs.{Refers}
use Rattle.shape_order.proofs.OrderLemmas.{taken}
use Rattle.shape_refs.specs.Order.{IsShapeOrder, nodes_declared}
use Rattle.shape_refs.specs.References.{declared_at, references_of, refers_to}
use Rattle.shape_refs.proofs.NodeLemmas.{StandsAt, node_of_place, one_place}
use Rattle.shape_eval.specs.Plan.{nodes_of}
use Rattle.shape_eval.specs.declared.shape.PlanShape.{PlanShape}
use Rattle.shape_compile.specs.Meaning.{ShapeMeans}
use Rattle.shape_compile.specs.inner.Built.{AreBuilt, IsBuiltFor}
use Rattle.shape_compile.proofs.PlaceLemmas.{Contains-place, place_before}

-- the shapes mean what is declared of their nodes
pub record AreMeant (terms : List Term) (ds : List Declaration) (nodes : List ℕ) (shapes : List PlanShape)
    : Type 0 where
  pub each : (d : Declaration) (sh : PlanShape) → Contains ds d → Contains shapes sh → sh.node ≡ d.node
      → ShapeMeans terms ds nodes d sh

-- the pattern of each shape is at its place, but for those that are gone
pub record AreLeft (terms : List Term) (ds : List Declaration) (gone : List ℕ)
    (built : List (Option BuiltPattern)) : Type 0 where
  pub long : length built ≡ length ds
  pub each : (i : ℕ) (d : Declaration) (pattern : Option BuiltPattern) → slice_get ds i ≡ Some d
      → (Contains gone d.node → ⊥) → slice_get built i ≡ Some pattern → IsBuiltFor terms d pattern

pub AreLeft-start : (terms : List Term) (ds : List Declaration) (built : List (Option BuiltPattern))
    → AreBuilt terms ds built → AreLeft terms ds [] built
AreLeft-start terms ds built all = record {
  long = all.long;
  each = λ i d pattern at _ there. all.each i d pattern at there;
}

-- declarations of one node are one
same_declared : (ds : List Declaration) → IsDistinct nat_eq (nodes_declared ds) → (i j : ℕ)
    (d e : Declaration) → slice_get ds i ≡ Some d → slice_get ds j ≡ Some e → d.node ≡ e.node → i ≡ j
same_declared ds distinct i j d e at there same =
    let nodes = nodes_declared ds in
    one_place nodes distinct e.node i j (subst (StandsAt nodes i) same (node_of_place ds i d at))
    (node_of_place ds j e there)

module _ (terms : List Term) (ds : List Declaration) (nodes : List ℕ) where
  -- ---- one shape more

  pub AreMeant-none : AreMeant terms ds nodes []
  AreMeant-none = record { each = λ d sh c i e. absurd (none_in_empty sh i) }

  pub AreMeant-push : IsDistinct nat_eq (nodes_declared ds) → (shapes : List PlanShape) (sh : PlanShape)
      (at : ℕ) → AreMeant terms ds nodes shapes
      → ((d : Declaration) → slice_get ds at ≡ Some d → (sh.node ≡ d.node) × ShapeMeans terms ds nodes d sh)
      → (d : Declaration) → slice_get ds at ≡ Some d → AreMeant terms ds nodes (shapes ++ sh ∷ [])
  AreMeant-push distinct shapes sh at meant here d is = record {
    each = λ e other c i same. elim (Contains-push_cases shapes sh other i) [
      | inl before ↦ meant.each e other c before same
      | inr last ↦
          let there : slice_get ds c.0 ≡ Some e = slice_get-get_or ds c.0 e c.1 ∙ ap Some c.2 in
          let nodes_meet : d.node ≡ e.node = sym (here d is).0 ∙ ap (λ (s : PlanShape). s.node) last ∙ same in
          let place : at ≡ c.0 = same_declared ds distinct at c.0 d e is there nodes_meet in
          let one : slice_get ds at ≡ Some e = ap (slice_get ds) place ∙ there in
          subst (λ s. ShapeMeans terms ds nodes e s) last (here e one).1
    ];
  }

  -- ---- the next shape of an order

  module _ (order : IsShapeOrder terms ds nodes) (number at : ℕ) (inside : number < length nodes)
      (found : slice_get nodes number ≡ slice_get (nodes_declared ds) at) where
    -- it is declared at the place
    pub next_within : at < length ds
    next_within =
        let here = sym found ∙ slice_get-get_or nodes number 0 inside in
        subst (λ n. at < n) (length-map ds (λ (d : Declaration). d.node))
        (slice_get_within (nodes_declared ds) at (get_or nodes number 0) here)

    pub next_declared : (d : Declaration) × (slice_get ds at ≡ Some d)
    next_declared = elim (slice_get_cases ds at).1 [
      | inl here ↦ (here.0, here.2)
      | inr past ↦ absurd (omega (arith, next_within, past.0))
    ]

    module _ (d : Declaration) (is : slice_get ds at ≡ Some d) where
      next_node : slice_get nodes number ≡ Some d.node
      next_node =
          found ∙ slice_get-map (λ (e : Declaration). e.node) ds at
          ∙ ap (option_map (λ (e : Declaration). e.node)) is

      next_taken : take (number + 1) nodes ≡ take number nodes ++ d.node ∷ []
      next_taken =
          take_more nodes number 0 inside
          ∙ ap (λ n. take number nodes ++ n ∷ []) (get_or_from_slice_get nodes number d.node 0 next_node)

      pub next_made : (shapes new : List PlanShape) (sh : PlanShape) → nodes_of shapes ≡ take number nodes
          → new ≡ shapes ++ sh ∷ [] → sh.node ≡ d.node → nodes_of new ≡ take (number + 1) nodes
      next_made shapes new sh made pushed same =
          ap nodes_of pushed ∙ map_push (λ (s : PlanShape). s.node) shapes sh
          ∙ ap (λ ns. ns ++ sh.node ∷ []) made ∙ ap (λ n. take number nodes ++ n ∷ []) same ∙ sym next_taken

      -- what it refers to is among the shapes
      pub next_named : All (Contains nodes) (references_of terms ds d)
      next_named = All_of_each (Contains nodes) (references_of terms ds d) (λ n c.
          let node : slice_index nodes number ≡ d.node =
          get_or_from_slice_get nodes number d.node 0 next_node in
          let refers : Refers (refers_to terms ds) d.node n =
          Contains-flat_map (references_of terms ds) (declared_at ds d.node) d n
          (Contains-filter (λ (e : Declaration). e.node == d.node) ds d (Contains-place ds at d is)
          (eq-eqb d.node d.node refl)) c in
          let before = order.behind.behind number inside n
          (subst (λ m. Refers (refers_to terms ds) m n) (sym node) refers) in
          let place = taken nodes number n (omega arith) before in
          let k = place.0 in
          let low : k < number = place.1 in
          (k, omega arith, get_or_default nodes k n 0 (omega arith) ∙ place.2))

      -- it is not among those before
      next_new : Contains (take number nodes) d.node → ⊥
      next_new c =
          let low : number < number =
          place_before nodes order.once number number d.node (omega arith) c next_node in
          omega arith

      module _ (built : List (Option BuiltPattern)) (left : AreLeft terms ds (take number nodes) built) where
        -- so its pattern is left
        pub next_built : (pattern read : Option BuiltPattern) → pattern ≡ read → read ≡ get_or built at read
            → IsBuiltFor terms d pattern
        next_built pattern read same here =
            let within : at < length built = subst (λ n. at < n) (sym left.long) next_within in
            subst (IsBuiltFor terms d) (sym same)
            (left.each at d read is next_new (slice_get_read built (length built) at read refl within here))

        -- and the others are left when it is taken
        pub AreLeft-more : AreLeft terms ds (take (number + 1) nodes) (set built at None)
        AreLeft-more =
            let rest : List (Option BuiltPattern) = set built at None in
            record {
              long = length-set built at None ∙ left.long;
              each = λ i e pattern here new there.
                  let kept = λ (c : Contains (take number nodes) e.node). new
                  (subst (λ ns. Contains ns e.node) (sym next_taken)
                  (Contains-append_left (take number nodes) (d.node ∷ []) e.node c)) in
                  let other : i ≢ at = (λ same. new
                  (subst (λ ns. Contains ns e.node) (sym next_taken)
                  (subst (Contains (take number nodes ++ d.node ∷ []))
                  (ap (λ (f : Declaration). f.node)
                  (same_Some d e (sym is ∙ ap (slice_get ds) (sym same) ∙ here)))
                  (Contains-push (take number nodes) d.node)))) in
                  let within : i < length built =
                  subst (λ n. i < n) (length-set built at None) (slice_get_within rest i pattern there) in
                  let same : get_or built i pattern ≡ pattern =
                  sym (get_or-set_other built at i None pattern other)
                  ∙ get_or_from_slice_get rest i pattern pattern there in
                  left.each i e pattern here kept (slice_get-get_or built i pattern within ∙ ap Some same);
            }
