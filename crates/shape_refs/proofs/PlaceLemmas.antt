-- Declarations by the places of their nodes.
use Rattle.std.specs.Prelude.{◌≡◌, ℕ, zero, suc, ◌+◌, ◌<◌, ◌==◌, nat_eq, Bool, true, false, List, [], ◌∷◌}
use Rattle.std.specs.Prelude.{◌++◌, filter, length, map, position, slice_get, take, Option, Some, None}
use Rattle.std.specs.Prelude.{Contains}
use Rattle.std.specs.Cmp.{nat_eq_equiv}
use Rattle.std.specs.List.{IsDistinct}
use Rattle.std.specs.Option.{option_map}
use Rattle.std.proofs.Common.{refl, sym, ap, ◌∙◌, arith, subst, get_or}
use Rattle.std.proofs.lemmas.Bool.{eqb-true, eq-eqb, false_from_ne_true}
use Rattle.std.proofs.lemmas.List.{get_or_default, map_more}
use Rattle.std.proofs.lemmas.Option.{slice_get-map, slice_get-get_or}
use Rattle.std.proofs.lemmas.Simd.{map-map}
use Rattle.indexmap.specs.IndexSet.{insert_all, insert_key}
use Rattle.indexmap.proofs.SetLemmas.{set_all_distinct, set_all_push}
use Rattle.shx_term.proofs.MemberLemmas.{Contains-head}
use Rattle.shape_decl.specs.declared.declaration.ShapeDecl.{ShapeDecl}
use Rattle.shape_decl.specs.Declarations.{Declaration, told_decl}
use Rattle.shape_refs.specs.Order.{nodes_declared}
use Rattle.shape_refs.specs.References.{declared_at}
use Rattle.shape_refs.specs.inner.Places.{place_of}
use Rattle.shape_refs.proofs.NodeLemmas.{StandsAt, has_place, node_of_place, one_node, one_place, placed_by}

-- ---- numbers that are entered in turn

-- a step of a loop that enters what is made of one element after the other
pub entered_more : {X : Type 0} (f : X → ℕ) (xs : List X) (i : ℕ) (x : X) → i < length xs → x ≡ get_or xs i x
    → (old new : List ℕ) → old ≡ insert_all nat_eq [] (map f (take i xs)) → new ≡ insert_key nat_eq old (f x)
    → new ≡ insert_all nat_eq [] (map f (take (i + 1) xs))
entered_more f xs i x inside here old new before entered =
    let all = λ (ys : List ℕ). insert_all nat_eq [] ys in
    entered ∙ ap (λ keys. insert_key nat_eq keys (f x)) before
    ∙ sym (set_all_push nat_eq [] (map f (take i xs)) (f x))
    ∙ ap (λ y. all (map f (take i xs) ++ f y ∷ [])) here
    ∙ sym (ap all (map_more f xs i x inside))

-- distinct numbers are all new
pub entered_all : (xs : List ℕ) → IsDistinct nat_eq xs → insert_all nat_eq [] xs ≡ xs
entered_all xs distinct = set_all_distinct nat_eq_equiv [] xs distinct

-- ---- a declaration in code, and as it is told

pub told_distinct : (decls : List ShapeDecl) → IsDistinct nat_eq (map (λ d. d.node) decls)
    → IsDistinct nat_eq (nodes_declared (map told_decl decls))
told_distinct decls = subst (IsDistinct nat_eq) (sym (map-map (λ (d : Declaration). d.node) told_decl decls))

pub told_at : (decls : List ShapeDecl) (i : ℕ) (d : ShapeDecl) → i < length decls
    → slice_get (map told_decl decls) i ≡ Some (told_decl (get_or decls i d))
told_at decls i d inside =
    slice_get-map told_decl decls i ∙ ap (option_map told_decl) (slice_get-get_or decls i d inside)

-- what a look-up found
pub told_place : (decls : List ShapeDecl) (node : ℕ) (found o : Option ℕ)
    → found ≡ position (nat_eq node) (map (λ d. d.node) decls) → found ≡ o
    → place_of (map told_decl decls) node ≡ o
told_place decls node found o place is =
    ap (position (nat_eq node)) (map-map (λ (d : Declaration). d.node) told_decl decls) ∙ sym place ∙ is

-- ---- what stands at the place of a node

module _ (ds : List Declaration) (distinct : IsDistinct nat_eq (nodes_declared ds)) (node : ℕ) where
  abbrev nodes : List ℕ
  nodes = nodes_declared ds

  -- what is declared of the node stands at its place
  pub stands_at_place : (place : ℕ) → place_of ds node ≡ Some place → (d : Declaration)
      → slice_get ds place ≡ Some d → (d.node == node) ≡ true
  stands_at_place place is d at =
      let here = placed_by ds node place (Some place) is (Contains-head place []) in
      eq-eqb d.node node (one_node nodes place d.node node (node_of_place ds place d at) here)

  -- and nowhere else
  pub place_is : (i : ℕ) (d : Declaration) → slice_get ds i ≡ Some d → (d.node == node) ≡ true
      → place_of ds node ≡ Some i
  place_is i d at same =
      let there = subst (StandsAt nodes i) (eqb-true d.node node same) (node_of_place ds i d at) in
      let held : Contains nodes node =
      (i, there.within, get_or_default nodes i node 0 there.within ∙ there.is) in
      let found = has_place ds node held in
      let here = placed_by ds node found.0 (Some found.0) found.1 (Contains-head found.0 []) in
      found.1 ∙ ap Some (one_place nodes distinct node found.0 i here there)

-- ---- what a test keeps

module _ {X : Type 0} (p : X → Bool) where
  pub filter_none : (xs : List X) → ((i : ℕ) (x : X) → slice_get xs i ≡ Some x → p x ≡ true → ⊥)
      → filter p xs ≡ []
  filter_none [] none = refl
  filter_none (x ∷ xs) none =
      rw (false_from_ne_true (p x) (none 0 x refl)) (filter_none xs (λ i y at. none (suc i) y at))

  -- where the element at one place passes alone
  pub filter_one : (xs : List X) (place : ℕ) (x : X) → slice_get xs place ≡ Some x → p x ≡ true
      → ((i : ℕ) (y : X) → slice_get xs i ≡ Some y → p y ≡ true → i ≡ place) → filter p xs ≡ x ∷ []
  filter_one [] place x here passes only = absurd (cc)
  filter_one (y ∷ ys) zero x here passes only =
      let rest = filter_none ys (λ i z at so. absurd (let e = only (suc i) z at so in omega arith)) in
      let first : y ≡ x = cc in
      rw (ap p first ∙ passes, rest, first) refl
  filter_one (y ∷ ys) (suc place) x here passes only =
      let others : (i : ℕ) (z : X) → slice_get ys i ≡ Some z → p z ≡ true → i ≡ place =
      λ i z at so. let e = only (suc i) z at so in omega arith in
      let none : p y ≡ false =
      false_from_ne_true (p y) (λ so. absurd (let e = only 0 y refl so in omega arith)) in
      rw none (filter_one ys place x here passes others)

-- so what is declared of a node is what stands at its place, or nothing
pub none_declared : (ds : List Declaration) → IsDistinct nat_eq (nodes_declared ds) → (node : ℕ)
    → place_of ds node ≡ None → declared_at ds node ≡ []
none_declared ds distinct node none =
    filter_none (λ (d : Declaration). d.node == node) ds
    (λ i d at same. absurd (let place = place_is ds distinct node i d at same in cc))

pub one_declared : (ds : List Declaration) → IsDistinct nat_eq (nodes_declared ds) → (node place : ℕ)
    → place_of ds node ≡ Some place → (d : Declaration) → slice_get ds place ≡ Some d
    → declared_at ds node ≡ d ∷ []
one_declared ds distinct node place some d here =
    filter_one (λ (d : Declaration). d.node == node) ds place d here
    (stands_at_place ds distinct node place some d here)
    (λ i e at same. let other = place_is ds distinct node i e at same in cc)
