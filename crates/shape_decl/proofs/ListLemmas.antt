-- SHACL lists, over any nodes that are cells: a node has one list, and the list is what is read.
use Rattle.std.specs.Prelude.{◌≡◌, ℕ, ◌<◌, ◌≤◌, suc, zero, nat_eq, Bool, true, false, List, [], ◌∷◌}
use Rattle.std.specs.Prelude.{map, length, Option, Some, None, Contains}
use Rattle.std.specs.Cmp.{nat_eq_equiv}
use Rattle.std.specs.List.{IsDistinct}
use Rattle.std.specs.Option.{option_map}
use Rattle.std.proofs.Common.{refl, sym, ap, ◌∙◌, subst, inl, inr, arith}
use Rattle.std.proofs.lemmas.Bool.{eqb-true, false_from_ne_true}
use Rattle.std.proofs.lemmas.List.{length-map}
use Rattle.std.proofs.lemmas.List.Elements.{recursion_from_All}
use Rattle.std.proofs.lemmas.Map.Keys.{IsDistinct-cons}
use Rattle.std.proofs.lemmas.Map.Made.{length-le_from_is_member}
use Rattle.shx_term.specs.declared.vocabulary.TheConstants.{RDF_FIRST, RDF_REST, RDF_NIL}
use Rattle.shx_term.proofs.MemberLemmas.{none_in_empty, Contains-head, Contains-cases, Contains-test}
use Rattle.shx_term.proofs.MemberLemmas.{Contains-map, All_of_each}
use Rattle.graph_view.specs.Graph.{Graph, objects_of}
use Rattle.graph_view.proofs.LookUpLemmas.{Contains-objects_of}
use Rattle.shape_decl.specs.declared.cell.Cell.{Cell}
use Rattle.shape_decl.specs.declared.cell.Cell.TheVariants.{End, Link, Neither}
use Rattle.shape_decl.specs.Lists.{cell_of, cell_at, IsListOf, IsList, followed, members_within, list_of}
use Rattle.shape_decl.specs.Lists.{ListsAreRead}

pub IsDistinct-empty : {K : Type 0} (same : K → K → Bool) → IsDistinct same []
unfolding IsDistinct
IsDistinct-empty same = tt

module _ (cell : ℕ → Cell) where
  -- a node has one list at most
  pub members_are_one : (ms ns : List ℕ) (node : ℕ) → IsListOf cell node ms → IsListOf cell node ns → ms ≡ ns
  members_are_one [] [] node a b = refl
  members_are_one [] (n ∷ ns) node a b = cc
  members_are_one (m ∷ ms) [] node a b = cc
  members_are_one (m ∷ ms) (n ∷ ns) node a b =
      let same : b.0 ≡ a.0 = cc in
      let more = members_are_one ms ns a.0 a.2 (subst (λ rest. IsListOf cell rest ns) same b.2) in
      cc

  -- ---- the members that are computed

  read_on : (n : ℕ) (node member rest : ℕ) (ms : List ℕ) → cell node ≡ Link member rest
      → ((others : List ℕ) → members_within n cell rest ≡ Some others → IsListOf cell rest others)
      → (found : Option (List ℕ)) → members_within n cell rest ≡ found
      → option_map (λ others. member ∷ others) found ≡ Some ms → IsListOf cell node ms
  read_on n node member rest ms is later None e h = cc
  read_on n node member rest ms is later (Some others) e h =
      let whole : member ∷ others ≡ ms = cc in
      subst (λ xs. IsListOf cell node xs) whole (rest, is, later others e)

  at_cell : (n : ℕ) (node : ℕ) (ms : List ℕ)
      → ((rest : ℕ) (others : List ℕ) → members_within n cell rest ≡ Some others
      → IsListOf cell rest others)
      → (at : Cell) → cell node ≡ at → followed (members_within n cell) at ≡ Some ms → IsListOf cell node ms
  at_cell n node ms later End is h =
      let none : [] ≡ ms = cc in
      subst (λ xs. IsListOf cell node xs) none is
  at_cell n node ms later (Link member rest) is h =
      read_on n node member rest ms is (later rest) (members_within n cell rest) refl h
  at_cell n node ms later Neither is h = cc

  pub list_from_within : (n node : ℕ) (ms : List ℕ) → members_within n cell node ≡ Some ms
      → IsListOf cell node ms
  list_from_within zero node ms h = cc
  list_from_within (suc n) node ms h = at_cell n node ms (list_from_within n) (cell node) refl h

  pub within_from_list : (n node : ℕ) (ms : List ℕ) → length ms < n → IsListOf cell node ms
      → members_within n cell node ≡ Some ms
  within_from_list zero node ms few list = absurd (omega arith)
  within_from_list (suc n) node [] few list = ap (followed (members_within n cell)) list
  within_from_list (suc n) node (m ∷ ms) few list =
      ap (followed (members_within n cell)) list.1
      ∙ ap (option_map (λ others. m ∷ others)) (within_from_list n list.0 ms (omega arith) list.2)

  -- ---- the cells of a list

  abbrev pub IsLinked : ℕ → Type 0
  IsLinked node = (member : ℕ) × (rest : ℕ) × (cell node ≡ Link member rest)

  abbrev cells_of : (ms : List ℕ) (node : ℕ) → IsListOf cell node ms → List ℕ
  cells_of [] node list = []
  cells_of (m ∷ ms) node list = node ∷ cells_of ms list.0 list.2

  length-cells_of : (ms : List ℕ) (node : ℕ) (list : IsListOf cell node ms)
      → length (cells_of ms node list) ≡ length ms
  length-cells_of [] node list = refl
  length-cells_of (m ∷ ms) node list = ap suc (length-cells_of ms list.0 list.2)

  cells_linked : (ms : List ℕ) (node : ℕ) (list : IsListOf cell node ms) (x : ℕ)
      → Contains (cells_of ms node list) x → IsLinked x
  cells_linked [] node list x c = absurd (none_in_empty x c)
  cells_linked (m ∷ ms) node list x c = elim (Contains-cases node x (cells_of ms list.0 list.2) c) [
    | inl e ↦ (m, list.0, ap cell e ∙ list.1)
    | inr d ↦ cells_linked ms list.0 list.2 x d
  ]

  -- what is a cell of a list is a list that is no longer
  cells_shorter : (ms : List ℕ) (node : ℕ) (list : IsListOf cell node ms) (x : ℕ)
      → Contains (cells_of ms node list) x
      → (ns : List ℕ) × (length ns ≤ length ms) × IsListOf cell x ns
  cells_shorter [] node list x c = absurd (none_in_empty x c)
  cells_shorter (m ∷ ms) node list x c = elim (Contains-cases node x (cells_of ms list.0 list.2) c) [
    | inl e ↦ (m ∷ ms, omega arith, subst (λ y. IsListOf cell y (m ∷ ms)) (sym e) list)
    | inr d ↦
        let found = cells_shorter ms list.0 list.2 x d in
        let fewer : length found.0 ≤ length ms = found.1 in
        (found.0, omega arith, found.2)
  ]

  cell_apart : (m : ℕ) (ms : List ℕ) (node : ℕ) (list : IsListOf cell node (m ∷ ms)) (x : ℕ)
      → Contains (cells_of ms list.0 list.2) x → nat_eq node x ≡ false
  cell_apart m ms node list x c = false_from_ne_true (nat_eq node x) (λ tied.
      let found = cells_shorter ms list.0 list.2 x c in
      let fewer : length found.0 ≤ length ms = found.1 in
      let here = subst (λ y. IsListOf cell y found.0) (sym (eqb-true node x tied)) found.2 in
      let one = members_are_one found.0 (m ∷ ms) node here list in
      omega (arith, ap length one))

  cells_distinct : (ms : List ℕ) (node : ℕ) (list : IsListOf cell node ms)
      → IsDistinct nat_eq (cells_of ms node list)
  cells_distinct [] node list = IsDistinct-empty nat_eq
  cells_distinct (m ∷ ms) node list =
      let more = cells_of ms list.0 list.2 in
      let apart = λ (x : ℕ). nat_eq node x ≡ false in
      IsDistinct-cons nat_eq node more
      (recursion_from_All apart more (All_of_each apart more (λ x c. cell_apart m ms node list x c)))
      (cells_distinct ms list.0 list.2)

-- ---- in a graph

pub first_of_link : (is_nil : Bool) (firsts rests : List ℕ) (member rest : ℕ)
    → cell_of is_nil firsts rests ≡ Link member rest → firsts ≡ member ∷ []
first_of_link true [] [] member rest e = cc
first_of_link true [] (r ∷ rs) member rest e = cc
first_of_link true (f ∷ []) [] member rest e = cc
first_of_link true (f ∷ []) (r ∷ []) member rest e = cc
first_of_link true (f ∷ []) (r ∷ s ∷ rs) member rest e = cc
first_of_link true (f ∷ h ∷ fs) rs member rest e = cc
first_of_link false [] rs member rest e = cc
first_of_link false (f ∷ []) [] member rest e = cc
first_of_link false (f ∷ []) (r ∷ []) member rest e = cc
first_of_link false (f ∷ []) (r ∷ s ∷ rs) member rest e = cc
first_of_link false (f ∷ h ∷ fs) rs member rest e = cc

-- what is in a cell is stated of it
pub first_stated : (g : Graph) (x member rest : ℕ) → cell_at g x ≡ Link member rest
    → Contains g.triples (record { s = x; p = RDF_FIRST; o = member })
first_stated g x member rest is =
    let firsts = objects_of g x RDF_FIRST in
    let e = first_of_link (nat_eq x RDF_NIL) firsts (objects_of g x RDF_REST) member rest is in
    (Contains-objects_of g x RDF_FIRST member).0
    (subst (λ xs. Contains xs member) (sym e) (Contains-head member []))

-- so a cell is the subject of a triple
linked_subject : (g : Graph) (x : ℕ) → IsLinked (cell_at g) x → Contains (map (λ t. t.s) g.triples) x
linked_subject g x linked =
    Contains-map (λ t. t.s) g.triples (record { s = x; p = RDF_FIRST; o = linked.0 })
    (first_stated g x linked.0 linked.1 linked.2)

-- and distinct cells are no more than the triples
pub few_cells : (g : Graph) (xs : List ℕ) → IsDistinct nat_eq xs
    → ((x : ℕ) → Contains xs x → IsLinked (cell_at g) x) → length xs ≤ length g.triples
few_cells g xs distinct linked =
    let subjects = map (λ t. t.s) g.triples in
    let exact = λ (a : ℕ) (b : ℕ). eqb-true a b in
    let fewer : length xs ≤ length subjects =
    length-le_from_is_member nat_eq_equiv xs subjects distinct
    (λ x h. (Contains-test nat_eq nat_eq_equiv exact subjects x).1
    (linked_subject g x (linked x ((Contains-test nat_eq nat_eq_equiv exact xs x).0 h)))) in
    omega (arith, fewer, length-map g.triples (λ t. t.s))

few_members : (g : Graph) (head : ℕ) (members : List ℕ) → IsList g head members
    → length members ≤ length g.triples
few_members g head members list =
    let cells = cells_of (cell_at g) members head list in
    let few = few_cells g cells (cells_distinct (cell_at g) members head list)
    (cells_linked (cell_at g) members head list) in
    omega (arith, few, length-cells_of (cell_at g) members head list)

-- ---- what is computed is what is a list

pub lists_read : ListsAreRead
unfolding list_of
lists_read g head members = (
  λ h. list_from_within (cell_at g) (suc (length g.triples)) head members h,
  λ list.
      let few : length members < suc (length g.triples) = omega (arith, few_members g head members list) in
      within_from_list (cell_at g) (suc (length g.triples)) head members few list,
)

-- what no list has is no list
pub no_list_read : (g : Graph) (head : ℕ) → ((members : List ℕ) → IsList g head members → ⊥)
    → list_of g head ≡ None
no_list_read g head none =
    none_unless (list_of g head) (λ members h. none members ((lists_read g head members).0 h))
  where
    none_unless : (o : Option (List ℕ)) → ((members : List ℕ) → o ≡ Some members → ⊥) → o ≡ None
    none_unless None no_members = refl
    none_unless (Some members) no_members = absurd (no_members members refl)
