-- What is near shapes, as it is gathered by place.
use Rattle.std.specs.Prelude.{◌≡◌, ℕ, zero, suc, ◌<◌, ◌==◌, nat_eq, Bool, true, false, ◌||◌, List, [], ◌∷◌}
use Rattle.std.specs.Prelude.{◌++◌, flat_map, filter, if◌then◌else◌, length, slice_get, Some, None, Vec}
use Rattle.std.specs.Cmp.{nat_eq_equiv}
use Rattle.std.specs.List.{IsDistinct}
use Rattle.std.specs.declared.alloc.Global.{Global}
use Rattle.std.proofs.Common.{refl, sym, ap, ◌∙◌, subst, arith, get_or, inl, inr, append-nil, set}
use Rattle.std.proofs.Common.{true≢false}
use Rattle.std.proofs.lemmas.Bool.{false_from_ne_true}
use Rattle.std.proofs.lemmas.Grind.{flat_map-append}
use Rattle.std.proofs.Math.ListN.{length-set}
use Rattle.std.proofs.lemmas.List.Elements.{Contains-append_left, Contains-append_right, filter-append}
use Rattle.std.proofs.lemmas.List.Elements.{Contains-append_cases}
use Rattle.shx_term.specs.Members.{Adds, SameMembers}
use Rattle.shx_term.specs.declared.term.Term.{Term}
use Rattle.shx_term.specs.declared.vocabulary.TheConstants.{SH_PROPERTY}
use Rattle.shx_term.proofs.SetLemmas.{Adds-none, Adds-same, Adds-then, SameMembers-is, SameMembers-itself}
use Rattle.comp_core.specs.TermTests.{is_among}
use Rattle.shape_decl.specs.Declarations.{Declaration, values_under}
use Rattle.shape_refs.specs.Order.{nodes_declared}
use Rattle.shape_refs.specs.References.{has_siblings, parents_of, qualified_within}
use Rattle.shape_refs.specs.inner.Near.{AddsNear, AreNear, row_at}
use Rattle.shape_refs.specs.inner.Places.{place_of}
use Rattle.shape_refs.proofs.PlaceLemmas.{place_is, stands_at_place}

-- ---- rows

pub row_at_item : (rows : List (Vec ℕ Global)) (i : ℕ) (row : Vec ℕ Global) → i < length rows
    → row ≡ get_or rows i row → row_at rows i ≡ row.items
row_at_item [] i row inside here = absurd (omega arith)
row_at_item (r ∷ rows) zero row inside here = ap (λ (v : Vec ℕ Global). v.items) (sym here)
row_at_item (r ∷ rows) (suc i) row inside here = row_at_item rows i row (omega arith) here

pub row_at_push : (rows : List (Vec ℕ Global)) (row : Vec ℕ Global) → row.items ≡ []
    → ((i : ℕ) → row_at rows i ≡ []) → (i : ℕ) → row_at (rows ++ row ∷ []) i ≡ []
row_at_push [] row empty none zero = empty
row_at_push [] row empty none (suc i) = refl
row_at_push (r ∷ rows) row empty none zero = none 0
row_at_push (r ∷ rows) row empty none (suc i) = row_at_push rows row empty (λ k. none (suc k)) i

row_at_set : (rows : List (Vec ℕ Global)) (place : ℕ) (row : Vec ℕ Global) → place < length rows
    → row_at (set rows place row) place ≡ row.items
row_at_set [] place row inside = absurd (omega arith)
row_at_set (r ∷ rows) zero row inside = refl
row_at_set (r ∷ rows) (suc place) row inside = row_at_set rows place row (omega arith)

row_at_other : (rows : List (Vec ℕ Global)) (place : ℕ) (row : Vec ℕ Global) (i : ℕ) → (place ≡ i → ⊥)
    → row_at (set rows place row) i ≡ row_at rows i
row_at_other [] place row i other = refl
row_at_other (r ∷ rows) zero row zero other = absurd (other refl)
row_at_other (r ∷ rows) zero row (suc i) other = refl
row_at_other (r ∷ rows) (suc place) row zero other = refl
row_at_other (r ∷ rows) (suc place) row (suc i) other = row_at_other rows place row i (λ e. other (ap suc e))

-- ---- what is added

Adds-append : (xs ys : List ℕ) → Adds xs (xs ++ ys) ys
Adds-append xs ys = record {
  each = λ x. (
    λ c. Contains-append_cases xs ys x c,
    λ h. elim h [ inl c ↦ Contains-append_left xs ys x c | inr c ↦ Contains-append_right xs ys x c ],
  );
}

-- what is added at one place or another
either : (near : List ℕ) (a b : Bool)
    → SameMembers ((if a then near else []) ++ (if b then near else [])) (if a || b then near else [])
either near true true = record {
  each = λ x. (
    λ c. elim (Contains-append_cases near near x c) [ inl d ↦ d | inr d ↦ d ],
    λ c. Contains-append_left near near x c,
  );
}
either near true false = SameMembers-is (near ++ []) near (append-nil near)
either near false b = SameMembers-itself (if b then near else [])

module _ (terms : List Term) (ds : List Declaration) (near : List ℕ) where
  pub AddsNear-none : (test : ℕ → Bool) (rows : List (Vec ℕ Global))
      → ((i : ℕ) (d : Declaration) → slice_get ds i ≡ Some d → has_siblings terms d ≡ true
      → test d.node ≡ true → ⊥) → AddsNear terms ds test near rows rows
  AddsNear-none test rows none = record {
    long = refl;
    each = λ i d at has.
        subst (λ (b : Bool). Adds (row_at rows i) (row_at rows i) (if b then near else []))
        (sym (false_from_ne_true (test d.node) (none i d at has))) (Adds-none (row_at rows i));
  }

  pub AddsNear-then : (one other both : ℕ → Bool) → ((n : ℕ) → both n ≡ (one n || other n))
      → (old mid new : List (Vec ℕ Global)) → AddsNear terms ds one near old mid
      → AddsNear terms ds other near mid new → AddsNear terms ds both near old new
  AddsNear-then one other both is old mid new first second = record {
    long = second.long ∙ first.long;
    each = λ i d at has.
        let a = one d.node in
        let b = other d.node in
        subst (λ (t : Bool). Adds (row_at old i) (row_at new i) (if t then near else [])) (sym (is d.node))
        (Adds-same _ _ (either near a b)
        (Adds-then (if a then near else []) (if b then near else []) (first.each i d at has)
        (second.each i d at has)));
  }

  -- at the place of a node
  module _ (distinct : IsDistinct nat_eq (nodes_declared ds)) (node : ℕ) where
    abbrev here : ℕ → Bool
    here n = node == n

    turned : (n : ℕ) → (node == n) ≡ true → (n == node) ≡ true
    turned n same = nat_eq_equiv.symm n node ∙ same

    pub near_nowhere : place_of ds node ≡ None → (rows : List (Vec ℕ Global))
        → AddsNear terms ds here near rows rows
    near_nowhere none rows =
        AddsNear-none here rows (λ i d at has same.
        absurd (let is = place_is ds distinct node i d at (turned d.node same) in cc))

    module _ (place : ℕ) (is : place_of ds node ≡ Some place) where
      pub near_alone : (alone : Declaration) → slice_get ds place ≡ Some alone
          → has_siblings terms alone ≡ false → (rows : List (Vec ℕ Global))
          → AddsNear terms ds here near rows rows
      near_alone alone stands hasnt rows =
          AddsNear-none here rows (λ i d at has same.
          let there = place_is ds distinct node i d at (turned d.node same) in
          let same_place : place ≡ i = cc in
          let moved = subst (λ k. slice_get ds k ≡ Some alone) same_place stands in
          let one : alone ≡ d = cc in
          absurd (true≢false (sym has ∙ ap (has_siblings terms) (sym one) ∙ hasnt)))

      pub near_added : (rows : List (Vec ℕ Global)) (row : Vec ℕ Global) → place < length rows
          → row.items ≡ row_at rows place ++ near → AddsNear terms ds here near rows (set rows place row)
      near_added rows row inside longer = record {
        long = length-set rows place row;
        each = λ i d at has.
            let new = row_at (set rows place row) i in
            elim (node == d.node) as
            (λ b. (node == d.node) ≡ b → Adds (row_at rows i) new (if b then near else [])) [
              | true ↦ λ same.
                  let there = place_is ds distinct node i d at (turned d.node same) in
                  let same_place : place ≡ i = cc in
                  let grown : new ≡ row_at rows i ++ near =
                  subst (λ k. row_at (set rows place row) k ≡ row_at rows k ++ near) same_place
                  (row_at_set rows place row inside ∙ longer) in
                  rw grown (Adds-append (row_at rows i) near)
              | false ↦ λ apart.
                  let other : place ≡ i → ⊥ =
                  λ same.
                  let stands = subst (λ k. place_of ds node ≡ Some k) same is in
                  let one = stands_at_place ds distinct node i stands d at in
                  true≢false (sym one ∙ nat_eq_equiv.symm d.node node ∙ apart) in
                  rw (row_at_other rows place row i other) (Adds-none (row_at rows i))
            ] refl;
      }

-- ---- what is gathered

module _ (terms : List Term) (ds : List Declaration) where
  pub AreNear-none : (rows : List (Vec ℕ Global)) → length rows ≡ length ds
      → ((i : ℕ) → row_at rows i ≡ []) → AreNear terms ds [] rows
  AreNear-none rows long empty = record {
    long = long;
    each = λ i d at has. SameMembers-is (row_at rows i) [] (empty i);
  }

  -- by one parent more
  parents_more : (parents : List Declaration) (parent : Declaration) (node : ℕ)
      → flat_map (qualified_within ds) (parents_of (parents ++ parent ∷ []) node)
      ≡ flat_map (qualified_within ds) (parents_of parents node)
      ++ (if is_among node (values_under parent SH_PROPERTY) then qualified_within ds parent else [])
  parents_more parents parent node =
      let test = λ (d : Declaration). is_among node (values_under d SH_PROPERTY) in
      let within = qualified_within ds in
      ap (flat_map within) (filter-append test parents (parent ∷ []))
      ∙ flat_map-append within (filter test parents) (filter test (parent ∷ []))
      ∙ ap (λ ns. flat_map within (filter test parents) ++ ns)
      (elim (test parent) as
      (λ b. flat_map within (if b then parent ∷ [] else []) ≡ (if b then within parent else []))
      [ true ↦ append-nil (within parent) | false ↦ refl ])

  pub AreNear-more : (parents : List Declaration) (parent : Declaration) (rows new : List (Vec ℕ Global))
      → AreNear terms ds parents rows
      → AddsNear terms ds (λ n. is_among n (values_under parent SH_PROPERTY)) (qualified_within ds parent)
      rows new
      → AreNear terms ds (parents ++ parent ∷ []) new
  AreNear-more parents parent rows new before adds = record {
    long = adds.long ∙ before.long;
    each = λ i d at has.
        subst (SameMembers (row_at new i)) (sym (parents_more parents parent d.node))
        (added_to (row_at rows i) (row_at new i) _ _ (before.each i d at has) (adds.each i d at has));
  }
    where
      added_to : (old new xs ys : List ℕ) → SameMembers old xs → Adds old new ys → SameMembers new (xs ++ ys)
      added_to old new xs ys same adds = record {
        each = λ x. (
          λ c. elim ((adds.each x).0 c) [
            | inl d ↦ Contains-append_left xs ys x ((same.each x).0 d)
            | inr d ↦ Contains-append_right xs ys x d
          ],
          λ c. (adds.each x).1 (elim (Contains-append_cases xs ys x c) [
            | inl d ↦ inl ((same.each x).1 d)
            | inr d ↦ inr d
          ]),
        );
      }
