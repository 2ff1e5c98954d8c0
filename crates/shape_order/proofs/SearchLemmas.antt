-- What a search keeps: the shapes on its way, each with the place of its next reference.
use Rattle.std.specs.Prelude.{◌≡◌, ℕ, ◌+◌, ◌-◌, ◌*◌, ◌<◌, ◌≤◌, nat_eq, List, [], ◌∷◌, ◌++◌, length, Some}
use Rattle.std.specs.Prelude.{Contains, All}
use Rattle.std.specs.List.{IsDistinct}
use Rattle.std.proofs.Common.{refl, ap, ◌∙◌, subst, arith, get_or, inl, inr}
use Rattle.std.proofs.lemmas.Bool.{cases_lt}
use Rattle.std.proofs.lemmas.List.{get_or_default, map_push, length_push}
use Rattle.std.proofs.lemmas.List.Elements.{All-pop}
use Rattle.std.proofs.lemmas.Map.Steps.{length-le_from_distinct_below}
use Rattle.shape_order.specs.declared.references.Reference.{Reference}
use Rattle.shape_order.specs.declared.visits.Visit.{Visit}
use Rattle.shape_order.specs.inner.Listed.{with_shape}
use Rattle.shape_order.specs.inner.Search.{AreListed, IsNext}
use Rattle.shape_order.specs.inner.Visits.{way_of}
use Rattle.shape_order.proofs.ListedLemmas.{held_is, with_shape-new}

-- the references before the place are done
pub record IsVisit (to : ℕ → List ℕ) (count : ℕ) (done : List ℕ) (v : Visit) : Type 0 where
  pub within : v.shape < count
  pub passed : AreListed (to v.shape) done 0 v.place

pub way_push : (visits : List Visit) (v : Visit) → way_of (visits ++ v ∷ []) ≡ way_of visits ++ v.shape ∷ []
way_push visits v = map_push (λ v. v.shape) visits v

-- none of the references is done
pub IsVisit-new : (to : ℕ → List ℕ) (count : ℕ) (done : List ℕ) (shape : ℕ) → shape < count
    → IsVisit to count done (record { shape = shape; place = 0 })
IsVisit-new to count done shape below = record {
  within = below;
  passed = record { each = λ k low high. absurd (omega arith) };
}

-- more is done
pub IsVisit-more : (to : ℕ → List ℕ) (count : ℕ) (done more : List ℕ)
    → ((y : ℕ) → Contains done y → Contains more y) → (v : Visit)
    → IsVisit to count done v → IsVisit to count more v
IsVisit-more to count done more keeps v visit = record {
  within = visit.within;
  passed = record { each = λ k low high. keeps (get_or (to v.shape) k 0) (visit.passed.each k low high) };
}

module _ (shapes done : List ℕ) (place : ℕ) (passed : AreListed shapes done 0 place) where
  -- where the others are done too, all are
  pub all_done : AreListed shapes done place (length shapes) → (j : ℕ) → Contains shapes j → Contains done j
  all_done left j c =
      let is : get_or shapes c.0 0 ≡ j = get_or_default shapes c.0 0 j c.1 ∙ c.2 in
      subst (Contains done) is (elim (cases_lt c.0 place) [
        | inl low ↦ passed.each c.0 (omega arith) low
        | inr high ↦ left.each c.0 high c.1
      ])

  pub passed_next : (r : Reference) → IsNext shapes done place r → AreListed shapes done 0 r.place
  passed_next r next = record {
    each = λ k low high. elim (cases_lt k place) [
      | inl near ↦ passed.each k low near
      | inr far ↦ next.passed.each k far high
    ];
  }

-- the next reference is one
pub next_refers : (shapes done : List ℕ) (place : ℕ) (r : Reference) → IsNext shapes done place r
    → Contains shapes r.shape
next_refers shapes done place r next =
    (r.place, next.within, get_or_default shapes r.place r.shape 0 next.within ∙ next.is)

-- there are no more shapes than there are
pub few : (xs : List ℕ) (count : ℕ) → IsDistinct nat_eq xs → ((y : ℕ) → Contains xs y → y < count)
    → length xs ≤ count
few xs count distinct within =
    length-le_from_distinct_below xs count distinct (λ q e. within q ((held_is xs q).0 e))

-- what is on the way without the last
pub All-front : {X : Type 0} (P : X → Type 0) (xs : List X) (x : X) → All P (xs ++ x ∷ []) → All P xs × P x
All-front P xs x all = All-pop P (xs ++ x ∷ []) xs (Some x) refl all

-- the measure of a search: those that may still be met, and those on the way
pub met_one : (seen : List ℕ) (rest : List Visit) (x count : ℕ) (v here there : Visit)
    → IsDistinct nat_eq (with_shape seen x) → ((y : ℕ) → Contains (with_shape seen x) y → y < count)
    → (Contains seen x → ⊥)
    → length ((rest ++ here ∷ []) ++ there ∷ []) + 2 * (count - length (with_shape seen x))
    < length (rest ++ v ∷ []) + 2 * (count - length seen)
met_one seen rest x count v here there distinct within new =
    let near = few (with_shape seen x) count distinct within in
    let longer : length (with_shape seen x) ≡ length seen + 1 =
    ap length (with_shape-new seen x new) ∙ length_push seen x in
    let a = length_push (rest ++ here ∷ []) there in
    let b = length_push rest here in
    let d = length_push rest v in
    omega (arith, a, b, d, near, longer)
