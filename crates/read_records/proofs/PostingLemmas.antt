-- Postings: their order tells them apart; one more of them, one less, and a tree that is made of a list.
use Rattle.std.specs.Prelude.{◌≡◌, ℕ, Bool, true, false, if◌then◌else◌, List, [], ◌∷◌, ◌++◌}
use Rattle.std.specs.Prelude.{All, Contains, ◌↔◌}
use Rattle.std.specs.BTreeSet.{BTreeSet, IsFromIterResult}
use Rattle.std.specs.Cmp.{IsEquivalence, IsTotalOrder, eq_by_cmp_equiv, nat_cmp_total, on_total, then_total}
use Rattle.std.specs.Cmp.{unsigned_ties}
use Rattle.std.specs.List.{list_any}
use Rattle.std.specs.Ordering.{eq_by_cmp, is_eq, nat_cmp, ordering_then}
use Rattle.std.specs.declared.cmp.Ordering.{Ordering}
use Rattle.std.specs.declared.cmp.Ordering.TheVariants.{Less, Equal, Greater}
use Rattle.std.proofs.Common.{refl, sym, ap, ◌∙◌, inl, inr}
use Rattle.std.proofs.lemmas.Bool.{eqb-true}
use Rattle.std.proofs.lemmas.List.Elements.{Contains-append_left, Contains-append_right}
use Rattle.std.proofs.lemmas.List.Elements.{Contains-append_cases}
use Rattle.std.proofs.lemmas.Map.Lookups.{CmpEqualImpliesEq}
use Rattle.std.proofs.lemmas.Map.Views.{tells_apart}
use Rattle.shx_term.specs.Members.{Adds}
use Rattle.shx_term.proofs.MemberLemmas.{All_of_each, Contains-one, Contains-entered, Contains-remove}
use Rattle.shx_term.proofs.MemberLemmas.{Contains-test, each_of_All}
use Rattle.read_records.specs.declared.posting.Place.{Place}
use Rattle.read_records.specs.declared.posting.Posting.{Posting}
use Rattle.read_records.specs.declared.posting.Whom.{Whom}
use Rattle.read_records.specs.inner.Postings.{HasNumbers, IsWithout, place_cmp, posting_cmp, whom_cmp}

-- ---- orders that tell apart

first_Equal : (a b : Ordering) → ordering_then a b ≡ Equal → a ≡ Equal
first_Equal Less b e = e
first_Equal Equal b e = refl
first_Equal Greater b e = e

second_Equal : (a b : Ordering) → ordering_then a b ≡ Equal → b ≡ Equal
second_Equal Less b e = cc
second_Equal Equal b e = e
second_Equal Greater b e = cc

nat_cmp_exact : (a b : ℕ) → nat_cmp a b ≡ Equal → a ≡ b
nat_cmp_exact a b e = eqb-true a b (unsigned_ties a b ∙ ap is_eq e)

pub place_cmp_total : IsTotalOrder place_cmp
place_cmp_total =
    then_total (on_total (λ (x : Place). x.first) nat_cmp_total)
    (on_total (λ (x : Place). x.second) nat_cmp_total)

pub place_cmp_exact : CmpEqualImpliesEq place_cmp
place_cmp_exact x y e =
    let first = nat_cmp_exact x.first y.first (first_Equal _ (nat_cmp x.second y.second) e) in
    let second = nat_cmp_exact x.second y.second (second_Equal (nat_cmp x.first y.first) _ e) in
    λ i. record { first = first i; second = second i }

whom_cmp_total : IsTotalOrder whom_cmp
whom_cmp_total =
    then_total (on_total (λ (x : Whom). x.shape) nat_cmp_total)
    (on_total (λ (x : Whom). x.node) nat_cmp_total)

whom_cmp_exact : CmpEqualImpliesEq whom_cmp
whom_cmp_exact x y e =
    let shape = nat_cmp_exact x.shape y.shape (first_Equal _ (nat_cmp x.node y.node) e) in
    let node = nat_cmp_exact x.node y.node (second_Equal (nat_cmp x.shape y.shape) _ e) in
    λ i. record { shape = shape i; node = node i }

pub posting_cmp_total : IsTotalOrder posting_cmp
posting_cmp_total =
    then_total (on_total (λ (x : Posting). x.place) place_cmp_total)
    (on_total (λ (x : Posting). x.whom) whom_cmp_total)

pub posting_cmp_exact : CmpEqualImpliesEq posting_cmp
posting_cmp_exact x y e =
    let places = place_cmp_exact x.place y.place (first_Equal _ (whom_cmp x.whom y.whom) e) in
    let whoms = whom_cmp_exact x.whom y.whom (second_Equal (place_cmp x.place y.place) _ e) in
    λ i. record { place = places i; whom = whoms i }

abbrev pub same_posting : Posting → Posting → Bool
same_posting x y = eq_by_cmp posting_cmp x y

same_posting_equiv : IsEquivalence same_posting
same_posting_equiv = eq_by_cmp_equiv posting_cmp_total

same_posting_exact : (x y : Posting) → same_posting x y ≡ true → x ≡ y
same_posting_exact = tells_apart posting_cmp_exact

-- ---- one more, and one less

pub Adds-posting : (old new : List Posting) (x : Posting)
    → ((y : Posting) → list_any (same_posting y) new
    ≡ (if same_posting x y then true else list_any (same_posting y) old))
    → Adds old new (x ∷ [])
Adds-posting old new x entered = record {
  each = λ y.
      let there = Contains-entered same_posting same_posting_equiv same_posting_exact old new x entered y in (
        λ c. elim (there.0 c) [ inl held ↦ inl held | inr same ↦ inr ((Contains-one x y).1 same) ],
        λ h. there.1 (elim h [ inl held ↦ inl held | inr c ↦ inr ((Contains-one x y).0 c) ]),
      );
}

pub Adds-pushed : (xs : List Posting) (x : Posting) → Adds xs (xs ++ x ∷ []) (x ∷ [])
Adds-pushed xs x = record {
  each = λ y. (
    λ c. Contains-append_cases xs (x ∷ []) y c,
    λ h. elim h [
      | inl c ↦ Contains-append_left xs (x ∷ []) y c
      | inr c ↦ Contains-append_right xs (x ∷ []) y c
    ],
  );
}

pub IsWithout-posting : (old new : List Posting) (x : Posting)
    → ((y : Posting) → list_any (same_posting y) new
    ≡ (if same_posting x y then false else list_any (same_posting y) old))
    → IsWithout old new x
IsWithout-posting old new x removed = record {
  each = λ y. Contains-remove same_posting same_posting_equiv same_posting_exact old new x removed y;
}

-- ---- a tree that is made of a list

pub Contains-collected : (xs : List Posting) (set : BTreeSet Posting) → IsFromIterResult posting_cmp xs set
    → (x : Posting) → Contains set.keys x ↔ Contains xs x
Contains-collected xs set made x =
    let held = Contains-test same_posting same_posting_equiv same_posting_exact set.keys x in
    let given = Contains-test same_posting same_posting_equiv same_posting_exact xs x in (
      λ c. given.0 (sym (made.0 x) ∙ held.1 c),
      λ c. held.0 (made.0 x ∙ given.1 c),
    )

pub HasNumbers-collected : (xs : List Posting) (set : BTreeSet Posting) → IsFromIterResult posting_cmp xs set
    → All HasNumbers xs → All HasNumbers set.keys
HasNumbers-collected xs set made numbers =
    All_of_each HasNumbers set.keys
    (λ x c. each_of_All HasNumbers xs numbers x ((Contains-collected xs set made x).0 c))
