-- The images of a list's elements, of which some have none: which they are, and where they are distinct.
use Rattle.std.specs.Prelude.{◌≡◌, Bool, true, false, All, Contains, List, [], ◌∷◌, ◌⊎◌, Option, Some, None}
use Rattle.std.specs.List.{AllByRecursion, IsDistinct, cons_option, filter_map}
use Rattle.std.specs.Cmp.{IsEquivalence}
use Rattle.std.proofs.Common.{refl, sym, ap, ◌∙◌, subst, inl, inr, true≢false}
use Rattle.std.proofs.lemmas.List.Elements.{recursion_from_All, All-from_recursion}
use Rattle.std.proofs.lemmas.Map.Keys.{IsDistinct-head, IsDistinct-tail, IsDistinct-cons}
use Rattle.shx_term.proofs.MemberLemmas.{All_of_each, each_of_All, none_in_empty}
use Rattle.shx_term.proofs.MemberLemmas.{Contains-cases, Contains-head, Contains-tail}
use Rattle.graph_view.proofs.PatchedLemmas.{is_false}

module _ {A B : Type 0} (f : A → Option B) where
  cons_cases : (o : Option B) (ys : List B) (y : B) → Contains (cons_option o ys) y
      → (o ≡ Some y) ⊎ Contains ys y
  cons_cases None ys y c = inr c
  cons_cases (Some z) ys y c =
      elim (Contains-cases z y ys c) [ inl e ↦ inl (ap Some (sym e)) | inr d ↦ inr d ]

  cons_later : (o : Option B) (ys : List B) (y : B) → Contains ys y → Contains (cons_option o ys) y
  cons_later None ys y c = c
  cons_later (Some z) ys y c = Contains-tail z y ys c

  pub Contains-filter_map : (xs : List A) (x : A) (y : B) → Contains xs x → f x ≡ Some y
      → Contains (filter_map f xs) y
  Contains-filter_map [] x y c e = absurd (none_in_empty x c)
  Contains-filter_map (z ∷ zs) x y c e = elim (Contains-cases z x zs c) [
    | inl same ↦
        subst (λ o. Contains (cons_option o (filter_map f zs)) y) (sym (ap f (sym same) ∙ e))
        (Contains-head y (filter_map f zs))
    | inr d ↦ cons_later (f z) (filter_map f zs) y (Contains-filter_map zs x y d e)
  ]

  pub Contains-from_filter_map : (xs : List A) (y : B) → Contains (filter_map f xs) y
      → (x : A) × Contains xs x × (f x ≡ Some y)
  Contains-from_filter_map [] y c = absurd (none_in_empty y c)
  Contains-from_filter_map (x ∷ xs) y c = elim (cons_cases (f x) (filter_map f xs) y c) [
    | inl e ↦ (x, Contains-head x xs, e)
    | inr d ↦
        let found = Contains-from_filter_map xs y d in
        (found.0, Contains-tail x found.0 xs found.1, found.2)
  ]

  -- they are distinct where elements with one image are one
  module _ (one : A → A → Bool) (laws : IsEquivalence one) (same : B → B → Bool)
      (exact : (y z : B) → same y z ≡ true → y ≡ z)
      (apart : (w x : A) (y : B) → f w ≡ Some y → f x ≡ Some y → w ≡ x) where
    image_apart : (x : A) (xs : List A) (y : B) → AllByRecursion (λ z. one x z ≡ false) xs → f x ≡ Some y
        → All (λ z. same y z ≡ false) (filter_map f xs)
    image_apart x xs y all e =
        All_of_each (λ z. same y z ≡ false) (filter_map f xs) (λ z c. is_false (same y z) (λ h.
        let found = Contains-from_filter_map xs z c in
        let w = found.0 in
        let it : x ≡ w = apart x w z (e ∙ ap Some (exact y z h)) found.2 in
        let other : one x w ≡ false =
        each_of_All (λ v. one x v ≡ false) xs (All-from_recursion (λ v. one x v ≡ false) xs all) w found.1 in
        true≢false (sym (laws.refl x) ∙ ap (one x) it ∙ other)))

    pub IsDistinct-filter_map : (xs : List A) → IsDistinct one xs → IsDistinct same (filter_map f xs)
    unfolding IsDistinct
    IsDistinct-filter_map [] distinct = tt
    IsDistinct-filter_map (x ∷ xs) distinct =
        by (f x) refl (IsDistinct-filter_map xs (IsDistinct-tail one x xs distinct))
      where
        by : (o : Option B) → f x ≡ o → IsDistinct same (filter_map f xs)
            → IsDistinct same (cons_option o (filter_map f xs))
        by None e rest = rest
        by (Some y) e rest =
            IsDistinct-cons same y (filter_map f xs)
            (recursion_from_All (λ z. same y z ≡ false) (filter_map f xs)
            (image_apart x xs y (IsDistinct-head one x xs distinct) e)) rest
