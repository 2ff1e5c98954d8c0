-- Members of lists, which are seen as sets.
use Rattle.std.specs.Prelude.{◌≡◌, ℕ, ◌<◌, Bool, true, false, List, [], ◌∷◌, ◌++◌, map, flat_map, filter}
use Rattle.std.specs.Prelude.{length, if◌then◌else◌, All, Contains, ◌↔◌, ◌⊎◌}
use Rattle.std.specs.Cmp.{IsEquivalence, first_so, second_so}
use Rattle.std.specs.List.{list_any, list_all}
use Rattle.std.proofs.Common.{refl, sym, ap, ◌∙◌, subst, inl, inr, get_or, true≢false, arith}
use Rattle.std.proofs.lemmas.List.{get_or_default}
use Rattle.std.proofs.lemmas.List.Elements.{Contains-push, Contains-push_cases, Contains-append_left}
use Rattle.std.proofs.lemmas.List.Elements.{Contains-append_right, Contains-append_cases}
use Rattle.std.proofs.lemmas.Map.Views.{Contains-from_any, list_any-from_Contains}

module _ {K : Type 0} where
  pub none_in_empty : (x : K) → Contains [] x → ⊥
  none_in_empty x c = absurd (omega (arith, c.1))

  pub Contains-one : (x y : K) → Contains (x ∷ []) y ↔ (y ≡ x)
  Contains-one x y = (
    λ c. elim (Contains-push_cases [] x y c) [ inl c ↦ absurd (none_in_empty y c) | inr e ↦ sym e ],
    λ e. subst (Contains (x ∷ [])) (sym e) (Contains-push [] x),
  )

  pub Contains-head : (x : K) (xs : List K) → Contains (x ∷ xs) x
  Contains-head x xs = Contains-append_left (x ∷ []) xs x ((Contains-one x x).1 refl)

  pub Contains-tail : (x y : K) (xs : List K) → Contains xs y → Contains (x ∷ xs) y
  Contains-tail x y xs c = Contains-append_right (x ∷ []) xs y c

  pub Contains-cases : (x y : K) (xs : List K) → Contains (x ∷ xs) y → (y ≡ x) ⊎ Contains xs y
  Contains-cases x y xs c =
      elim (Contains-append_cases (x ∷ []) xs y c) [ inl d ↦ inl ((Contains-one x y).0 d) | inr d ↦ inr d ]

  module _ (same : K → K → Bool) (laws : IsEquivalence same)
      (exact : (x y : K) → same x y ≡ true → x ≡ y) where
    -- an exact test decides membership
    pub Contains-test : (xs : List K) (x : K) → (list_any (same x) xs ≡ true) ↔ Contains xs x
    Contains-test xs x = (Contains-from_any exact x xs, list_any-from_Contains laws x xs)

    -- the members after an insertion into a list of distinct members
    pub Contains-insert : (xs : List K) (x y : K)
        → Contains (if list_any (same x) xs then xs else xs ++ x ∷ []) y ↔ (Contains xs y ⊎ (y ≡ x))
    Contains-insert xs x y =
        elim (list_any (same x) xs) as
        (λ b. list_any (same x) xs ≡ b
        → Contains (if b then xs else xs ++ x ∷ []) y ↔ (Contains xs y ⊎ (y ≡ x))) [
          | true ↦ λ held. (
            λ c. inl c,
            λ h. elim h [
              | inl c ↦ c
              | inr e ↦ subst (Contains xs) (sym e) ((Contains-test xs x).0 held)
            ],
          )
          | false ↦ λ _. (
            λ c. elim (Contains-push_cases xs x y c) [ inl d ↦ inl d | inr e ↦ inr (sym e) ],
            λ h. elim h [
              | inl c ↦ Contains-append_left xs (x ∷ []) y c
              | inr e ↦ subst (Contains (xs ++ x ∷ [])) (sym e) (Contains-push xs x)
            ],
          )
        ] refl

    -- the members after an element was entered, wherever it stands now
    pub Contains-entered : (old new : List K) (x : K)
        → ((y : K) → list_any (same y) new ≡ (if same x y then true else list_any (same y) old))
        → (y : K) → Contains new y ↔ (Contains old y ⊎ (y ≡ x))
    Contains-entered old new x entered y =
        elim (same x y) as
        (λ b. same x y ≡ b → list_any (same y) new ≡ (if b then true else list_any (same y) old)
        → Contains new y ↔ (Contains old y ⊎ (y ≡ x))) [
          | true ↦ λ tied there. (
            λ _. inr (sym (exact x y tied)),
            λ _. (Contains-test new y).0 there,
          )
          | false ↦ λ apart kept. (
            λ c. inl ((Contains-test old y).0 (sym kept ∙ (Contains-test new y).1 c)),
            λ h. elim h [
              | inl c ↦ (Contains-test new y).0 (kept ∙ (Contains-test old y).1 c)
              | inr e ↦ absurd (true≢false (sym (laws.refl x) ∙ ap (same x) (sym e) ∙ apart))
            ],
          )
        ] refl (entered y)

    -- the members of what is left where an element is removed
    pub Contains-remove : (xs left : List K) (x : K)
        → ((y : K) → list_any (same y) left ≡ (if same x y then false else list_any (same y) xs))
        → (y : K) → Contains left y ↔ (Contains xs y × (y ≡ x → ⊥))
    Contains-remove xs left x removed y =
        elim (same x y) as
        (λ b. same x y ≡ b → list_any (same y) left ≡ (if b then false else list_any (same y) xs)
        → Contains left y ↔ (Contains xs y × (y ≡ x → ⊥))) [
          | true ↦ λ tied gone. (
            λ c. absurd (true≢false (sym ((Contains-test left y).1 c) ∙ gone)),
            λ held. absurd (held.1 (sym (exact x y tied))),
          )
          | false ↦ λ apart kept. (
            λ c. (
              (Contains-test xs y).0 (sym kept ∙ (Contains-test left y).1 c),
              λ e. true≢false (sym (laws.refl x) ∙ ap (same x) (sym e) ∙ apart),
            ),
            λ held. (Contains-test left y).0 (kept ∙ (Contains-test xs y).1 held.0),
          )
        ] refl (removed y)

-- what holds of all holds of each member, and the other way
module _ {K : Type 0} (P : K → Type 0) where
  pub each_of_All : (xs : List K) → All P xs → (x : K) → Contains xs x → P x
  each_of_All xs all x c = subst P c.2 (all c.0 x c.1)

  pub All_of_each : (xs : List K) → ((x : K) → Contains xs x → P x) → All P xs
  All_of_each xs each =
      λ k d inside. each (get_or xs k d) (k, inside, get_or_default xs k (get_or xs k d) d inside)

-- the members of a list's images, and of what a filter keeps
module _ {A B : Type 0} (f : A → B) where
  pub Contains-map : (xs : List A) (x : A) → Contains xs x → Contains (map f xs) (f x)
  Contains-map [] x c = absurd (none_in_empty x c)
  Contains-map (y ∷ ys) x c = elim (Contains-cases y x ys c) [
    | inl e ↦ subst (λ z. Contains (map f (y ∷ ys)) (f z)) (sym e) (Contains-head (f y) (map f ys))
    | inr d ↦ Contains-tail (f y) (f x) (map f ys) (Contains-map ys x d)
  ]

  pub Contains-from_map : (xs : List A) (z : B) → Contains (map f xs) z → (x : A) × Contains xs x × (z ≡ f x)
  Contains-from_map [] z c = absurd (none_in_empty z c)
  Contains-from_map (y ∷ ys) z c = elim (Contains-cases (f y) z (map f ys) c) [
    | inl e ↦ (y, Contains-head y ys, e)
    | inr d ↦ let found = Contains-from_map ys z d in (found.0, Contains-tail y found.0 ys found.1, found.2)
  ]

-- the members of the lists that a function makes of a list's members
module _ {A B : Type 0} (f : A → List B) where
  pub Contains-flat_map : (xs : List A) (x : A) (z : B) → Contains xs x → Contains (f x) z
      → Contains (flat_map f xs) z
  Contains-flat_map [] x z c d = absurd (none_in_empty x c)
  Contains-flat_map (y ∷ ys) x z c d = elim (Contains-cases y x ys c) [
    | inl e ↦ Contains-append_left (f y) (flat_map f ys) z (subst (λ w. Contains (f w) z) e d)
    | inr later ↦ Contains-append_right (f y) (flat_map f ys) z (Contains-flat_map ys x z later d)
  ]

  pub Contains-from_flat_map : (xs : List A) (z : B)
      → Contains (flat_map f xs) z → (x : A) × Contains xs x × Contains (f x) z
  Contains-from_flat_map [] z c = absurd (none_in_empty z c)
  Contains-from_flat_map (y ∷ ys) z c = elim (Contains-append_cases (f y) (flat_map f ys) z c) [
    | inl d ↦ (y, Contains-head y ys, d)
    | inr d ↦
        let found = Contains-from_flat_map ys z d in
        (found.0, Contains-tail y found.0 ys found.1, found.2)
  ]

module _ {A : Type 0} (p : A → Bool) where
  pub Contains-filter : (xs : List A) (x : A) → Contains xs x → p x ≡ true → Contains (filter p xs) x
  Contains-filter [] x c h = absurd (none_in_empty x c)
  Contains-filter (y ∷ ys) x c h = elim (Contains-cases y x ys c) [
    | inl e ↦ rw (ap p (sym e) ∙ h)
        (subst (λ z. Contains (z ∷ filter p ys) x) e (Contains-head x (filter p ys)))
    | inr d ↦ kept (Contains-filter ys x d h) (p y)
  ]
    where
      kept : Contains (filter p ys) x → (b : Bool) → Contains (if b then y ∷ filter p ys else filter p ys) x
      kept c true = Contains-tail y x (filter p ys) c
      kept c false = c

  pub Contains-from_filter : (xs : List A) (x : A) → Contains (filter p xs) x → Contains xs x × (p x ≡ true)
  Contains-from_filter [] x c = absurd (none_in_empty x c)
  Contains-from_filter (y ∷ ys) x c =
      elim (p y) as
      (λ b. p y ≡ b → Contains (if b then y ∷ filter p ys else filter p ys) x
      → Contains (y ∷ ys) x × (p x ≡ true)) [
        | true ↦ λ h d. elim (Contains-cases y x (filter p ys) d) [
          | inl e ↦ (subst (λ z. Contains (y ∷ ys) z) (sym e) (Contains-head y ys), ap p e ∙ h)
          | inr k ↦ let rest = Contains-from_filter ys x k in (Contains-tail y x ys rest.0, rest.1)
        ]
        | false ↦ λ _ d. let rest = Contains-from_filter ys x d in (Contains-tail y x ys rest.0, rest.1)
      ] refl c

  -- a test that each member passes
  pub list_all_of : (xs : List A) → ((x : A) → Contains xs x → p x ≡ true) → list_all p xs ≡ true
  list_all_of [] each = refl
  list_all_of (y ∷ ys) each =
      rw (each y (Contains-head y ys)) (list_all_of ys (λ x c. each x (Contains-tail y x ys c)))

  pub each_passes : (xs : List A) → list_all p xs ≡ true → (x : A) → Contains xs x → p x ≡ true
  each_passes [] all x c = absurd (none_in_empty x c)
  each_passes (y ∷ ys) all x c = elim (Contains-cases y x ys c) [
    | inl e ↦ ap p e ∙ first_so (p y) (list_all p ys) all
    | inr d ↦ each_passes ys (second_so (p y) (list_all p ys) all) x d
  ]

-- the element at a place is a member
pub Contains-at : {X : Type 0} (xs : List X) (i : ℕ) (d : X) → i < length xs → Contains xs (get_or xs i d)
Contains-at xs i d inside = (i, inside, get_or_default xs i (get_or xs i d) d inside)

module _ {X : Type 0} (P : X → Type 0) (x : X) (xs : List X) where
  pub All_head : All P (x ∷ xs) → P x
  All_head all = each_of_All P (x ∷ xs) all x (Contains-head x xs)

  pub All_tail : All P (x ∷ xs) → All P xs
  All_tail all = All_of_each P xs (λ y c. each_of_All P (x ∷ xs) all y (Contains-tail x y xs c))

-- what holds of all that is made of members holds of what is made of one
module _ {X Y : Type 0} (P : Y → Type 0) where
  pub All_mapped : (k : X → Y) (xs : List X) (i : ℕ) (d : X) → i < length xs → All P (map k xs)
      → P (k (get_or xs i d))
  All_mapped k xs i d inside all =
      each_of_All P (map k xs) all (k (get_or xs i d))
      (Contains-map k xs (get_or xs i d) (Contains-at xs i d inside))

  pub All_part : (f : X → List Y) (xs : List X) (i : ℕ) (d : X) → i < length xs → All P (flat_map f xs)
      → All P (f (get_or xs i d))
  All_part f xs i d inside all =
      All_of_each P (f (get_or xs i d))
      (λ y c. each_of_All P (flat_map f xs) all y
      (Contains-flat_map f xs (get_or xs i d) y (Contains-at xs i d inside) c))

-- lists whose parts are the same
module _ {A B : Type 0} where
  pub map_agree : (f g : A → B) (xs : List A) → ((x : A) → Contains xs x → f x ≡ g x) → map f xs ≡ map g xs
  map_agree f g [] same = refl
  map_agree f g (x ∷ xs) same =
      rw (same x (Contains-head x xs), map_agree f g xs (λ y c. same y (Contains-tail x y xs c))) refl

  pub flat_map_agree : (f g : A → List B) (xs : List A) → ((x : A) → Contains xs x → f x ≡ g x)
      → flat_map f xs ≡ flat_map g xs
  flat_map_agree f g [] same = refl
  flat_map_agree f g (x ∷ xs) same =
      rw (same x (Contains-head x xs), flat_map_agree f g xs (λ y c. same y (Contains-tail x y xs c))) refl

pub filter_agree : {A : Type 0} (p q : A → Bool) (xs : List A) → ((x : A) → Contains xs x → p x ≡ q x)
    → filter p xs ≡ filter q xs
filter_agree p q [] same = refl
filter_agree p q (x ∷ xs) same =
    rw (same x (Contains-head x xs), filter_agree p q xs (λ y c. same y (Contains-tail x y xs c))) refl
