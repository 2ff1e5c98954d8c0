-- What is said in order: by component, and then by parameter in term order.
use Rattle.std.specs.Prelude.{◌≡◌, ℕ, ◌<◌, ◌≤◌, suc, List, [], ◌∷◌, ◌++◌, length, map}
use Rattle.std.specs.Prelude.{All, Contains, ◌⊎◌}
use Rattle.std.specs.List.{AllPairs}
use Rattle.std.specs.List.Sorted.{IsStrictlySortedBy}
use Rattle.std.specs.declared.cmp.Ordering.TheVariants.{Less}
use Rattle.std.proofs.Common.{sym, ap, ◌∙◌, subst, arith, inl, inr, get_or}
use Rattle.std.proofs.lemmas.List.{get_or-map, length-map}
use Rattle.std.proofs.lemmas.List.Elements.{All-append, All-map, Contains-append_cases}
use Rattle.std.proofs.lemmas.List.Kept.{AllPairs-cons}
use Rattle.std.proofs.lemmas.Map.Keys.{Less-from_sorted}
use Rattle.shx_term.specs.IdOrder.{id_cmp}
use Rattle.shx_term.specs.declared.term.Term.{Term}
use Rattle.shx_term.proofs.MemberLemmas.{All_of_each, Contains-from_map, Contains-head, Contains-tail}
use Rattle.shape_compile.specs.Constraints.{Saying}

-- ---- each of a list before all behind it

module _ {X : Type 0} (R : X → X → Type 0) where
  behind_first : (x : X) (xs : List X) → AllPairs R (x ∷ xs) → All (R x) xs
  behind_first x xs pairs = λ k d h. pairs 0 (suc k) d (omega arith) (omega (arith, h))

  AllPairs-rest : (x : X) (xs : List X) → AllPairs R (x ∷ xs) → AllPairs R xs
  AllPairs-rest x xs pairs = λ i j d h l. pairs (suc i) (suc j) d (omega (arith, h)) (omega (arith, l))

  pub AllPairs-none : AllPairs R []
  AllPairs-none = λ i j d h l. absurd (omega (arith, l))

  pub AllPairs-append : (xs ys : List X) → AllPairs R xs → AllPairs R ys
      → ((x : X) → Contains xs x → All (R x) ys) → AllPairs R (xs ++ ys)
  AllPairs-append [] ys a b across = b
  AllPairs-append (x ∷ xs) ys a b across =
      AllPairs-cons R x (xs ++ ys)
      (All-append (R x) xs ys (behind_first x xs a) (across x (Contains-head x xs)))
      (AllPairs-append xs ys (AllPairs-rest x xs a) b (λ y c. across y (Contains-tail x y xs c)))

  -- one element at most
  pub AllPairs-short : (xs : List X) → length xs ≤ 1 → AllPairs R xs
  AllPairs-short xs short = λ i j d h l. absurd (omega (arith, h, l, short))

module _ {X Y : Type 0} (R : Y → Y → Type 0) (f : X → Y) where
  pub AllPairs-map : (xs : List X) → AllPairs (λ x y. R (f x) (f y)) xs → AllPairs R (map f xs)
  AllPairs-map [] pairs = AllPairs-none R
  AllPairs-map (x ∷ xs) pairs =
      AllPairs-cons R (f x) (map f xs)
      (All-map (R (f x)) f xs (behind_first (λ y z. R (f y) (f z)) x xs pairs))
      (AllPairs-map xs (AllPairs-rest (λ y z. R (f y) (f z)) x xs pairs))

  pub AllPairs-from_map : (xs : List X) → AllPairs R (map f xs) → AllPairs (λ x y. R (f x) (f y)) xs
  AllPairs-from_map xs pairs = λ i j d h l.
      let long : j < length (map f xs) = subst (λ n. j < n) (sym (length-map xs f)) l in
      subst (λ y. R y (f (get_or xs j d))) (get_or-map f xs i d (f d) (omega (arith, h, l)))
      (subst (λ y. R (get_or (map f xs) i (f d)) y) (get_or-map f xs j d (f d) l) (pairs i j (f d) h long))

-- ---- what is said

module _ (terms : List Term) where
  -- the one stands before the other
  abbrev pub Precedes : Saying → Saying → Type 0
  Precedes s t =
      (s.kind < t.kind) ⊎ ((s.kind ≡ t.kind) × (id_cmp terms s.parameter t.parameter ≡ Less))

  -- of components from one number up to another, in order, and each of them sound
  pub record AreSaid (IsSound : Saying → Type 0) (low high : ℕ) (ss : List Saying) : Type 0 where
    pub upward : low ≤ high
    pub turn : AllPairs Precedes ss
    pub within : (s : Saying) → Contains ss s → (low ≤ s.kind) × (s.kind < high)
    pub each : (s : Saying) → Contains ss s → IsSound s

  module _ {IsSound : Saying → Type 0} where
    pub AreSaid-append : {low mid high : ℕ} {xs ys : List Saying} → AreSaid IsSound low mid xs
        → AreSaid IsSound mid high ys → AreSaid IsSound low high (xs ++ ys)
    AreSaid-append {low} {mid} {high} {xs} {ys} a b =
        let up = a.upward in
        let on = b.upward in
        record {
          upward = omega arith;
          turn = AllPairs-append Precedes xs ys a.turn b.turn (λ s c. All_of_each (Precedes s) ys (λ t d.
              let below : s.kind < mid = (a.within s c).1 in
              let above : mid ≤ t.kind = (b.within t d).0 in
              inl (omega arith)));
          within = λ s c. elim (Contains-append_cases xs ys s c) [
            | inl d ↦ (let w = a.within s d in (w.0, (let h = w.1 in omega arith)))
            | inr d ↦ (let w = b.within s d in ((let h = w.0 in omega arith), w.1))
          ];
          each = λ s c. elim (Contains-append_cases xs ys s c) [ inl d ↦ a.each s d | inr d ↦ b.each s d ];
        }

    -- of one component
    pub AreSaid-one : (kind : ℕ) (ss : List Saying) → AllPairs Precedes ss
        → ((s : Saying) → Contains ss s → (s.kind ≡ kind) × IsSound s) → AreSaid IsSound kind (suc kind) ss
    AreSaid-one kind ss turn each = record {
      upward = omega arith;
      turn = turn;
      within = λ s c. let e = (each s c).0 in (omega arith, omega arith);
      each = λ s c. (each s c).1;
    }

    -- one for each of a list whose parameters are in order
    pub AreSaid-mapped : {A : Type 0} (f : A → Saying) (kind : ℕ) (xs : List A)
        → ((x : A) → (f x).kind ≡ kind)
        → AllPairs (λ x y. id_cmp terms (f x).parameter (f y).parameter ≡ Less) xs
        → ((x : A) → Contains xs x → IsSound (f x)) → AreSaid IsSound kind (suc kind) (map f xs)
    AreSaid-mapped f kind xs kinds turn each =
        AreSaid-one kind (map f xs)
        (AllPairs-map Precedes f xs
        (λ i j d h l. inr (kinds (get_or xs i d) ∙ sym (kinds (get_or xs j d)), turn i j d h l)))
        (λ s c. let from = Contains-from_map f xs s c in (
          ap (λ (t : Saying). t.kind) from.2 ∙ kinds from.0,
          subst IsSound (sym from.2) (each from.0 from.1),
        ))

  -- numbers in order, pair by pair
  pub each_Less : (ids : List ℕ) → IsStrictlySortedBy (id_cmp terms) ids
      → AllPairs (λ a b. id_cmp terms a b ≡ Less) ids
  each_Less ids sorted = λ i j d h l. Less-from_sorted (id_cmp terms) ids i j d sorted h l
