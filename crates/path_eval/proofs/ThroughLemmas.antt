-- Steps that are repeated: the list of where they lead has what chains of them reach.
use Rattle.std.specs.Prelude.{◌≡◌, ℕ, ◌<◌, zero, suc, nat_eq, true, false, List, [], ◌∷◌}
use Rattle.std.specs.Prelude.{if◌then◌else◌, Contains, ◌↔◌, ◌⊎◌}
use Rattle.std.specs.List.{list_any}
use Rattle.std.specs.Cmp.{nat_eq_equiv}
use Rattle.std.proofs.Common.{refl, sym, ◌∙◌, subst, inl, inr, true≢false, arith}
use Rattle.std.proofs.lemmas.Bool.{eqb-true}
use Rattle.std.proofs.lemmas.List.Elements.{Contains-append_left, Contains-append_right}
use Rattle.std.proofs.lemmas.List.Elements.{Contains-append_cases}
use Rattle.shx_term.proofs.MemberLemmas.{none_in_empty, Contains-head, Contains-tail, Contains-cases}
use Rattle.shx_term.proofs.MemberLemmas.{Contains-test}
use Rattle.shx_term.specs.Chains.{Walk, Longer}
use Rattle.path_eval.specs.inner.Through.{reached_behind, through}
use Rattle.path_eval.specs.Way.{Way, below, repeated}
use Rattle.path_eval.proofs.ChainLemmas.{longer_step, longer_then}

-- what is behind k
pub Contains-behind : (k : ℕ) (xs ys : List ℕ) (y : ℕ)
    → Contains (reached_behind k xs ys) y ↔ (Contains xs k × Contains ys y)
Contains-behind k xs ys y =
    let reached = Contains-test nat_eq nat_eq_equiv eqb-true xs k in
    elim (list_any (nat_eq k) xs) as
    (λ b. list_any (nat_eq k) xs ≡ b
    → Contains (if b then ys else []) y ↔ (Contains xs k × Contains ys y)) [
      | true ↦ λ h. (λ c. (reached.0 h, c), λ both. both.1)
      | false ↦ λ h. (
        λ c. absurd (none_in_empty y c),
        λ both. absurd (true≢false (sym (reached.1 both.0) ∙ h)),
      )
    ] refl

module _ (step : ℕ → List ℕ) where
  abbrev pub Leads : ℕ → ℕ → Type 0
  Leads x y = Contains (step x) y

  -- without k in between, or past k
  through_cases : (k : ℕ) (ks : List ℕ) (x y : ℕ) → Contains (through step (k ∷ ks) x) y
      → Contains (through step ks x) y ⊎ Contains (through step ks x) k × Contains (through step ks k) y
  through_cases k ks x y c =
      let first = through step ks x in
      let second = through step ks k in
      elim (Contains-append_cases first (reached_behind k first second) y c) [
        | inl d ↦ inl d
        | inr d ↦ inr ((Contains-behind k first second y).0 d)
      ]

  through_more : (k : ℕ) (ks : List ℕ) (x y : ℕ) → Contains (through step ks x) y
      → Contains (through step (k ∷ ks) x) y
  through_more k ks x y c =
      let first = through step ks x in
      Contains-append_left first (reached_behind k first (through step ks k)) y c

  through_past : (k : ℕ) (ks : List ℕ) (x y : ℕ) → Contains (through step ks x) k
      → Contains (through step ks k) y → Contains (through step (k ∷ ks) x) y
  through_past k ks x y to_it from_it =
      let first = through step ks x in
      let second = through step ks k in
      Contains-append_right first (reached_behind k first second) y
      ((Contains-behind k first second y).1 (to_it, from_it))

  through_step : (ks : List ℕ) (x y : ℕ) → Contains (step x) y → Contains (through step ks x) y
  through_step [] x y c = c
  through_step (k ∷ ks) x y c = through_more k ks x y (through_step ks x y c)

  -- nothing is gained by k in between on the way to k, or from it
  to_it : (k : ℕ) (ks : List ℕ) (x : ℕ) → Contains (through step (k ∷ ks) x) k
      → Contains (through step ks x) k
  to_it k ks x c = elim (through_cases k ks x k c) [ inl d ↦ d | inr both ↦ both.0 ]

  from_it : (k : ℕ) (ks : List ℕ) (y : ℕ) → Contains (through step (k ∷ ks) k) y
      → Contains (through step ks k) y
  from_it k ks y c = elim (through_cases k ks k y c) [ inl d ↦ d | inr both ↦ both.1 ]

  -- two ways that meet at a node of the list are one way
  pub through_join : (ks : List ℕ) (x z y : ℕ) → Contains ks z → Contains (through step ks x) z
      → Contains (through step ks z) y → Contains (through step ks x) y
  through_join [] x z y c first second = absurd (none_in_empty z c)
  through_join (k ∷ ks) x z y c first second = elim (Contains-cases k z ks c) [
    | inl e ↦ through_past k ks x y
        (to_it k ks x (subst (Contains (through step (k ∷ ks) x)) e first))
        (from_it k ks y (subst (λ w. Contains (through step (k ∷ ks) w) y) e second))
    | inr d ↦ elim (through_cases k ks x z first) [
      | inl a ↦ elim (through_cases k ks z y second) [
        | inl b ↦ through_more k ks x y (through_join ks x z y d a b)
        | inr past ↦ through_past k ks x y (through_join ks x z k d a past.0) past.1
      ]
      | inr before ↦ elim (through_cases k ks z y second) [
        | inl b ↦ through_past k ks x y before.0 (through_join ks k z y d before.1 b)
        | inr past ↦ through_past k ks x y before.0 past.1
      ]
    ]
  ]

  pub through_chain : (ks : List ℕ) (x y : ℕ) → Contains (through step ks x) y → Longer Leads x y
  through_chain [] x y c = longer_step Leads x y c
  through_chain (k ∷ ks) x y c = elim (through_cases k ks x y c) [
    | inl d ↦ through_chain ks x y d
    | inr both ↦ longer_then Leads x k y (through_chain ks x k both.0) (through_chain ks k y both.1)
  ]

  -- a chain never leaves a list that is closed under the steps
  pub chain_through : (ks : List ℕ) → ((x y : ℕ) → Contains ks x → Contains (step x) y → Contains ks y)
      → (ns : List ℕ) (x n y : ℕ) → Contains ks x → Contains (step x) n → Walk Leads n ns y
      → Contains (through step ks x) y
  chain_through ks closed [] x n y c first e =
      subst (Contains (through step ks x)) e (through_step ks x n first)
  chain_through ks closed (m ∷ ns) x n y c first walk =
      let there = closed x n c first in
      through_join ks x n y there (through_step ks x n first)
      (chain_through ks closed ns n m y there walk.0 walk.1)

-- each step leads to its own start or below the count
abbrev pub IsWithin : ℕ → Way → Type 0
IsWithin count a = (x y : ℕ) → Contains (a.to x) y → (y ≡ x) ⊎ (y < count)

below_or_last : (n y : ℕ) → y < suc n → (y ≡ n) ⊎ (y < n)
below_or_last n y inside = grind arith

pub Contains-below : (n y : ℕ) → y < n → Contains (below n) y
Contains-below zero y inside = absurd (omega (arith, inside))
Contains-below (suc n) y inside = elim (below_or_last n y inside) [
  | inl e ↦ subst (Contains (n ∷ below n)) (sym e) (Contains-head n (below n))
  | inr lower ↦ Contains-tail n y (below n) (Contains-below n y lower)
]

module _ (count : ℕ) (a : Way) (within : IsWithin count a) where
  closed_below : (x u v : ℕ) → Contains (x ∷ below count) u → Contains (a.to u) v
      → Contains (x ∷ below count) v
  closed_below x u v c d = elim (within u v d) [
    | inl e ↦ subst (Contains (x ∷ below count)) (sym e) c
    | inr inside ↦ Contains-tail x v (below count) (Contains-below count v inside)
  ]

  -- a way that is repeated leads where chains of it lead
  pub repeated_chain : (x y : ℕ) → Contains ((repeated count a).to x) y ↔ Longer (Leads a.to) x y
  repeated_chain x y = (
    through_chain a.to (x ∷ below count) x y,
    λ longer. chain_through a.to (x ∷ below count) (closed_below x) longer.2.0 x longer.0 y
        (Contains-head x (below count)) longer.1 longer.2.1,
  )

  walk_within : (ns : List ℕ) (x y : ℕ) → Walk (Leads a.to) x ns y → (y ≡ x) ⊎ (y < count)
  walk_within [] x y e = inl (sym e)
  walk_within (n ∷ ns) x y walk = elim (walk_within ns n y walk.1) [
    | inl e ↦ elim (within x n walk.0) [
      | inl f ↦ inl (e ∙ f)
      | inr inside ↦ inr (subst (λ z. z < count) (sym e) inside)
    ]
    | inr inside ↦ inr inside
  ]

  pub repeated_within : IsWithin count (repeated count a)
  repeated_within x y c =
      let longer = (repeated_chain x y).0 c in
      walk_within (longer.0 ∷ longer.2.0) x y (longer.1, longer.2.1)
