-- The members of a list that is put together, where the members of its parts are told.
use Rattle.std.specs.Prelude.{ℕ, List, ◌++◌, flat_map, Contains, ◌↔◌, ◌⊎◌}
use Rattle.std.proofs.Common.{inl, inr}
use Rattle.std.proofs.lemmas.List.Elements.{Contains-append_left, Contains-append_right}
use Rattle.std.proofs.lemmas.List.Elements.{Contains-append_cases}
use Rattle.shx_term.proofs.MemberLemmas.{Contains-flat_map, Contains-from_flat_map}

module _ {X : Type 0} where
  pub append_told : {P Q : Type 0} (xs ys : List X) (x : X) → Contains xs x ↔ P → Contains ys x ↔ Q
      → Contains (xs ++ ys) x ↔ (P ⊎ Q)
  append_told xs ys x first second = (
    λ c. elim (Contains-append_cases xs ys x c) [ inl d ↦ inl (first.0 d) | inr d ↦ inr (second.0 d) ],
    λ h. elim h [
      | inl p ↦ Contains-append_left xs ys x (first.1 p)
      | inr q ↦ Contains-append_right xs ys x (second.1 q)
    ],
  )

  -- of the lists that f makes of nodes
  pub flat_map_told : {P Q : ℕ → Type 0} (f : ℕ → List X) (zs : List ℕ) (x : X)
      → ((z : ℕ) → Contains zs z ↔ P z) → ((z : ℕ) → Contains (f z) x ↔ Q z)
      → Contains (flat_map f zs) x ↔ ((z : ℕ) × P z × Q z)
  flat_map_told f zs x nodes parts = (
    λ c.
        let found = Contains-from_flat_map f zs x c in
        (found.0, (nodes found.0).0 found.1, (parts found.0).0 found.2),
    λ h. Contains-flat_map f zs h.0 x ((nodes h.0).1 h.1) ((parts h.0).1 h.2),
  )
