-- What every edge carries on, the laid route carries from its first place to its last, where the path leads.
use Rattle.std.specs.Prelude.{◌≡◌, ℕ, ◌+◌, List, [], ◌∷◌, ◌++◌, length, flat_map, Contains, ◌⊎◌}
use Rattle.std.proofs.Common.{refl, sym, subst, inl, inr}
use Rattle.std.proofs.lemmas.List.Elements.{Contains-append_left, Contains-append_right}
use Rattle.std.proofs.lemmas.List.Elements.{Contains-append_cases}
use Rattle.shx_term.proofs.MemberLemmas.{none_in_empty, Contains-head, Contains-tail, Contains-one}
use Rattle.shx_term.proofs.MemberLemmas.{Contains-from_flat_map}
use Rattle.graph_view.specs.declared.key.Key.{Key}
use Rattle.graph_view.specs.Graph.{Graph, AllKnown}
use Rattle.path_eval.specs.declared.direction.Direction.{Direction}
use Rattle.path_eval.specs.declared.direction.Direction.TheVariants.{Forward, Backward}
use Rattle.path_eval.specs.Relation.{opposite}
use Rattle.path_eval.specs.Route.{Route, along, here, first_then, none, one_or_other, turned, any_times}
use Rattle.path_eval.specs.Route.{some_times, perhaps}
use Rattle.path_eval.specs.Way.{Way, way, stay, closed, repeated}
use Rattle.path_eval.proofs.ThroughLemmas.{Leads, repeated_chain}
use Rattle.path_eval.proofs.MeetsLemmas.{path_within}
use Rattle.path_eval.proofs.ChainLemmas.{Chain-keeps}
use Rattle.path_eval.specs.declared.edge.Label.TheVariants.{Free, Step}
use Rattle.path_eval.specs.declared.edge.Edge.{Edge}
use Rattle.path_eval.specs.inner.Laid.{edge_by, after, laid, label_way}

-- T holds at a place and a node
pub record Carries (g : Graph) (T : ℕ → ℕ → Type 0) (edges : List Edge) : Type 0 where
  pub each : (edge : Edge) → Contains edges edge → (x y : ℕ) → T edge.from x
      → Contains ((label_way g edge.label).to x) y → T edge.to y

-- where T holds, K holds of what is looked up
pub record Notes (g : Graph) (T : ℕ → ℕ → Type 0) (K : Key → Type 0) (edges : List Edge) : Type 0 where
  pub each : (edge : Edge) → Contains edges edge → (x : ℕ) (k : Key) → T edge.from x
      → Contains ((label_way g edge.label).reads x) k → K k

module _ (g : Graph) (T : ℕ → ℕ → Type 0) where
  pub Carries-left : (xs ys : List Edge) → Carries g T (xs ++ ys) → Carries g T xs
  Carries-left xs ys kept = record { each = λ edge c. kept.each edge (Contains-append_left xs ys edge c) }

  pub Carries-right : (xs ys : List Edge) → Carries g T (xs ++ ys) → Carries g T ys
  Carries-right xs ys kept = record { each = λ edge c. kept.each edge (Contains-append_right xs ys edge c) }

  pub Carries-tail : (edge : Edge) (edges : List Edge) → Carries g T (edge ∷ edges) → Carries g T edges
  Carries-tail edge edges kept =
      record { each = λ other c. kept.each other (Contains-tail edge other edges c) }

  -- a free edge
  pub moved : (s e : ℕ) (edges : List Edge) → Carries g T (edge_by Free s e ∷ edges) → (x : ℕ) → T s x → T e x
  moved s e edges kept x t =
      kept.each (edge_by Free s e) (Contains-head (edge_by Free s e) edges) x x t ((Contains-one x x).1 refl)

  module _ (K : Key → Type 0) where
    pub Notes-left : (xs ys : List Edge) → Notes g T K (xs ++ ys) → Notes g T K xs
    Notes-left xs ys kept = record { each = λ edge c. kept.each edge (Contains-append_left xs ys edge c) }

    pub Notes-right : (xs ys : List Edge) → Notes g T K (xs ++ ys) → Notes g T K ys
    Notes-right xs ys kept = record { each = λ edge c. kept.each edge (Contains-append_right xs ys edge c) }

    pub Notes-tail : (edge : Edge) (edges : List Edge) → Notes g T K (edge ∷ edges) → Notes g T K edges
    Notes-tail edge edges kept =
        record { each = λ other c. kept.each other (Contains-tail edge other edges c) }

  -- a way that carries from m to m, and then so does each chain of it
  module _ (count : ℕ) (w : Way) where
    closed_cases : (x y : ℕ) → Contains ((closed count w).to x) y
        → (y ≡ x) ⊎ Contains ((repeated count w).to x) y
    closed_cases x y c = elim (Contains-append_cases (x ∷ []) ((repeated count w).to x) y c) [
      | inl d ↦ inl ((Contains-one x y).0 d)
      | inr d ↦ inr d
    ]

module _ (g : Graph) (known : AllKnown g) (T : ℕ → ℕ → Type 0) where
  -- any number of times, from a place to itself
  pub around : (d : Direction) (a : Route) (m x y : ℕ)
      → ((u v : ℕ) → T m u → Contains ((way g d a).to u) v → T m v)
      → T m x → Contains ((closed (length g.terms) (way g d a)).to x) y → T m y
  around d a m x y kept t c = elim (closed_cases g T (length g.terms) (way g d a) x y c) [
    | inl e ↦ subst (T m) (sym e) t
    | inr more ↦
        let longer = (repeated_chain (length g.terms) (way g d a) (path_within g known d a) x y).0 more in
        Chain-keeps (Leads (way g d a).to) (T m) kept longer.0 y longer.2 (kept x longer.0 t longer.1)
  ]

  -- once or more, from a place to another from which a free edge leads back
  pub around_on : (d : Direction) (a : Route) (m n x y : ℕ)
      → ((u v : ℕ) → T m u → Contains ((way g d a).to u) v → T n v) → ((u : ℕ) → T n u → T m u)
      → T m x → Contains ((repeated (length g.terms) (way g d a)).to x) y → T n y
  around_on d a m n x y kept back t c =
      let longer = (repeated_chain (length g.terms) (way g d a) (path_within g known d a) x y).0 c in
      Chain-keeps (Leads (way g d a).to) (T n) (λ u v h. kept u v (back u h)) longer.0 y longer.2
      (kept x longer.0 t longer.1)

  pub carried : (d : Direction) (a : Route) (s e n : ℕ) → Carries g T (laid d a s e n)
      → (x y : ℕ) → T s x → Contains ((way g d a).to x) y → T e y
  carried d (along p) s e n kept x y t c =
      kept.each (edge_by (Step d p) s e) (Contains-head (edge_by (Step d p) s e) []) x y t c
  carried d here s e n kept x y t c =
      kept.each (edge_by Free s e) (Contains-head (edge_by Free s e) []) x y t c
  carried Forward (first_then a b) s e n kept x y t c =
      let first = laid Forward a s n (n + 1) in
      let second = laid Forward b n e (after a (n + 1)) in
      let found = Contains-from_flat_map (way g Forward b).to ((way g Forward a).to x) y c in
      carried Forward b n e (after a (n + 1)) (Carries-right g T first second kept) found.0 y
      (carried Forward a s n (n + 1) (Carries-left g T first second kept) x found.0 t found.1) found.2
  carried Backward (first_then a b) s e n kept x y t c =
      let first = laid Backward a n e (n + 1) in
      let second = laid Backward b s n (after a (n + 1)) in
      let found = Contains-from_flat_map (way g Backward a).to ((way g Backward b).to x) y c in
      carried Backward a n e (n + 1) (Carries-left g T first second kept) found.0 y
      (carried Backward b s n (after a (n + 1)) (Carries-right g T first second kept) x found.0 t found.1)
      found.2
  carried d none s e n kept x y t c = absurd (none_in_empty y c)
  carried d (one_or_other a b) s e n kept x y t c =
      let first = laid d a s e n in
      let second = laid d b s e (after a n) in
      elim (Contains-append_cases ((way g d a).to x) ((way g d b).to x) y c) [
        | inl l ↦ carried d a s e n (Carries-left g T first second kept) x y t l
        | inr r ↦ carried d b s e (after a n) (Carries-right g T first second kept) x y t r
      ]
  carried d (turned a) s e n kept x y t c = carried (opposite d) a s e n kept x y t c
  carried d (any_times a) s e n kept x y t c =
      let inner = laid d a n n (n + 1) in
      let out = edge_by Free n e in
      let rest = Carries-tail g T (edge_by Free s n) (out ∷ inner) kept in
      moved g T n e inner rest y
      (around d a n x y (carried d a n n (n + 1) (Carries-tail g T out inner rest))
      (moved g T s n (out ∷ inner) kept x t) c)
  carried d (some_times a) s e n kept x y t c =
      let inner = laid d a n (n + 1) (n + 1 + 1) in
      let back = edge_by Free (n + 1) n in
      let out = edge_by Free (n + 1) e in
      let rest = Carries-tail g T (edge_by Free s n) (back ∷ out ∷ inner) kept in
      let last = Carries-tail g T back (out ∷ inner) rest in
      moved g T (n + 1) e inner last y
      (around_on d a n (n + 1) x y (carried d a n (n + 1) (n + 1 + 1) (Carries-tail g T out inner last))
      (moved g T (n + 1) n (out ∷ inner) rest)
      (moved g T s n (back ∷ out ∷ inner) kept x t) c)
  carried d (perhaps a) s e n kept x y t c =
      let inner = laid d a s e n in
      elim (Contains-append_cases (stay.to x) ((way g d a).to x) y c) [
        | inl l ↦ subst (T e) (sym ((Contains-one x y).0 l)) (moved g T s e inner kept x t)
        | inr r ↦ carried d a s e n (Carries-tail g T (edge_by Free s e) inner kept) x y t r
      ]

  module _ (K : Key → Type 0) where
    pub noted : (d : Direction) (a : Route) (s e n : ℕ) → Carries g T (laid d a s e n)
        → Notes g T K (laid d a s e n) → (x : ℕ) (k : Key) → T s x → Contains ((way g d a).reads x) k → K k
    noted d (along p) s e n kept notes x k t c =
        notes.each (edge_by (Step d p) s e) (Contains-head (edge_by (Step d p) s e) []) x k t c
    noted d here s e n kept notes x k t c = absurd (none_in_empty k c)
    noted Forward (first_then a b) s e n kept notes x k t c =
        let first = laid Forward a s n (n + 1) in
        let second = laid Forward b n e (after a (n + 1)) in
        let there = (way g Forward a).to x in
        elim
        (Contains-append_cases ((way g Forward a).reads x) (flat_map (way g Forward b).reads there) k c) [
          | inl l ↦ noted Forward a s n (n + 1) (Carries-left g T first second kept)
              (Notes-left g T K first second notes) x k t l
          | inr r ↦
              let found = Contains-from_flat_map (way g Forward b).reads there k r in
              noted Forward b n e (after a (n + 1)) (Carries-right g T first second kept)
              (Notes-right g T K first second notes) found.0 k
              (carried Forward a s n (n + 1) (Carries-left g T first second kept) x found.0 t found.1) found.2
        ]
    noted Backward (first_then a b) s e n kept notes x k t c =
        let first = laid Backward a n e (n + 1) in
        let second = laid Backward b s n (after a (n + 1)) in
        let there = (way g Backward b).to x in
        elim
        (Contains-append_cases ((way g Backward b).reads x) (flat_map (way g Backward a).reads there) k c) [
          | inl l ↦ noted Backward b s n (after a (n + 1)) (Carries-right g T first second kept)
              (Notes-right g T K first second notes) x k t l
          | inr r ↦
              let found = Contains-from_flat_map (way g Backward a).reads there k r in
              noted Backward a n e (n + 1) (Carries-left g T first second kept)
              (Notes-left g T K first second notes) found.0 k
              (carried Backward b s n (after a (n + 1)) (Carries-right g T first second kept) x found.0 t
              found.1)
              found.2
        ]
    noted d none s e n kept notes x k t c = absurd (none_in_empty k c)
    noted d (one_or_other a b) s e n kept notes x k t c =
        let first = laid d a s e n in
        let second = laid d b s e (after a n) in
        elim (Contains-append_cases ((way g d a).reads x) ((way g d b).reads x) k c) [
          | inl l ↦ noted d a s e n (Carries-left g T first second kept) (Notes-left g T K first second notes)
              x k t l
          | inr r ↦ noted d b s e (after a n) (Carries-right g T first second kept)
              (Notes-right g T K first second notes) x k t r
        ]
    noted d (turned a) s e n kept notes x k t c = noted (opposite d) a s e n kept notes x k t c
    noted d (any_times a) s e n kept notes x k t c =
        let inner = laid d a n n (n + 1) in
        let out = edge_by Free n e in
        let rest = Carries-tail g T (edge_by Free s n) (out ∷ inner) kept in
        let whole = Carries-tail g T out inner rest in
        let told = Notes-tail g T K out inner (Notes-tail g T K (edge_by Free s n) (out ∷ inner) notes) in
        let found =
        Contains-from_flat_map (way g d a).reads ((closed (length g.terms) (way g d a)).to x) k c in
        noted d a n n (n + 1) whole told found.0 k
        (around d a n x found.0 (carried d a n n (n + 1) whole) (moved g T s n (out ∷ inner) kept x t)
        found.1)
        found.2
    noted d (some_times a) s e n kept notes x k t c =
        let inner = laid d a n (n + 1) (n + 1 + 1) in
        let back = edge_by Free (n + 1) n in
        let out = edge_by Free (n + 1) e in
        let rest = Carries-tail g T (edge_by Free s n) (back ∷ out ∷ inner) kept in
        let last = Carries-tail g T back (out ∷ inner) rest in
        let whole = Carries-tail g T out inner last in
        let told =
        Notes-tail g T K out inner (Notes-tail g T K back (out ∷ inner)
        (Notes-tail g T K (edge_by Free s n) (back ∷ out ∷ inner) notes)) in
        let pass = carried d a n (n + 1) (n + 1 + 1) whole in
        let again = moved g T (n + 1) n (out ∷ inner) rest in
        let found =
        Contains-from_flat_map (way g d a).reads ((closed (length g.terms) (way g d a)).to x) k c in
        noted d a n (n + 1) (n + 1 + 1) whole told found.0 k
        (around d a n x found.0 (λ u v h step. again v (pass u v h step))
        (moved g T s n (back ∷ out ∷ inner) kept x t) found.1) found.2
    noted d (perhaps a) s e n kept notes x k t c =
        let inner = laid d a s e n in
        noted d a s e n (Carries-tail g T (edge_by Free s e) inner kept)
        (Notes-tail g T K (edge_by Free s e) inner notes) x k t c
