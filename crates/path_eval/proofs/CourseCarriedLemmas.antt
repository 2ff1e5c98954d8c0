-- What the edges of a whole path carry, and what is looked up along them.
use Rattle.std.specs.Prelude.{ℕ, ◌+◌, true, false, List, ◌∷◌, ◌++◌, if◌then◌else◌, flat_map, length}
use Rattle.std.specs.Prelude.{Contains}
use Rattle.std.proofs.Common.{refl, sym, subst, inl, inr}
use Rattle.std.proofs.lemmas.List.Elements.{Contains-append_cases}
use Rattle.shx_term.proofs.MemberLemmas.{none_in_empty, Contains-one, Contains-from_flat_map}
use Rattle.graph_view.specs.declared.key.Key.{Key}
use Rattle.graph_view.specs.Graph.{Graph, AllKnown}
use Rattle.path_eval.specs.declared.direction.Direction.{Direction}
use Rattle.path_eval.specs.declared.direction.Direction.TheVariants.{Forward, Backward}
use Rattle.path_eval.specs.Route.{Route, along, here, first_then, none, one_or_other, turned, any_times}
use Rattle.path_eval.specs.Route.{some_times, perhaps}
use Rattle.path_eval.specs.Way.{way, closed}
use Rattle.path_eval.specs.declared.edge.Edge.{Edge}
use Rattle.path_eval.specs.declared.edge.Label.TheVariants.{Free}
use Rattle.path_eval.specs.inner.Course.{Line, passed, left_closure, turning, turning_back, led}
use Rattle.path_eval.specs.inner.Laid.{edge_by, laid}
use Rattle.path_eval.proofs.CarriedLemmas.{Carries, Notes, Carries-left, Carries-right, Carries-tail}
use Rattle.path_eval.proofs.CarriedLemmas.{Notes-left, Notes-right, Notes-tail, moved, around, around_on}
use Rattle.path_eval.proofs.CarriedLemmas.{carried, noted}

-- what is so of all edges, and then of those before, is so of those that were laid before
module _ (P : List Edge → Type 0) (less : (xs ys : List Edge) → P (xs ++ ys) → P xs) where
  before_part : (d : Direction) (a : Route) (line : Line) → P (passed d a line).edges → P line.edges
  before_part d a line all = less line.edges (laid d a line.end line.places (line.places + 1)) all

  before_turn : (d : Direction) (a : Route) (line : Line) → P (turning d a line).edges → P line.edges
  before_turn d a line all = less line.edges (laid d a line.end line.end line.places) all

  before_turn_back : (d : Direction) (a : Route) (line : Line) → P (turning_back d a line).edges
      → P line.edges
  before_turn_back d a line all =
      let n = line.places in
      less line.edges (edge_by Free n line.end ∷ laid d a line.end n (n + 1)) all

  before_leaving : (d : Direction) (line : Line) → P (left_closure d line).edges → P line.edges
  before_leaving d line =
      elim line.turns as (λ b. P (if b then passed d here line else line).edges → P line.edges) [
        | true ↦ λ all. before_part d here line all
        | false ↦ λ all. all
      ]

  before : (d : Direction) (a : Route) (line : Line) → P (led d a line).edges → P line.edges
  before d (along p) line all = before_part d (along p) line all
  before d here line all = all
  before Forward (first_then a b) line all = before Forward a line (before Forward b (led Forward a line) all)
  before Backward (first_then a b) line all =
      before Backward b line (before Backward a (led Backward b line) all)
  before d none line all = before_part d none line all
  before d (one_or_other a b) line all = before_part d (one_or_other a b) line all
  before d (turned a) line all = before_part d (turned a) line all
  before d (any_times a) line all = before_leaving d line (before_turn d a (left_closure d line) all)
  before d (some_times a) line all = before_leaving d line (before_turn_back d a (left_closure d line) all)
  before d (perhaps a) line all = before_part d (perhaps a) line all

module _ (g : Graph) (known : AllKnown g) (T : ℕ → ℕ → Type 0) where
  abbrev Kept : List Edge → Type 0
  Kept edges = Carries g T edges

  carry_on : (d : Direction) (a : Route) (line : Line) → Kept (passed d a line).edges → (x y : ℕ)
      → T line.end x → Contains ((way g d a).to x) y → T line.places y
  carry_on d a line kept =
      let n = line.places in
      carried g known T d a line.end n (n + 1)
      (Carries-right g T line.edges (laid d a line.end n (n + 1)) kept)

  carry_round : (d : Direction) (a : Route) (line : Line) → Kept (turning d a line).edges → (x y : ℕ)
      → T line.end x → Contains ((way g d (any_times a)).to x) y → T line.end y
  carry_round d a line kept x y =
      let s = line.end in
      let edges = laid d a s s line.places in
      around g known T d a s x y
      (carried g known T d a s s line.places (Carries-right g T line.edges edges kept))

  carry_back : (d : Direction) (a : Route) (line : Line) → Kept (turning_back d a line).edges → (x y : ℕ)
      → T line.end x → Contains ((way g d (some_times a)).to x) y → T line.places y
  carry_back d a line kept x y =
      let s = line.end in
      let n = line.places in
      let edges = laid d a s n (n + 1) in
      let more = Carries-right g T line.edges (edge_by Free n s ∷ edges) kept in
      around_on g known T d a s n x y
      (carried g known T d a s n (n + 1) (Carries-tail g T (edge_by Free n s) edges more))
      (moved g T n s edges more)

  carry_out : (d : Direction) (line : Line) → Kept (left_closure d line).edges → (x : ℕ) → T line.end x
      → T (left_closure d line).end x
  carry_out d line =
      let there = passed d here line in
      elim line.turns as
      (λ b. Kept (if b then there else line).edges → (x : ℕ) → T line.end x
      → T (if b then there else line).end x) [
        | true ↦ λ kept x t. carry_on d here line kept x x t ((Contains-one x x).1 refl)
        | false ↦ λ kept x t. t
      ]

  pub carried_line : (d : Direction) (a : Route) (line : Line) → Carries g T (led d a line).edges
      → (x y : ℕ) → T line.end x → Contains ((way g d a).to x) y → T (led d a line).end y
  carried_line d (along p) line kept x y t c = carry_on d (along p) line kept x y t c
  carried_line d here line kept x y t c = subst (T line.end) (sym ((Contains-one x y).0 c)) t
  carried_line Forward (first_then a b) line kept x y t c =
      let there = led Forward a line in
      let found = Contains-from_flat_map (way g Forward b).to ((way g Forward a).to x) y c in
      carried_line Forward b there kept found.0 y
      (carried_line Forward a line (before Kept (Carries-left g T) Forward b there kept) x found.0 t found.1)
      found.2
  carried_line Backward (first_then a b) line kept x y t c =
      let there = led Backward b line in
      let found = Contains-from_flat_map (way g Backward a).to ((way g Backward b).to x) y c in
      carried_line Backward a there kept found.0 y
      (carried_line Backward b line (before Kept (Carries-left g T) Backward a there kept) x found.0 t
      found.1)
      found.2
  carried_line d none line kept x y t c = carry_on d none line kept x y t c
  carried_line d (one_or_other a b) line kept x y t c = carry_on d (one_or_other a b) line kept x y t c
  carried_line d (turned a) line kept x y t c = carry_on d (turned a) line kept x y t c
  carried_line d (any_times a) line kept x y t c =
      let there = left_closure d line in
      carry_round d a there kept x y
      (carry_out d line (before_turn Kept (Carries-left g T) d a there kept) x t) c
  carried_line d (some_times a) line kept x y t c =
      let there = left_closure d line in
      carry_back d a there kept x y
      (carry_out d line (before_turn_back Kept (Carries-left g T) d a there kept) x t) c
  carried_line d (perhaps a) line kept x y t c = carry_on d (perhaps a) line kept x y t c

  module _ (K : Key → Type 0) where
    abbrev Told : List Edge → Type 0
    Told edges = Notes g T K edges

    note_on : (d : Direction) (a : Route) (line : Line) → Kept (passed d a line).edges
        → Told (passed d a line).edges → (x : ℕ) (k : Key) → T line.end x
        → Contains ((way g d a).reads x) k → K k
    note_on d a line kept told =
        let n = line.places in
        let edges = laid d a line.end n (n + 1) in
        noted g known T K d a line.end n (n + 1) (Carries-right g T line.edges edges kept)
        (Notes-right g T K line.edges edges told)

    note_round : (d : Direction) (a : Route) (line : Line) → Kept (turning d a line).edges
        → Told (turning d a line).edges → (x : ℕ) (k : Key) → T line.end x
        → Contains ((way g d (any_times a)).reads x) k → K k
    note_round d a line kept told x k t c =
        let s = line.end in
        let edges = laid d a s s line.places in
        let found = Contains-from_flat_map (way g d a).reads ((way g d (any_times a)).to x) k c in
        noted g known T K d a s s line.places (Carries-right g T line.edges edges kept)
        (Notes-right g T K line.edges edges told) found.0 k (carry_round d a line kept x found.0 t found.1)
        found.2

    note_back : (d : Direction) (a : Route) (line : Line) → Kept (turning_back d a line).edges
        → Told (turning_back d a line).edges → (x : ℕ) (k : Key) → T line.end x
        → Contains ((way g d (some_times a)).reads x) k → K k
    note_back d a line kept told x k t c =
        let s = line.end in
        let n = line.places in
        let edges = laid d a s n (n + 1) in
        let back = edge_by Free n s in
        let more = Carries-right g T line.edges (back ∷ edges) kept in
        let part = Carries-tail g T back edges more in
        let pass = carried g known T d a s n (n + 1) part in
        let found =
        Contains-from_flat_map (way g d a).reads ((closed (length g.terms) (way g d a)).to x) k c in
        noted g known T K d a s n (n + 1) part
        (Notes-tail g T K back edges (Notes-right g T K line.edges (back ∷ edges) told)) found.0 k
        (around g known T d a s x found.0 (λ u v h step. moved g T n s edges more v (pass u v h step)) t
        found.1)
        found.2

    pub noted_line : (d : Direction) (a : Route) (line : Line) → Carries g T (led d a line).edges
        → Notes g T K (led d a line).edges → (x : ℕ) (k : Key) → T line.end x
        → Contains ((way g d a).reads x) k → K k
    noted_line d (along p) line kept told x k t c = note_on d (along p) line kept told x k t c
    noted_line d here line kept told x k t c = absurd (none_in_empty k c)
    noted_line Forward (first_then a b) line kept told x k t c =
        let there = led Forward a line in
        let on = (way g Forward a).to x in
        let kept_before = before Kept (Carries-left g T) Forward b there kept in
        elim (Contains-append_cases ((way g Forward a).reads x) (flat_map (way g Forward b).reads on) k c) [
          | inl l ↦ noted_line Forward a line kept_before
              (before Told (Notes-left g T K) Forward b there told) x k t l
          | inr r ↦
              let found = Contains-from_flat_map (way g Forward b).reads on k r in
              noted_line Forward b there kept told found.0 k
              (carried_line Forward a line kept_before x found.0 t found.1) found.2
        ]
    noted_line Backward (first_then a b) line kept told x k t c =
        let there = led Backward b line in
        let on = (way g Backward b).to x in
        let kept_before = before Kept (Carries-left g T) Backward a there kept in
        elim (Contains-append_cases ((way g Backward b).reads x) (flat_map (way g Backward a).reads on) k c) [
          | inl l ↦ noted_line Backward b line kept_before
              (before Told (Notes-left g T K) Backward a there told) x k t l
          | inr r ↦
              let found = Contains-from_flat_map (way g Backward a).reads on k r in
              noted_line Backward a there kept told found.0 k
              (carried_line Backward b line kept_before x found.0 t found.1) found.2
        ]
    noted_line d none line kept told x k t c = note_on d none line kept told x k t c
    noted_line d (one_or_other a b) line kept told x k t c =
        note_on d (one_or_other a b) line kept told x k t c
    noted_line d (turned a) line kept told x k t c = note_on d (turned a) line kept told x k t c
    noted_line d (any_times a) line kept told x k t c =
        let there = left_closure d line in
        note_round d a there kept told x k
        (carry_out d line (before_turn Kept (Carries-left g T) d a there kept) x t) c
    noted_line d (some_times a) line kept told x k t c =
        let there = left_closure d line in
        note_back d a there kept told x k
        (carry_out d line (before_turn_back Kept (Carries-left g T) d a there kept) x t) c
    noted_line d (perhaps a) line kept told x k t c = note_on d (perhaps a) line kept told x k t c
