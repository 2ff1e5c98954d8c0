-- A path takes few places, and the states that are reached are no more than its places times the nodes.
use Rattle.std.specs.Prelude.{◌≡◌, ℕ, zero, suc, ◌+◌, ◌*◌, ◌<◌, ◌≤◌, List, [], ◌∷◌, map, flat_map, length}
use Rattle.std.specs.Prelude.{Contains, true, false, if◌then◌else◌}
use Rattle.std.specs.List.{IsDistinct}
use Rattle.std.proofs.Common.{refl, sym, ap, ◌∙◌, subst, inl, inr, arith}
use Rattle.std.proofs.lemmas.List.{length-append, length-map}
use Rattle.std.proofs.lemmas.Map.Made.{length-le_from_is_member}
use Rattle.std.proofs.lemmas.Map.Views.{Contains-from_any, list_any-from_Contains}
use Rattle.shx_term.proofs.MemberLemmas.{Contains-head, Contains-tail, Contains-one, Contains-map}
use Rattle.shx_term.proofs.MemberLemmas.{Contains-from_map, Contains-flat_map, Contains-from_flat_map}
use Rattle.graph_view.specs.Graph.{Graph, AllKnown}
use Rattle.path_eval.specs.declared.direction.Direction.{Direction}
use Rattle.path_eval.specs.declared.direction.Direction.TheVariants.{Forward, Backward}
use Rattle.path_eval.specs.Route.{Route, along, here, first_then, none, one_or_other, turned, any_times}
use Rattle.path_eval.specs.Route.{some_times, perhaps}
use Rattle.path_eval.specs.Way.{below}
use Rattle.path_eval.proofs.MeetsLemmas.{path_within}
use Rattle.path_eval.proofs.ThroughLemmas.{IsWithin, Contains-below}
use Rattle.path_eval.specs.declared.edge.Label.{Label}
use Rattle.path_eval.specs.declared.edge.Label.TheVariants.{Free, Step}
use Rattle.path_eval.specs.declared.edge.State.{State}
use Rattle.path_eval.specs.inner.Course.{Line, nothing_laid, passed, left_closure, led, whole}
use Rattle.path_eval.specs.inner.Laid.{after, label_way}
use Rattle.path_eval.specs.inner.StateLaws.{same_state, same_state_equiv, same_state_exact}
use Rattle.path_eval.specs.inner.States.{state_at, goes, next_states, IsReached}
use Rattle.path_eval.proofs.CourseLemmas.{whole_left}
use Rattle.path_eval.proofs.StateLemmas.{reached_keeps, where_given}

suc_more : (n : ℕ) → suc n ≡ n + 1
suc_more n = omega arith

length-below : (n : ℕ) → length (below n) ≡ n
length-below zero = refl
length-below (suc n) = ap suc (length-below n)

-- each of the nodes at each of the places
abbrev states_of : List ℕ → List ℕ → List State
states_of places nodes = flat_map (λ q. map (state_at q) nodes) places

length-states_of : (places nodes : List ℕ) → length (states_of places nodes) ≡ length places * length nodes
length-states_of [] nodes = omega arith
length-states_of (q ∷ qs) nodes =
    let here = map (state_at q) nodes in
    let first = length-append here (states_of qs nodes) in
    let second = length-map nodes (state_at q) in
    let rest = length-states_of qs nodes in
    omega (arith, first, second, rest)

-- ---- places

-- how many places a route takes does not depend on the number from which on they are free
after_size : (a : Route) (n : ℕ) → after a n ≡ n + after a 0
after_size (along p) n = omega arith
after_size here n = omega arith
after_size (first_then a b) n =
    omega (
      arith,
      after_size a (n + 1),
      after_size b (after a (n + 1)),
      after_size a 1,
      after_size b (after a 1),
    )
after_size none n = omega arith
after_size (one_or_other a b) n =
    omega (arith, after_size a n, after_size b (after a n), after_size b (after a 0))
after_size (turned a) n = after_size a n
after_size (any_times a) n = omega (arith, after_size a (n + 1), after_size a 1)
after_size (some_times a) n = omega (arith, after_size a (n + 1 + 1), after_size a 2)
after_size (perhaps a) n = after_size a n

closure_places : (d : Direction) (line : Line) → (left_closure d line).places ≤ line.places + 1
closure_places d line =
    elim line.turns as (λ b. (if b then passed d here line else line).places ≤ line.places + 1) [
      | true ↦ omega arith
      | false ↦ omega arith
    ]

passed_places : (d : Direction) (a : Route) (line : Line)
    → (passed d a line).places ≤ line.places + 1 + after a 0
passed_places d a line = omega (arith, after_size a (line.places + 1))

led_places : (d : Direction) (a : Route) (line : Line) → (led d a line).places ≤ line.places + 1 + after a 0
led_places d (along p) line = passed_places d (along p) line
led_places d here line = omega arith
led_places Forward (first_then a b) line =
    let there = led Forward a line in
    omega (
      arith,
      led_places Forward a line,
      led_places Forward b there,
      after_size a 1,
      after_size b (after a 1),
    )
led_places Backward (first_then a b) line =
    let there = led Backward b line in
    omega (
      arith,
      led_places Backward b line,
      led_places Backward a there,
      after_size a 1,
      after_size b (after a 1),
    )
led_places d none line = passed_places d none line
led_places d (one_or_other a b) line = passed_places d (one_or_other a b) line
led_places d (turned a) line = passed_places d (turned a) line
led_places d (any_times a) line =
    let n = (left_closure d line).places in
    omega (arith, closure_places d line, after_size a n, after_size a 1)
led_places d (some_times a) line =
    let n = (left_closure d line).places in
    omega (arith, closure_places d line, after_size a (n + 1), after_size a 2)
led_places d (perhaps a) line = passed_places d (perhaps a) line

-- the whole takes no more places than if it were laid between two
pub few_places : (d : Direction) (route : Route) → (whole d route).places ≤ after route 2
few_places d route = omega (arith, led_places d route nothing_laid, after_size route 2)

-- ---- states

module _ (g : Graph) (known : AllKnown g) where
  label_within : (label : Label) → IsWithin (length g.terms) (label_way g label)
  label_within Free x y c = inl ((Contains-one x y).0 c)
  label_within (Step d p) x y c = path_within g known d (along p) x y c

  module _ (d : Direction) (route : Route) (x : ℕ) where
    record IsInside (t : State) : Type 0 where
      place : t.place < (whole d route).places
      node : Contains (x ∷ below (length g.terms)) t.node

    inside_keeps : (t u : State) → IsInside t → Contains (next_states g (whole d route).edges t) u
        → IsInside u
    inside_keeps t u inside c =
        let found = Contains-from_flat_map (goes g t) (whole d route).edges u c in
        let edge = found.0 in
        let there = (label_way g edge.label).to t.node in
        let told = where_given edge.from t.place (map (state_at edge.to) there) u found.2 in
        let image = Contains-from_map (state_at edge.to) there u told.1 in
        let y = image.0 in
        let nodes = x ∷ below (length g.terms) in
        subst IsInside (sym image.2) (record {
          place = ((whole_left g known d route).left.inside edge found.1).1;
          node = elim (label_within edge.label t.node y image.1) [
            | inl e ↦ subst (Contains nodes) (sym e) inside.node
            | inr more ↦ Contains-tail x y (below (length g.terms)) (Contains-below (length g.terms) y more)
          ];
        })

    pub few_states : (ts : List State) → IsDistinct same_state ts
        → ((t : State) → Contains ts t → IsReached (next_states g (whole d route).edges) (state_at 0 x) t)
        → length ts ≤ (whole d route).places * (length g.terms + 1)
    few_states ts distinct reached =
        let nodes = x ∷ below (length g.terms) in
        let places = below (whole d route).places in
        let all = states_of places nodes in
        let more = (whole_left g known d route).left.more in
        let start : IsInside (state_at 0 x) =
        record { place = omega (arith, more); node = Contains-head x (below (length g.terms)) } in
        let member : (t : State) → Contains ts t → Contains all t =
        λ t c.
        let inside =
        reached_keeps (next_states g (whole d route).edges) IsInside inside_keeps (state_at 0 x) t
        (reached t c)
        start in
        Contains-flat_map (λ q. map (state_at q) nodes) places t.place t
        (Contains-below (whole d route).places t.place inside.place)
        (Contains-map (state_at t.place) nodes t.node inside.node) in
        let bound =
        length-le_from_is_member same_state_equiv ts all distinct
        (λ t h. list_any-from_Contains same_state_equiv t all
        (member t (Contains-from_any same_state_exact t ts h))) in
        let total : length all ≡ (whole d route).places * (length g.terms + 1) =
        length-states_of places nodes
        ∙ ap (λ n. n * length nodes) (length-below (whole d route).places)
        ∙ ap (λ n. (whole d route).places * n)
        (ap suc (length-below (length g.terms)) ∙ suc_more (length g.terms)) in
        subst (λ n. length ts ≤ n) total bound
