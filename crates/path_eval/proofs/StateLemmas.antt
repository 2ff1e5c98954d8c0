-- States that are reached: they lead where the path leads, and what is looked up at them is what it reads.
use Rattle.std.specs.Prelude.{◌≡◌, ℕ, ◌==◌, true, false, List, [], ◌∷◌}
use Rattle.std.specs.Prelude.{if◌then◌else◌, map, flat_map, Contains, ◌↔◌}
use Rattle.std.proofs.Common.{refl, sym, ◌∙◌, subst, true≢false, eq-eqb, arith}
use Rattle.std.proofs.lemmas.Bool.{eqb-true}
use Rattle.std.proofs.lemmas.List.Elements.{Contains-append_left, Contains-append_right}
use Rattle.shx_term.proofs.MemberLemmas.{none_in_empty, Contains-one, Contains-map, Contains-from_map}
use Rattle.shx_term.proofs.MemberLemmas.{Contains-flat_map, Contains-from_flat_map}
use Rattle.graph_view.specs.declared.key.Key.{Key}
use Rattle.graph_view.specs.Graph.{Graph, AllKnown}
use Rattle.path_eval.specs.declared.direction.Direction.{Direction}
use Rattle.path_eval.specs.Route.{Route}
use Rattle.path_eval.specs.Way.{Way, way}
use Rattle.path_eval.specs.declared.edge.Edge.{Edge}
use Rattle.path_eval.specs.declared.edge.State.{State}
use Rattle.path_eval.specs.inner.Course.{nothing_laid, whole}
use Rattle.path_eval.specs.inner.Laid.{label_way}
use Rattle.path_eval.specs.inner.States.{state_at, goes, looks, next_states, next_keys, Track, IsReached}
use Rattle.path_eval.specs.inner.States.{IsLookedUp}
use Rattle.path_eval.proofs.CarriedLemmas.{Carries, Notes}
use Rattle.path_eval.proofs.CourseCarriedLemmas.{carried_line, noted_line}
use Rattle.path_eval.proofs.CourseLemmas.{whole_left}

-- ---- tracks

module _ {X : Type 0} (step : X → List X) where
  pub reached_itself : (x : X) → IsReached step x x
  reached_itself x = ([], refl)

  track_step : (zs : List X) (x z y : X) → Track step x zs z → Contains (step z) y → IsReached step x y
  track_step [] x z y e c = (y ∷ [], (subst (λ u. Contains (step u) y) (sym e) c, refl))
  track_step (u ∷ us) x z y track c =
      let rest = track_step us u z y track.1 c in
      (u ∷ rest.0, (track.0, rest.1))

  pub reached_step : (x z y : X) → IsReached step x z → Contains (step z) y → IsReached step x y
  reached_step x z y reached c = track_step reached.0 x z y reached.1 c

  module _ (P : X → Type 0) (keeps : (x y : X) → P x → Contains (step x) y → P y) where
    track_keeps : (zs : List X) (x y : X) → Track step x zs y → P x → P y
    track_keeps [] x y e p = subst P e p
    track_keeps (z ∷ zs) x y track p = track_keeps zs z y track.1 (keeps x z p track.0)

    pub reached_keeps : (x y : X) → IsReached step x y → P x → P y
    reached_keeps x y reached p = track_keeps reached.0 x y reached.1 p

-- ---- one edge

-- a list that is given where the numbers are one
module _ {X : Type 0} where
  given_where : (m n : ℕ) (xs : List X) (x : X) → m ≡ n → Contains xs x
      → Contains (if m == n then xs else []) x
  given_where m n xs x same c =
      elim (m == n) as (λ b. (m == n) ≡ b → Contains (if b then xs else []) x) [
        | true ↦ λ h. c
        | false ↦ λ h. absurd (true≢false (sym (eq-eqb m n same) ∙ h))
      ] refl

  pub where_given : (m n : ℕ) (xs : List X) (x : X) → Contains (if m == n then xs else []) x
      → (m ≡ n) × Contains xs x
  where_given m n xs x =
      elim (m == n) as (λ b. (m == n) ≡ b → Contains (if b then xs else []) x → (m ≡ n) × Contains xs x) [
        | true ↦ λ h c. (eqb-true m n h, c)
        | false ↦ λ h c. absurd (none_in_empty x c)
      ] refl

module _ (g : Graph) where
  pub next_by : (edges : List Edge) (t : State) (edge : Edge) (y : ℕ) → Contains edges edge
      → edge.from ≡ t.place → Contains ((label_way g edge.label).to t.node) y
      → Contains (next_states g edges t) (state_at edge.to y)
  next_by edges t edge y c from step =
      let there = (label_way g edge.label).to t.node in
      Contains-flat_map (goes g t) edges edge (state_at edge.to y) c
      (given_where edge.from t.place (map (state_at edge.to) there) (state_at edge.to y) from
      (Contains-map (state_at edge.to) there y step))

  pub key_by : (edges : List Edge) (t : State) (edge : Edge) (k : Key) → Contains edges edge
      → edge.from ≡ t.place → Contains ((label_way g edge.label).reads t.node) k
      → Contains (next_keys g edges t) k
  key_by edges t edge k c from look =
      Contains-flat_map (looks g t) edges edge k c
      (given_where edge.from t.place ((label_way g edge.label).reads t.node) k from look)

-- ---- what is left at a state

-- from the state the rest leads to no more than the path, and reads no more
record IsPart (at : ℕ → Way) (w : Way) (x : ℕ) (t : State) : Type 0 where
  to : (y : ℕ) → Contains ((at t.place).to t.node) y → Contains (w.to x) y
  reads : (k : Key) → Contains ((at t.place).reads t.node) k → Contains (w.reads x) k

module _ (g : Graph) (known : AllKnown g) (d : Direction) (route : Route) where
  abbrev edges : List Edge
  edges = (whole d route).edges

  abbrev end : ℕ
  end = (whole d route).end

  abbrev w : Way
  w = way g d route

  abbrev at : ℕ → Way
  at = (whole_left g known d route).left.at

  part_keeps : (x : ℕ) (t u : State) → IsPart at w x t → Contains (next_states g edges t) u → IsPart at w x u
  part_keeps x t u part c =
      let found = Contains-from_flat_map (goes g t) edges u c in
      let edge = found.0 in
      let there = (label_way g edge.label).to t.node in
      let told = where_given edge.from t.place (map (state_at edge.to) there) u found.2 in
      let image = Contains-from_map (state_at edge.to) there u told.1 in
      let kept = (whole_left g known d route).left.each edge found.1 in
      let here : IsPart at w x (state_at edge.from t.node) =
      subst (λ q. IsPart at w x (state_at q t.node)) (sym told.0) part in
      let y = image.0 in
      subst (IsPart at w x) (sym image.2) (record {
        to = λ z c. here.to z (kept.to t.node z (Contains-flat_map (at edge.to).to there y z image.1 c));
        reads = λ k c. here.reads k (kept.reads t.node k
            (Contains-append_right ((label_way g edge.label).reads t.node)
            (flat_map (at edge.to).reads there) k
            (Contains-flat_map (at edge.to).reads there y k image.1 c)));
      })

  part_reached : (x : ℕ) (t : State) → IsReached (next_states g edges) (state_at 0 x) t → IsPart at w x t
  part_reached x t reached =
      let same : at 0 ≡ w = (whole_left g known d route).left.same 0 (omega arith) in
      reached_keeps (next_states g edges) (IsPart at w x) (part_keeps x) (state_at 0 x) t reached (record {
        to = λ y c. subst (λ (v : Way). Contains (v.to x) y) same c;
        reads = λ k c. subst (λ (v : Way). Contains (v.reads x) k) same c;
      })

  -- the states that are reached at the last place
  pub states_nodes : (x y : ℕ) → IsReached (next_states g edges) (state_at 0 x) (state_at end y)
      ↔ Contains (w.to x) y
  states_nodes x y = (
    λ reached.
        (part_reached x (state_at end y) reached).to y
        ((whole_left g known d route).least.to y y ((Contains-one y y).1 refl)),
    λ c.
        let T = λ (q z : ℕ). IsReached (next_states g edges) (state_at 0 x) (state_at q z) in
        let carries : Carries g T edges = record {
          each = λ edge c u v t step.
              reached_step (next_states g edges) (state_at 0 x) (state_at edge.from u) (state_at edge.to v) t
              (next_by g edges (state_at edge.from u) edge v c refl step);
        } in
        carried_line g known T d route nothing_laid carries x y
        (reached_itself (next_states g edges) (state_at 0 x)) c,
  )

  -- the keys that are looked up at the states that are reached
  pub states_keys : (x : ℕ) (k : Key) → IsLookedUp g edges (state_at 0 x) k ↔ Contains (w.reads x) k
  states_keys x k = (
    λ looked.
        let t = looked.0 in
        let part = part_reached x t looked.1 in
        let found = Contains-from_flat_map (looks g t) edges k looked.2 in
        let edge = found.0 in
        let told = where_given edge.from t.place ((label_way g edge.label).reads t.node) k found.2 in
        let kept = (whole_left g known d route).left.each edge found.1 in
        part.reads k (subst (λ q. Contains ((at q).reads t.node) k) told.0 (kept.reads t.node k
        (Contains-append_left ((label_way g edge.label).reads t.node)
        (flat_map (at edge.to).reads ((label_way g edge.label).to t.node)) k told.1))),
    λ c.
        let T = λ (q z : ℕ). IsReached (next_states g edges) (state_at 0 x) (state_at q z) in
        let carries : Carries g T edges = record {
          each = λ edge c u v t step.
              reached_step (next_states g edges) (state_at 0 x) (state_at edge.from u) (state_at edge.to v) t
              (next_by g edges (state_at edge.from u) edge v c refl step);
        } in
        let notes : Notes g T (IsLookedUp g edges (state_at 0 x)) edges = record {
          each = λ edge c u k t look.
              (state_at edge.from u, t, key_by g edges (state_at edge.from u) edge k c refl look);
        } in
        noted_line g known T (IsLookedUp g edges (state_at 0 x)) d route nothing_laid carries notes x k
        (reached_itself (next_states g edges) (state_at 0 x)) c,
  )
