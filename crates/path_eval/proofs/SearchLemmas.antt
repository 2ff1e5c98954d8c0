-- A search: what was seen, of which that before a place was followed.
use Rattle.std.specs.Prelude.{◌≡◌, ℕ, ◌+◌, ◌≤◌, ◌<◌, ◌==◌, List, [], ◌∷◌, ◌++◌, map, filter, flat_map}
use Rattle.std.specs.Prelude.{length, take, Contains}
use Rattle.std.proofs.Common.{refl, sym, ap, ◌∙◌, subst, inl, inr, get_or, eq-eqb, arith, append-nil}
use Rattle.std.proofs.lemmas.Bool.{eqb-true}
use Rattle.std.proofs.lemmas.Grind.{flat_map-append}
use Rattle.std.proofs.lemmas.List.{take_all, take_more, take-append-le, length-append, get_or_default}
use Rattle.std.proofs.lemmas.List.Elements.{Contains-append_cases}
use Rattle.shx_term.proofs.MemberLemmas.{none_in_empty, Contains-one, Contains-map, Contains-from_map}
use Rattle.shx_term.proofs.MemberLemmas.{Contains-filter, Contains-from_filter}
use Rattle.shx_term.proofs.MemberLemmas.{Contains-flat_map, Contains-from_flat_map}
use Rattle.graph_view.specs.declared.key.Key.{Key}
use Rattle.graph_view.specs.Notes.{IsNoting}
use Rattle.path_eval.specs.declared.edge.State.{State}
use Rattle.path_eval.specs.inner.Reached.{HasThose, Joins, NotesThose}
use Rattle.path_eval.specs.inner.States.{IsReached, state_at}
use Rattle.path_eval.proofs.StateLemmas.{reached_itself, reached_step, reached_keeps}

pub record Searched {X N : Type 0} (notes : N → N → List Key → Type 0) (step : X → List X)
    (keys : X → List Key) (start : X) (seen : List X) (at : ℕ) (a b : N) : Type 0 where
  pub inside : at ≤ length seen
  pub begins : Contains seen start
  pub reached : (x : X) → Contains seen x → IsReached step start x
  pub followed : (x y : X) → Contains (take at seen) x → Contains (step x) y → Contains seen y
  pub reads : notes a b (flat_map keys (take at seen))

module _ {X N : Type 0} {notes : N → N → List Key → Type 0} (laws : IsNoting notes) (step : X → List X)
    (keys : X → List Key) (start : X) where
  pub Searched-start : (seen : List X) (a : N) → Joins [] (start ∷ []) seen
      → Searched notes step keys start seen 0 a a
  Searched-start seen a joins = record {
    inside = omega arith;
    begins = (joins.each start).1 (inr ((Contains-one start start).1 refl));
    reached = λ x c. elim ((joins.each x).0 c) [
      | inl d ↦ absurd (none_in_empty x d)
      | inr d ↦ subst (IsReached step start) (sym ((Contains-one start x).0 d)) (reached_itself step start)
    ];
    followed = λ x y c d. absurd (none_in_empty x c);
    reads = laws.none a;
  }

  module _ (seen : List X) (at : ℕ) (a b : N) (searched : Searched notes step keys start seen at a b) where
    pub Searched-step : (x : X) → at < length seen → x ≡ get_or seen at x → (new : List X) (c : N)
        → Joins seen (step x) new → notes b c (keys x) → Searched notes step keys start new (at + 1) a c
    Searched-step x more here new c joins reads =
        let there : Contains seen x = (at, more, sym here) in
        let front : take (at + 1) new ≡ take at seen ++ x ∷ [] =
        ap (take (at + 1)) joins.begins ∙ take-append-le (at + 1) seen joins.rest (omega (arith, more))
        ∙ take_more seen at x more ∙ ap (λ y. take at seen ++ y ∷ []) (sym here) in
        record {
          inside = omega (arith, more, ap length joins.begins, length-append seen joins.rest);
          begins = (joins.each start).1 (inl searched.begins);
          reached = λ y d. elim ((joins.each y).0 d) [
            | inl held ↦ searched.reached y held
            | inr next ↦ reached_step step start x y (searched.reached x there) next
          ];
          followed = λ y z d e. (joins.each z).1
              (elim (Contains-append_cases (take at seen) (x ∷ []) y (subst (λ ys. Contains ys y) front d)) [
                | inl before ↦ inl (searched.followed y z before e)
                | inr last ↦ inr (subst (λ u. Contains (step u) z) ((Contains-one x y).0 last) e)
              ]);
          reads =
              subst (λ ys. notes a c (flat_map keys ys)) (sym front)
              (subst (notes a c) (sym (flat_map-append keys (take at seen) (x ∷ [])))
              (laws.then (flat_map keys (take at seen)) (keys x ++ []) searched.reads
              (subst (notes b c) (sym (append-nil (keys x))) reads)));
        }

    -- the same for what was read in a slice, with any default
    pub Searched-next : (slice : List X) (d : X) → slice ≡ seen → at < length slice
        → (new : List X) (c : N)
        → Joins seen (step (get_or slice at d)) new → notes b c (keys (get_or slice at d))
        → Searched notes step keys start new (at + 1) a c
    Searched-next slice d same more new c joins reads =
        let x = get_or slice at d in
        let is : x ≡ get_or seen at x =
        sym (get_or_default slice at x d more) ∙ ap (λ xs. get_or xs at x) same in
        Searched-step x (omega (arith, more, ap length same)) is new c joins reads

    module _ (done : length seen ≤ at) where
      all : take at seen ≡ seen
      all = take_all at seen done

      pub Searched-seen : HasThose seen (IsReached step start)
      Searched-seen = record {
        each = λ x. (
          searched.reached x,
          λ reached. reached_keeps step (Contains seen)
              (λ y z c d. searched.followed y z (subst (λ ys. Contains ys y) (sym all) c) d) start x reached
              searched.begins,
        );
      }

      pub Searched-reads : NotesThose notes a b (λ k. (x : X) × IsReached step start x × Contains (keys x) k)
      Searched-reads = record {
        keys = flat_map keys seen;
        noted = subst (λ ys. notes a b (flat_map keys ys)) all searched.reads;
        each = λ k. (
          λ c.
              let found = Contains-from_flat_map keys seen k c in
              (found.0, (Searched-seen.each found.0).0 found.1, found.2),
          λ h. Contains-flat_map keys seen h.0 k ((Searched-seen.each h.0).1 h.1) h.2,
        );
      }

-- the nodes of the states at a place
pub HasThose-at : (P : State → Type 0) (seen : List State) (place : ℕ) (nodes : List ℕ)
    → nodes ≡ map (λ t. t.node) (filter (λ t. t.place == place) seen) → HasThose seen P
    → HasThose nodes (λ y. P (state_at place y))
HasThose-at P seen place nodes e has =
    let node : State → ℕ = λ t. t.node in
    let here = λ (t : State). t.place == place in
    record {
      each = λ y. (
        λ c.
            let image = Contains-from_map node (filter here seen) y (subst (λ ns. Contains ns y) e c) in
            let t = image.0 in
            let passed = Contains-from_filter here seen t image.1 in
            let at : P t = (has.each t).0 passed.0 in
            subst (λ n. P (state_at place n)) (sym image.2)
            (subst (λ q. P (state_at q t.node)) (eqb-true t.place place passed.1) at),
        λ p.
            let t = state_at place y in
            subst (λ ns. Contains ns y) (sym e)
            (Contains-map node (filter here seen) t
            (Contains-filter here seen t ((has.each t).1 p) (eq-eqb place place refl))),
      );
    }
