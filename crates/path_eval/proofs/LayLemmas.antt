-- Loops that lay parts: with what is left to be laid, the edges are those of the whole.
use Rattle.std.specs.Prelude.{◌≡◌, ℕ, ◌+◌, ◌≤◌, ◌<◌, List, ◌∷◌, ◌++◌, map, length, drop}
use Rattle.std.proofs.Common.{refl, sym, ap, ◌∙◌, subst, get_or, append_assoc, append-nil}
use Rattle.std.proofs.lemmas.List.{drop_more, drop_all}
use Rattle.path_eval.specs.declared.direction.Direction.{Direction}
use Rattle.path_eval.specs.declared.path.Path.{Path}
use Rattle.path_eval.specs.Relation.{pick}
use Rattle.path_eval.specs.Route.{Route, sequence, alternative, route_of, first_then, one_or_other, here}
use Rattle.path_eval.specs.Route.{none}
use Rattle.path_eval.specs.declared.edge.Edge.{Edge}
use Rattle.path_eval.specs.declared.lay.Edges.{Edges}
use Rattle.path_eval.specs.inner.Laid.{after, laid}
use Rattle.path_eval.specs.inner.Laying.{Lays}

pub record Completes (d : Direction) (rest : Route) (s e : ℕ) (now : Edges) (all : List Edge) (m : ℕ)
    : Type 0 where
  pub edges : now.edges.items ++ laid d rest s e now.places ≡ all
  pub places : after rest now.places ≡ m

-- the rest is laid
pub Completes-end : (d : Direction) (s e : ℕ) (old now : Edges) (route rest : Route) (from to : ℕ)
    → Completes d rest s e now (old.edges.items ++ laid d route from to old.places) (after route old.places)
    → (new : Edges) → Lays now d rest s e new → Lays old d route from to new
Completes-end d s e old now route rest from to left new lays = record {
  edges = lays.edges ∙ left.edges;
  places = lays.places ∙ left.places;
}

drop_here : (paths : List Path) (i : ℕ) (p : Path) → i < length paths → p ≡ get_or paths i p
    → drop i paths ≡ p ∷ drop (i + 1) paths
drop_here paths i p inside is =
    drop_more paths i p inside ∙ ap (λ q. q ∷ drop (i + 1) paths) (sym is)

module _ (d : Direction) (all : List Edge) (places : ℕ) where
  -- the first of the rest is laid
  first_laid : (a rest : Route) (s e s' e' : ℕ) (now new : Edges) (m : ℕ)
      → now.edges.items ++ (laid d a s e m ++ laid d rest s' e' (after a m)) ≡ all
      → after rest (after a m) ≡ places
      → new.edges.items ≡ now.edges.items ++ laid d a s e m → new.places ≡ after a m
      → Completes d rest s' e' new all places
  first_laid a rest s e s' e' now new m edges rest_places items next = record {
    edges =
        ap (λ n. new.edges.items ++ laid d rest s' e' n) next
        ∙ ap (λ xs. xs ++ laid d rest s' e' (after a m)) items
        ∙ append_assoc now.edges.items (laid d a s e m) (laid d rest s' e' (after a m)) ∙ edges;
    places = ap (after rest) next ∙ rest_places;
  }

  module _ (paths : List Path) (i : ℕ) (p : Path) (inside : i < length paths) (is : p ≡ get_or paths i p)
      (s e : ℕ) (now : Edges) where
    abbrev rest : Route
    rest = sequence (map route_of (drop (i + 1) paths))

    pub Completes-part : Completes d (sequence (map route_of (drop i paths))) s e now all places
        → (held new : Edges) (mid first last : ℕ) → mid ≡ now.places → held.places ≡ now.places + 1
        → held.edges ≡ now.edges → first ≡ pick d s mid → last ≡ pick d mid e
        → Lays held d (route_of p) first last new
        → (s' e' : ℕ) → s' ≡ pick d mid s → e' ≡ pick d e mid
        → Completes d (sequence (map route_of (drop (i + 1) paths))) s' e' new all places
    Completes-part left held new mid first last at more same from to lays s' e' next_s next_e =
        let n = now.places in
        let a = route_of p in
        let whole : Completes d (first_then a rest) s e now all places =
        subst (λ ps. Completes d (sequence (map route_of ps)) s e now all places)
        (drop_here paths i p inside is)
        left in
        let items : new.edges.items ≡ now.edges.items ++ laid d a (pick d s n) (pick d n e) (n + 1) =
        lays.edges ∙ ap (λ v. v.items ++ laid d a first last held.places) same
        ∙ ap (λ q. now.edges.items ++ laid d a first last q) more
        ∙ ap (λ q. now.edges.items ++ laid d a q last (n + 1)) (from ∙ ap (pick d s) at)
        ∙ ap (λ q. now.edges.items ++ laid d a (pick d s n) q (n + 1)) (to ∙ ap (λ q. pick d q e) at) in
        let moved =
        first_laid a rest (pick d s n) (pick d n e) (pick d n s) (pick d e n) now new (n + 1) whole.edges
        whole.places items (lays.places ∙ ap (after a) more) in
        subst (λ q. Completes d rest q e' new all places) (sym (next_s ∙ ap (λ q. pick d q s) at))
        (subst (λ q. Completes d rest (pick d n s) q new all places) (sym (next_e ∙ ap (pick d e) at)) moved)

    pub Completes-member : Completes d (alternative (map route_of (drop i paths))) s e now all places
        → (new : Edges) → Lays now d (route_of p) s e new
        → Completes d (alternative (map route_of (drop (i + 1) paths))) s e new all places
    Completes-member left new lays =
        let a = route_of p in
        let others = alternative (map route_of (drop (i + 1) paths)) in
        let whole : Completes d (one_or_other a others) s e now all places =
        subst (λ ps. Completes d (alternative (map route_of ps)) s e now all places)
        (drop_here paths i p inside is) left in
        first_laid a others s e s e now new now.places whole.edges whole.places lays.edges lays.places

  module _ (paths : List Path) (i : ℕ) (done : length paths ≤ i) (s e : ℕ) (now : Edges) where
    pub Completes-parts : Completes d (sequence (map route_of (drop i paths))) s e now all places
        → Completes d here s e now all places
    Completes-parts left =
        subst (λ ps. Completes d (sequence (map route_of ps)) s e now all places) (drop_all i paths done) left

    pub Completes-members : Completes d (alternative (map route_of (drop i paths))) s e now all places
        → Completes d none s e now all places
    Completes-members left =
        subst (λ ps. Completes d (alternative (map route_of ps)) s e now all places) (drop_all i paths done)
        left

pub Lays-none : (d : Direction) (s e : ℕ) (now : Edges) → Lays now d none s e now
Lays-none d s e now = record { edges = sym (append-nil now.edges.items); places = refl }
