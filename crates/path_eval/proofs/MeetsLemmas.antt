-- A path leads to the nodes that it relates: each way of putting ways together meets a relation.
use Rattle.std.specs.Prelude.{◌≡◌, ℕ, ◌<◌, length, Contains, ◌↔◌, ◌⊎◌}
use Rattle.std.proofs.Common.{sym, ◌∙◌, subst, inl, inr}
use Rattle.std.proofs.lemmas.List.Elements.{Contains-append_cases}
use Rattle.shx_term.proofs.IdOrderLemmas.{in_term_order_lists}
use Rattle.shx_term.proofs.MemberLemmas.{none_in_empty, Contains-one, Contains-from_flat_map}
use Rattle.graph_view.specs.Graph.{Graph, AllKnown}
use Rattle.graph_view.proofs.LookUpLemmas.{Contains-objects_of, Contains-subjects_of}
use Rattle.graph_view.proofs.LookUpLemmas.{known_object, known_subject}
use Rattle.path_eval.specs.declared.direction.Direction.{Direction}
use Rattle.path_eval.specs.declared.direction.Direction.TheVariants.{Forward, Backward}
use Rattle.shx_term.specs.Chains.{Chain, Longer}
use Rattle.path_eval.specs.Relation.{PathRelates, Reaches, opposite, pick}
use Rattle.path_eval.specs.Route.{Route, along, here, first_then, none, one_or_other, turned, any_times}
use Rattle.path_eval.specs.Route.{some_times, perhaps}
use Rattle.path_eval.specs.Values.{ListsReached, nodes_reached}
use Rattle.path_eval.specs.Way.{Way, way, stay, nowhere, either, then_by, repeated, closed, one_step}
use Rattle.path_eval.proofs.ChainLemmas.{Back, Chain-cases, Chain-back, Longer-back, Longer-same}
use Rattle.path_eval.proofs.FlatMapLemmas.{append_told, flat_map_told}
use Rattle.path_eval.proofs.ThroughLemmas.{IsWithin, repeated_chain, repeated_within}

-- a way leads where the relation does, and no step of it leads to an unknown number other than its own start
pub record Meets (count : ℕ) (a : Way) (R : ℕ → ℕ → Type 0) : Type 0 where
  pub leads : (x y : ℕ) → Contains (a.to x) y ↔ R x y
  pub within : IsWithin count a

module _ (count : ℕ) where
  stay_within : IsWithin count stay
  stay_within x y c = inl ((Contains-one x y).0 c)

  either_within : (a b : Way) → IsWithin count a → IsWithin count b → IsWithin count (either a b)
  either_within a b first second x y c = elim (Contains-append_cases (a.to x) (b.to x) y c) [
    | inl d ↦ first x y d
    | inr d ↦ second x y d
  ]

  then_within : (a b : Way) → IsWithin count a → IsWithin count b → IsWithin count (then_by a b)
  then_within a b first second x y c =
      let found = Contains-from_flat_map b.to (a.to x) y c in
      let z = found.0 in
      elim (second z y found.2) [
        | inl e ↦ elim (first x z found.1) [
          | inl f ↦ inl (e ∙ f)
          | inr inside ↦ inr (subst (λ w. w < count) (sym e) inside)
        ]
        | inr inside ↦ inr inside
      ]

  -- ---- in one direction

  Meets-as : {R S : ℕ → ℕ → Type 0} (a : Way) → ((x y : ℕ) → R x y ↔ S x y)
      → Meets count a R → Meets count a S
  Meets-as a same meets = record {
    leads = λ x y. (
      λ c. (same x y).0 ((meets.leads x y).0 c),
      λ r. (meets.leads x y).1 ((same x y).1 r),
    );
    within = meets.within;
  }

  meets_stay : Meets count stay (λ x y. x ≡ y)
  meets_stay = record {
    leads = λ x y. (λ c. sym ((Contains-one x y).0 c), λ e. (Contains-one x y).1 (sym e));
    within = stay_within;
  }

  meets_nowhere : Meets count nowhere (λ x y. ⊥)
  meets_nowhere = record {
    leads = λ x y. (λ c. none_in_empty y c, λ h. absurd h);
    within = λ x y c. absurd (none_in_empty y c);
  }

  module _ (R : ℕ → ℕ → Type 0) (a : Way) (first : Meets count a R) where
    meets_repeated : Meets count (repeated count a) (Longer R)
    meets_repeated = record {
      leads = λ x y.
          let chain = repeated_chain count a first.within x y in
          let same = Longer-same (λ u v. Contains (a.to u) v) R x (λ z _ v. first.leads z v) y in
          (λ c. same.0 (chain.0 c), λ longer. chain.1 (same.1 longer));
      within = repeated_within count a first.within;
    }

    module _ (S : ℕ → ℕ → Type 0) (b : Way) (second : Meets count b S) where
      meets_either : Meets count (either a b) (λ x y. R x y ⊎ S x y)
      meets_either = record {
        leads = λ x y. append_told (a.to x) (b.to x) y (first.leads x y) (second.leads x y);
        within = either_within a b first.within second.within;
      }

      meets_then : Meets count (then_by a b) (λ x y. (z : ℕ) × R x z × S z y)
      meets_then = record {
        leads = λ x y. flat_map_told b.to (a.to x) y (first.leads x) (λ z. second.leads z y);
        within = then_within a b first.within second.within;
      }

  pub meets_closed : (R : ℕ → ℕ → Type 0) (a : Way) → Meets count a R → Meets count (closed count a) (Chain R)
  meets_closed R a first =
      Meets-as (closed count a) (λ x y. ((Chain-cases R x y).1, (Chain-cases R x y).0))
      (meets_either (λ x y. x ≡ y) stay meets_stay (Longer R) (repeated count a) (meets_repeated R a first))

  -- ---- in either direction

  stay_reaches : (d : Direction) → Meets count stay (Reaches d (λ x y. x ≡ y))
  stay_reaches Forward = meets_stay
  stay_reaches Backward = Meets-as stay (λ x y. (sym, sym)) meets_stay

  nowhere_reaches : (d : Direction) → Meets count nowhere (Reaches d (λ x y. ⊥))
  nowhere_reaches Forward = meets_nowhere
  nowhere_reaches Backward = meets_nowhere

  module _ (R : ℕ → ℕ → Type 0) where
    turned_reaches : (d : Direction) (a : Way) → Meets count a (Reaches (opposite d) R)
        → Meets count a (Reaches d (λ x y. R y x))
    turned_reaches Forward a first = first
    turned_reaches Backward a first = first

    repeated_reaches : (d : Direction) (a : Way) → Meets count a (Reaches d R)
        → Meets count (repeated count a) (Reaches d (Longer R))
    repeated_reaches Forward a first = meets_repeated R a first
    repeated_reaches Backward a first =
        Meets-as (repeated count a) (Longer-back R) (meets_repeated (Back R) a first)

    pub closed_reaches : (d : Direction) (a : Way) → Meets count a (Reaches d R)
        → Meets count (closed count a) (Reaches d (Chain R))
    closed_reaches Forward a first = meets_closed R a first
    closed_reaches Backward a first =
        Meets-as (closed count a) (Chain-back R) (meets_closed (Back R) a first)

    module _ (S : ℕ → ℕ → Type 0) where
      either_reaches : (d : Direction) (a b : Way) → Meets count a (Reaches d R) → Meets count b (Reaches d S)
          → Meets count (either a b) (Reaches d (λ x y. R x y ⊎ S x y))
      either_reaches Forward a b first second = meets_either R a first S b second
      either_reaches Backward a b first second = meets_either (Back R) a first (Back S) b second

      then_reaches : (d : Direction) (a b : Way) → Meets count a (Reaches d R) → Meets count b (Reaches d S)
          → Meets count (pick d (then_by a b) (then_by b a)) (Reaches d (λ x y. (z : ℕ) × R x z × S z y))
      then_reaches Forward a b first second = meets_then R a first S b second
      then_reaches Backward a b first second =
          Meets-as (then_by b a) (λ x y. (λ h. (h.0, h.2, h.1), λ h. (h.0, h.2, h.1)))
          (meets_then (Back S) b second (Back R) a first)

module _ (g : Graph) (known : AllKnown g) where
  step_meets : (d : Direction) (p : ℕ)
      → Meets (length g.terms) (one_step g d p) (Reaches d (PathRelates g.triples (along p)))
  step_meets Forward p = record {
    leads = λ x y. Contains-objects_of g x p y;
    within = λ x y c. inr (known_object g known x p y c);
  }
  step_meets Backward p = record {
    leads = λ x y. Contains-subjects_of g p x y;
    within = λ x y c. inr (known_subject g known p x y c);
  }

  -- a path leads to the nodes that it relates
  pub path_meets : (d : Direction) (route : Route)
      → Meets (length g.terms) (way g d route) (Reaches d (PathRelates g.triples route))
  path_meets d (along p) = step_meets d p
  path_meets d here = stay_reaches (length g.terms) d
  path_meets d (first_then a b) =
      then_reaches (length g.terms) (PathRelates g.triples a) (PathRelates g.triples b) d
      (way g d a) (way g d b) (path_meets d a) (path_meets d b)
  path_meets d none = nowhere_reaches (length g.terms) d
  path_meets d (one_or_other a b) =
      either_reaches (length g.terms) (PathRelates g.triples a) (PathRelates g.triples b) d
      (way g d a) (way g d b) (path_meets d a) (path_meets d b)
  path_meets d (turned a) =
      let back = opposite d in
      turned_reaches (length g.terms) (PathRelates g.triples a) d (way g back a) (path_meets back a)
  path_meets d (any_times a) =
      closed_reaches (length g.terms) (PathRelates g.triples a) d (way g d a) (path_meets d a)
  path_meets d (some_times a) =
      repeated_reaches (length g.terms) (PathRelates g.triples a) d (way g d a) (path_meets d a)
  path_meets d (perhaps a) =
      either_reaches (length g.terms) (λ x y. x ≡ y) (PathRelates g.triples a) d
      stay (way g d a) (stay_reaches (length g.terms) d) (path_meets d a)

  -- it leads to its own start, or to a number that has a term
  pub path_within : (d : Direction) (route : Route) → IsWithin (length g.terms) (way g d route)
  path_within d route = (path_meets d route).within

  -- so where the start has a term, it leads to numbers that have terms
  pub path_known : (d : Direction) (route : Route) (x y : ℕ) → x < length g.terms
      → Contains ((way g d route).to x) y → y < length g.terms
  path_known d route x y inside c = elim (path_within d route x y c) [
    | inl e ↦ subst (λ z. z < length g.terms) (sym e) inside
    | inr more ↦ more
  ]

  -- so the list of where it leads is right
  pub path_lists : (d : Direction) (route : Route) (x : ℕ)
      → ListsReached g d route x (nodes_reached g d route x)
  path_lists d route x =
      let lists = in_term_order_lists g.terms ((way g d route).to x) in
      let meets = path_meets d route in
      record {
        sorted = lists.sorted;
        each = λ y. (
          λ c. (meets.leads x y).0 ((lists.each y).0 c),
          λ r. (lists.each y).1 ((meets.leads x y).1 r),
        );
      }
