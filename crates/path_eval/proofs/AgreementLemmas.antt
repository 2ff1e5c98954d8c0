-- A path does the same in graphs that agree on what it reads; so an edit beside it makes no difference.
use Rattle.std.specs.Prelude.{◌≡◌, ℕ, ◌<◌, [], ◌∷◌, ◌++◌, flat_map, length, Contains}
use Rattle.std.proofs.Common.{refl, sym, ap, ◌∙◌}
use Rattle.shx_term.specs.declared.triple.Triple.{Triple}
use Rattle.shx_term.specs.IdOrder.{in_term_order}
use Rattle.shx_term.proofs.IdOrderLemmas.{in_term_order_same, in_term_order-append}
use Rattle.shx_term.proofs.MemberLemmas.{Contains-head}
use Rattle.graph_view.specs.declared.key.Key.{Key}
use Rattle.graph_view.specs.declared.key.Key.TheVariants.{Out, In}
use Rattle.graph_view.specs.Agree.{Agree, AgreeOn, IsUntouched}
use Rattle.graph_view.specs.Graph.{Graph, AllKnown, HasAlso, IsWithout}
use Rattle.graph_view.specs.Key.{Touches}
use Rattle.graph_view.proofs.AgreeLemmas.{AgreeOn-at, AgreeOn-left, AgreeOn-right, AgreeOn-part}
use Rattle.graph_view.proofs.AgreeLemmas.{Agree-fewer, Agree-inserted, Agree-removed}
use Rattle.graph_view.proofs.LookUpLemmas.{Contains-objects_of, Contains-subjects_of}
use Rattle.path_eval.specs.declared.direction.Direction.{Direction}
use Rattle.path_eval.specs.declared.direction.Direction.TheVariants.{Forward, Backward}
use Rattle.path_eval.specs.Relation.{opposite}
use Rattle.path_eval.specs.Route.{Route, along, here, first_then, none, one_or_other, turned, any_times}
use Rattle.path_eval.specs.Route.{some_times, perhaps}
use Rattle.path_eval.specs.Values.{IsSamePath, path_reads}
use Rattle.path_eval.specs.Way.{Way, way, stay, nowhere, closed, one_step}
use Rattle.path_eval.proofs.MeetsLemmas.{path_known, path_within}
use Rattle.shx_term.proofs.SetLemmas.{SameMembers-itself}
use Rattle.path_eval.proofs.SameLemmas.{SameWay, SameWay-itself, SameWay-either}
use Rattle.path_eval.proofs.SameLemmas.{SameWay-then, SameWay-repeated, SameWay-closed}

module _ (g h : Graph) where
  -- both hold the same of what the way reads at x
  abbrev AgreesAt : Way → ℕ → Type 0
  AgreesAt a x = AgreeOn g.triples h.triples (Contains (a.reads x))

  step_same : (d : Direction) (p x : ℕ) → AgreesAt (one_step g d p) x
      → SameWay (one_step g d p) (one_step h d p) x
  step_same Forward p x agree = record {
    to = record {
      each = λ y.
          let here = Contains-objects_of g x p y in
          let there = Contains-objects_of h x p y in
          let t : Triple = record { s = x; p = p; o = y } in
          let held = AgreeOn-at agree (Out x p) (Contains-head (Out x p) []) t (refl, refl) in
          (λ c. there.1 (held.0 (here.0 c)), λ c. here.1 (held.1 (there.0 c)));
    };
    reads = SameMembers-itself (Out x p ∷ []);
  }
  step_same Backward p x agree = record {
    to = record {
      each = λ y.
          let here = Contains-subjects_of g p x y in
          let there = Contains-subjects_of h p x y in
          let t : Triple = record { s = y; p = p; o = x } in
          let held = AgreeOn-at agree (In p x) (Contains-head (In p x) []) t (refl, refl) in
          (λ c. there.1 (held.0 (here.0 c)), λ c. here.1 (held.1 (there.0 c)));
    };
    reads = SameMembers-itself (In p x ∷ []);
  }

  -- after the first part the other is followed from where that leads
  agrees_then : (a b : Way) (x z : ℕ) → Contains (a.to x) z
      → AgreeOn g.triples h.triples (Contains (a.reads x ++ flat_map b.reads (a.to x))) → AgreesAt b z
  agrees_then a b x z c agree =
      AgreeOn-part b.reads (a.to x) z c (AgreeOn-right (a.reads x) (flat_map b.reads (a.to x)) agree)

  -- and a way that is repeated is followed from each node that it leads to
  agrees_at_each : (a : Way) (x z : ℕ) → Contains ((closed (length g.terms) a).to x) z
      → AgreesAt (closed (length g.terms) a) x → AgreesAt a z
  agrees_at_each a x z c agree = AgreeOn-part a.reads ((closed (length g.terms) a).to x) z c agree

  module _ (known : AllKnown g) (known' : AllKnown h) where
    pub path_same : (d : Direction) (route : Route) (x : ℕ) → AgreesAt (way g d route) x
        → SameWay (way g d route) (way h d route) x
    path_same d (along p) x agree = step_same d p x agree
    path_same d here x agree = SameWay-itself stay x
    path_same Forward (first_then a b) x agree =
        let first = way g Forward a in
        let second = way g Forward b in
        SameWay-then first second (way h Forward a) (way h Forward b) x
        (path_same Forward a x (AgreeOn-left (first.reads x) (flat_map second.reads (first.to x)) agree))
        (λ z c. path_same Forward b z (agrees_then first second x z c agree))
    path_same Backward (first_then a b) x agree =
        let first = way g Backward b in
        let second = way g Backward a in
        SameWay-then first second (way h Backward b) (way h Backward a) x
        (path_same Backward b x (AgreeOn-left (first.reads x) (flat_map second.reads (first.to x)) agree))
        (λ z c. path_same Backward a z (agrees_then first second x z c agree))
    path_same d none x agree = SameWay-itself nowhere x
    path_same d (one_or_other a b) x agree =
        let first = way g d a in
        let second = way g d b in
        SameWay-either first second (way h d a) (way h d b) x
        (path_same d a x (AgreeOn-left (first.reads x) (second.reads x) agree))
        (path_same d b x (AgreeOn-right (first.reads x) (second.reads x) agree))
    path_same d (turned a) x agree = path_same (opposite d) a x agree
    path_same d (any_times a) x agree =
        SameWay-closed (length g.terms) (length h.terms) (way g d a) (way h d a)
        (path_within g known d a) (path_within h known' d a) x
        (λ z c. path_same d a z (agrees_at_each (way g d a) x z c agree))
    path_same d (some_times a) x agree =
        SameWay-repeated (length g.terms) (length h.terms) (way g d a) (way h d a)
        (path_within g known d a) (path_within h known' d a) x
        (λ z c. path_same d a z (agrees_at_each (way g d a) x z c agree))
    path_same d (perhaps a) x agree =
        SameWay-either stay (way g d a) stay (way h d a) x (SameWay-itself stay x) (path_same d a x agree)

    -- from a known number the lists are the same too
    pub path_agreement : (d : Direction) (route : Route) (x : ℕ) → x < length g.terms
        → Agree g h (Contains (path_reads g d route x)) → IsSamePath g h d route x
    path_agreement d route x inside agree =
        let same = path_same d route x agree.triples in
        let here = (way g d route).to x in
        let there = (way h d route).to x in
        record {
          nodes = in_term_order_same g.terms here there same.to.each
              ∙ in_term_order-append g.terms agree.more there (λ y c.
              path_known g known d route x y inside ((same.to.each y).1 c))
              ∙ ap (λ terms. in_term_order terms there) (sym agree.terms);
          reads = record { each = same.reads.each };
        }

    module _ (t : Triple) (terms : h.terms ≡ g.terms) (d : Direction) (route : Route) (x : ℕ)
        (inside : x < length g.terms)
        (beside : (k : Key) → Contains (path_reads g d route x) k → Touches t k → ⊥) where
      beside_agrees : Agree g h (IsUntouched t) → IsSamePath g h d route x
      beside_agrees agree =
          path_agreement d route x inside (Agree-fewer (Contains (path_reads g d route x)) beside agree)

      pub path_inserted : HasAlso g.triples h.triples t → IsSamePath g h d route x
      path_inserted also = beside_agrees (Agree-inserted t terms also)

      pub path_removed : IsWithout g.triples h.triples t → IsSamePath g h d route x
      path_removed without = beside_agrees (Agree-removed t terms without)
