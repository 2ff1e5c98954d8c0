-- Ways that lead to no more than others, and read no more.
use Rattle.std.specs.Prelude.{ℕ, [], ◌∷◌, ◌++◌, flat_map, Contains}
use Rattle.std.proofs.Common.{sym, subst, inl, inr}
use Rattle.std.proofs.lemmas.List.Elements.{Contains-append_left, Contains-append_right}
use Rattle.std.proofs.lemmas.List.Elements.{Contains-append_cases}
use Rattle.shx_term.proofs.MemberLemmas.{none_in_empty, Contains-head, Contains-tail, Contains-one}
use Rattle.shx_term.proofs.MemberLemmas.{Contains-flat_map, Contains-from_flat_map}
use Rattle.graph_view.specs.declared.key.Key.{Key}
use Rattle.path_eval.specs.Way.{Way, stay, either, then_by, closed, repeated}
use Rattle.path_eval.proofs.MeetsLemmas.{Meets, meets_closed}
use Rattle.path_eval.proofs.ThroughLemmas.{IsWithin, Leads, repeated_chain}

pub record SubWay (v w : Way) : Type 0 where
  pub to : (x y : ℕ) → Contains (v.to x) y → Contains (w.to x) y
  pub reads : (x : ℕ) (k : Key) → Contains (v.reads x) k → Contains (w.reads x) k

pub SubWay-itself : (w : Way) → SubWay w w
SubWay-itself w = record { to = λ x y c. c; reads = λ x k c. c }

pub SubWay-trans : {u v w : Way} → SubWay u v → SubWay v w → SubWay u w
SubWay-trans a b =
    record { to = λ x y c. b.to x y (a.to x y c); reads = λ x k c. b.reads x k (a.reads x k c) }

pub SubWay-left : (a b : Way) → SubWay a (either a b)
SubWay-left a b = record {
  to = λ x y c. Contains-append_left (a.to x) (b.to x) y c;
  reads = λ x k c. Contains-append_left (a.reads x) (b.reads x) k c;
}

pub SubWay-right : (a b : Way) → SubWay b (either a b)
SubWay-right a b = record {
  to = λ x y c. Contains-append_right (a.to x) (b.to x) y c;
  reads = λ x k c. Contains-append_right (a.reads x) (b.reads x) k c;
}

-- no more before w
pub SubWay-before : (a b w : Way) → SubWay a b → SubWay (then_by a w) (then_by b w)
SubWay-before a b w sub = record {
  to = λ x y c.
      let found = Contains-from_flat_map w.to (a.to x) y c in
      Contains-flat_map w.to (b.to x) found.0 y (sub.to x found.0 found.1) found.2;
  reads = λ x k c. elim (Contains-append_cases (a.reads x) (flat_map w.reads (a.to x)) k c) [
    | inl l ↦ Contains-append_left (b.reads x) (flat_map w.reads (b.to x)) k (sub.reads x k l)
    | inr r ↦
        let found = Contains-from_flat_map w.reads (a.to x) k r in
        Contains-append_right (b.reads x) (flat_map w.reads (b.to x)) k
        (Contains-flat_map w.reads (b.to x) found.0 k (sub.to x found.0 found.1) found.2)
  ];
}

-- no more behind w
pub SubWay-after : (w a b : Way) → SubWay a b → SubWay (then_by w a) (then_by w b)
SubWay-after w a b sub = record {
  to = λ x y c.
      let found = Contains-from_flat_map a.to (w.to x) y c in
      Contains-flat_map b.to (w.to x) found.0 y found.1 (sub.to found.0 y found.2);
  reads = λ x k c. elim (Contains-append_cases (w.reads x) (flat_map a.reads (w.to x)) k c) [
    | inl l ↦ Contains-append_left (w.reads x) (flat_map b.reads (w.to x)) k l
    | inr r ↦
        let found = Contains-from_flat_map a.reads (w.to x) k r in
        Contains-append_right (w.reads x) (flat_map b.reads (w.to x)) k
        (Contains-flat_map b.reads (w.to x) found.0 k found.1 (sub.reads found.0 k found.2))
  ];
}

-- the first two together
pub SubWay-together : (a b w : Way) → SubWay (then_by a (then_by b w)) (then_by (then_by a b) w)
SubWay-together a b w =
    let to = λ (x z u : ℕ) (c : Contains (a.to x) z) (d : Contains (b.to z) u).
    Contains-flat_map b.to (a.to x) z u c d in
    record {
      to = λ x y c.
          let found = Contains-from_flat_map (then_by b w).to (a.to x) y c in
          let more = Contains-from_flat_map w.to (b.to found.0) y found.2 in
          Contains-flat_map w.to (flat_map b.to (a.to x)) more.0 y (to x found.0 more.0 found.1 more.1)
          more.2;
      reads = λ x k c.
          let first = a.reads x in
          let second = flat_map b.reads (a.to x) in
          let third = flat_map w.reads (flat_map b.to (a.to x)) in
          elim (Contains-append_cases first (flat_map (then_by b w).reads (a.to x)) k c) [
            | inl l ↦ Contains-append_left (first ++ second) third k (Contains-append_left first second k l)
            | inr r ↦
                let found = Contains-from_flat_map (then_by b w).reads (a.to x) k r in
                let z = found.0 in
                elim (Contains-append_cases (b.reads z) (flat_map w.reads (b.to z)) k found.2) [
                  | inl l ↦ Contains-append_left (first ++ second) third k
                      (Contains-append_right first second k
                      (Contains-flat_map b.reads (a.to x) z k found.1 l))
                  | inr s ↦
                      let more = Contains-from_flat_map w.reads (b.to z) k s in
                      Contains-append_right (first ++ second) third k
                      (Contains-flat_map w.reads (flat_map b.to (a.to x)) more.0 k
                      (to x z more.0 found.1 more.1) more.2)
                ]
          ];
    }

-- and the last two
pub SubWay-apart : (a b w : Way) → SubWay (then_by (then_by a b) w) (then_by a (then_by b w))
SubWay-apart a b w =
    let both = flat_map (then_by b w).reads in
    record {
      to = λ x y c.
          let found = Contains-from_flat_map w.to (flat_map b.to (a.to x)) y c in
          let more = Contains-from_flat_map b.to (a.to x) found.0 found.1 in
          Contains-flat_map (then_by b w).to (a.to x) more.0 y more.1
          (Contains-flat_map w.to (b.to more.0) found.0 y more.2 found.2);
      reads = λ x k c.
          let first = a.reads x in
          let second = flat_map b.reads (a.to x) in
          let third = flat_map w.reads (flat_map b.to (a.to x)) in
          elim (Contains-append_cases (first ++ second) third k c) [
            | inl l ↦ elim (Contains-append_cases first second k l) [
              | inl one ↦ Contains-append_left first (both (a.to x)) k one
              | inr two ↦
                  let found = Contains-from_flat_map b.reads (a.to x) k two in
                  let z = found.0 in
                  Contains-append_right first (both (a.to x)) k
                  (Contains-flat_map (then_by b w).reads (a.to x) z k found.1
                  (Contains-append_left (b.reads z) (flat_map w.reads (b.to z)) k found.2))
            ]
            | inr r ↦
                let found = Contains-from_flat_map w.reads (flat_map b.to (a.to x)) k r in
                let more = Contains-from_flat_map b.to (a.to x) found.0 found.1 in
                let z = more.0 in
                Contains-append_right first (both (a.to x)) k
                (Contains-flat_map (then_by b w).reads (a.to x) z k more.1
                (Contains-append_right (b.reads z) (flat_map w.reads (b.to z)) k
                (Contains-flat_map w.reads (b.to z) found.0 k more.2 found.2)))
          ];
    }

-- to stay first, or last, is nothing
pub SubWay-stay : (w : Way) → SubWay (then_by stay w) w
SubWay-stay w = record {
  to = λ x y c.
      let found = Contains-from_flat_map w.to (x ∷ []) y c in
      subst (λ z. Contains (w.to z) y) ((Contains-one x found.0).0 found.1) found.2;
  reads = λ x k c.
      let found = Contains-from_flat_map w.reads (x ∷ []) k c in
      subst (λ z. Contains (w.reads z) k) ((Contains-one x found.0).0 found.1) found.2;
}

pub SubWay-stayed : (w : Way) → SubWay w (then_by stay w)
SubWay-stayed w = record {
  to = λ x y c. Contains-flat_map w.to (x ∷ []) x y (Contains-head x []) c;
  reads = λ x k c. Contains-flat_map w.reads (x ∷ []) x k (Contains-head x []) c;
}

pub SubWay-end : (w : Way) → SubWay (then_by w stay) w
SubWay-end w = record {
  to = λ x y c.
      let found = Contains-from_flat_map stay.to (w.to x) y c in
      subst (Contains (w.to x)) (sym ((Contains-one found.0 y).0 found.2)) found.1;
  reads = λ x k c. elim (Contains-append_cases (w.reads x) (flat_map stay.reads (w.to x)) k c) [
    | inl l ↦ l
    | inr r ↦
        let found = Contains-from_flat_map stay.reads (w.to x) k r in
        absurd (none_in_empty k found.2)
  ];
}

pub SubWay-ended : (w : Way) → SubWay w (then_by w stay)
SubWay-ended w = record {
  to = λ x y c. Contains-flat_map stay.to (w.to x) y y c (Contains-head y []);
  reads = λ x k c. Contains-append_left (w.reads x) (flat_map stay.reads (w.to x)) k c;
}

-- once, and then any number of times, is once or more
module _ (count : ℕ) (w : Way) (within : IsWithin count w) where
  itself : Meets count w (Leads w.to)
  itself = record { leads = λ x y. (λ c. c, λ c. c); within = within }

  once_more : (x z y : ℕ) → Contains (w.to x) z → Contains ((closed count w).to z) y
      → Contains ((repeated count w).to x) y
  once_more x z y c d =
      (repeated_chain count w within x y).1 (z, c, ((meets_closed count (Leads w.to) w itself).leads z y).0 d)

  pub SubWay-once_more : SubWay (then_by w (closed count w)) (repeated count w)
  SubWay-once_more = record {
    to = λ x y c.
        let found = Contains-from_flat_map (closed count w).to (w.to x) y c in
        once_more x found.0 y found.1 found.2;
    reads = λ x k c.
        let far = (repeated count w).to x in
        elim (Contains-append_cases (w.reads x) (flat_map (closed count w).reads (w.to x)) k c) [
          | inl l ↦ Contains-flat_map w.reads (x ∷ far) x k (Contains-head x far) l
          | inr r ↦
              let found = Contains-from_flat_map (closed count w).reads (w.to x) k r in
              let more = Contains-from_flat_map w.reads ((closed count w).to found.0) k found.2 in
              Contains-flat_map w.reads (x ∷ far) more.0 k
              (Contains-tail x more.0 far (once_more x found.0 more.0 found.1 more.1)) more.2
        ];
  }
