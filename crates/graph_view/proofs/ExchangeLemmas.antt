-- What is left where several triples are added to a set and several are taken from it.
use Rattle.std.proofs.Common.{◌≡◌, ℕ, ◌+◌, ◌<◌, ◌≤◌, List, [], ◌∷◌, ◌++◌, length, get_or, take}
use Rattle.std.proofs.Common.{refl, sym, subst, inl, inr, arith, length-append}
use Rattle.std.specs.Prelude.{true, false, if◌then◌else◌, All, Contains, ◌↔◌, ◌⊎◌}
use Rattle.std.specs.List.{list_any, IsDistinct}
use Rattle.std.proofs.lemmas.List.{take_more, take-append-le}
use Rattle.std.proofs.lemmas.List.Elements.{Contains-append_left, Contains-append_right}
use Rattle.std.proofs.lemmas.List.Elements.{Contains-append_cases}
use Rattle.shx_term.specs.Triple.{same_triple}
use Rattle.shx_term.specs.declared.triple.Triple.{Triple}
use Rattle.shx_term.proofs.MemberLemmas.{none_in_empty, Contains-one, each_of_All, All_of_each}
use Rattle.graph_view.specs.Graph.{Graph, IsWithout}
use Rattle.shx_term.specs.Members.{SameMembers, Adds}
use Rattle.graph_view.specs.Patched.{without, patched, IsPatch}
use Rattle.graph_view.proofs.PatchedLemmas.{Contains-left, Contains-patched, IsDistinct-patched}
use Rattle.graph_view.proofs.PatchedLemmas.{All-patched, length-without}
use Rattle.graph_view.proofs.SameGraphLemmas.{length-same}

-- what stands in front stays there as a triple is inserted
pub take-insert : (n : ℕ) (keys : List Triple) (t : Triple) → n ≤ length keys
    → take n (if list_any (same_triple t) keys then keys else keys ++ t ∷ []) ≡ take n keys
take-insert n keys t within =
    elim (list_any (same_triple t) keys) as (λ b. take n (if b then keys else keys ++ t ∷ []) ≡ take n keys) [
      | true ↦ refl
      | false ↦ take-append-le n keys (t ∷ []) within
    ]

pub length-insert : (keys : List Triple) (t : Triple) (n : ℕ) → n ≤ length keys
    → n ≤ length (if list_any (same_triple t) keys then keys else keys ++ t ∷ [])
length-insert keys t n within =
    let longer = length-append keys (t ∷ []) in
    elim (list_any (same_triple t) keys) as (λ b. n ≤ length (if b then keys else keys ++ t ∷ [])) [
      | true ↦ within
      | false ↦ omega (arith, longer, within)
    ]

-- nothing is taken out yet
pub without-none : (triples : List Triple) → SameMembers triples (without same_triple triples [])
without-none triples = record {
  each = λ t.
      let left = Contains-left triples [] t in
      (λ c. left.1 (c, λ e. none_in_empty t e), λ c. (left.0 c).0);
}

-- a step of a loop that takes one triple out after the other
module _ (old gone : List Triple) (i : ℕ) (d : Triple) (inside : i < length gone) where
  more_gone : (u : Triple)
      → Contains (take (i + 1) gone) u ↔ (Contains (take i gone) u ⊎ (u ≡ get_or gone i d))
  more_gone u =
      let before = take i gone in
      let here = get_or gone i d in
      let all = take_more gone i d inside in (
        λ c. elim (Contains-append_cases before (here ∷ []) u (subst (λ us. Contains us u) all c)) [
          | inl e ↦ inl e
          | inr e ↦ inr ((Contains-one here u).0 e)
        ],
        λ h. subst (λ us. Contains us u) (sym all) (elim h [
          | inl e ↦ Contains-append_left before (here ∷ []) u e
          | inr e ↦ Contains-append_right before (here ∷ []) u ((Contains-one here u).1 e)
        ]),
      )

  pub without-take : (keys left : List Triple) → SameMembers keys (without same_triple old (take i gone))
      → IsWithout keys left (get_or gone i d) → SameMembers left (without same_triple old (take (i + 1) gone))
  without-take keys left before step = record {
    each = λ u.
        let was = Contains-left old (take i gone) u in
        let is = Contains-left old (take (i + 1) gone) u in (
          λ c.
              let here = (step.each u).0 c in
              let held = was.0 ((before.each u).0 here.0) in
              is.1 (held.0, λ e. elim ((more_gone u).0 e) [ inl f ↦ held.1 f | inr f ↦ here.1 f ]),
          λ c.
              let held = is.0 c in
              let kept = was.1 (held.0, λ e. held.1 ((more_gone u).1 (inl e))) in
              (step.each u).1 ((before.each u).1 kept, λ e. held.1 ((more_gone u).1 (inr e))),
        );
  }

module _ (g : Graph) (added removed : List Triple) (patch : IsPatch g added removed) where
  -- the added triples first, and then without the removed ones
  pub SameMembers-exchanged : (more new : List Triple) → Adds g.triples more added
      → SameMembers new (without same_triple more removed)
      → SameMembers new (patched g added removed).triples
  SameMembers-exchanged more new adds leaves = record {
    each = λ t.
        let left = Contains-left more removed t in
        let held = Contains-patched g added removed t in (
          λ c.
              let here = left.0 ((leaves.each t).0 c) in
              held.1 (elim ((adds.each t).0 here.0) [ inl d ↦ inl (d, here.1) | inr d ↦ inr d ]),
          λ c. (leaves.each t).1 (left.1 (elim (held.0 c) [
            | inl d ↦ ((adds.each t).1 (inl d.0), d.1)
            | inr d ↦ (
              (adds.each t).1 (inr d),
              λ r.
                  each_of_All (λ u. Contains g.triples u → ⊥) added patch.added_absent t d
                  (each_of_All (Contains g.triples) removed patch.removed_held t r),
            )
          ])),
        );
  }

  -- what is true of all that is held and of all that is added is true of all in the end
  pub All-exchanged : (P : Triple → Type 0) → All P g.triples → All P added
      → (new : List Triple) → SameMembers new (patched g added removed).triples → All P new
  All-exchanged P held more new same =
      All_of_each P new (λ t c.
      each_of_All P (patched g added removed).triples (All-patched g added removed P held more) t
      ((same.each t).0 c))

  module _ (distinct : IsDistinct same_triple g.triples) where
    pub length-removed : length removed ≤ length g.triples
    length-removed =
        let whole = length-without g.triples removed distinct patch.removed_once patch.removed_held in
        omega (arith, whole)

    -- how many triples there are in the end
    pub length-exchanged :
        length (patched g added removed).triples + length removed ≡ length g.triples + length added
    length-exchanged =
        let left = without same_triple g.triples removed in
        let whole = length-without g.triples removed distinct patch.removed_once patch.removed_held in
        let both = length-append left added in
        omega (arith, whole, both)

    pub count-exchanged : (new : List Triple) → SameMembers new (patched g added removed).triples
        → IsDistinct same_triple new → length new ≡ length (patched g added removed).triples
    count-exchanged new same once =
        length-same new (patched g added removed).triples same once
        (IsDistinct-patched g added removed distinct patch.added_once patch.added_absent)
