-- Pairs of shapes and their target nodes: that each stands once, and how many there are.
use Rattle.std.specs.Prelude.{◌≡◌, ℕ, ◌+◌, ◌≤◌, Bool, true, false, nat_eq, List, [], ◌∷◌}
use Rattle.std.specs.Prelude.{◌++◌}
use Rattle.std.specs.Prelude.{map, length, slice_get, Some, Contains, ◌↔◌, ◌⊎◌}
use Rattle.std.specs.Cmp.{nat_eq_equiv}
use Rattle.std.specs.List.{IsDistinct, list_any}
use Rattle.std.proofs.Common.{refl, sym, ap, ◌∙◌, subst, inl, inr, true≢false, length-append}
use Rattle.std.proofs.lemmas.List.Elements.{Contains-append_left, Contains-append_right}
use Rattle.std.proofs.lemmas.List.Elements.{Contains-append_cases}
use Rattle.std.proofs.lemmas.Map.Keys.{IsDistinct-tail}
use Rattle.std.proofs.lemmas.Map.Made.{length-from_same_keys, length-le_from_is_member}
use Rattle.std.proofs.lemmas.Option.{get_or_from_slice_get, slice_get-get_or, slice_get_within}
use Rattle.shx_term.specs.Members.{SameMembers}
use Rattle.shx_term.specs.TermOrder.{same_term}
use Rattle.shx_term.specs.declared.term.Term.{Term}
use Rattle.shx_term.specs.inner.TermOrderLaws.{same_term_equiv, same_term_exact}
use Rattle.shx_term.proofs.MemberLemmas.{Contains-head}
use Rattle.shx_term.proofs.MemberLemmas.{Contains-test}
use Rattle.graph_view.specs.Graph.{Graph}
use Rattle.graph_view.proofs.PatchedLemmas.{IsDistinct-append}
use Rattle.comp_core.specs.declared.pair.Pair.{Pair}
use Rattle.comp_core.specs.Pairs.{same_pair, same_pair_equiv, same_pair_exact}
use Rattle.shape_eval.specs.declared.shape.PlanShape.{PlanShape}
use Rattle.shape_eval.specs.Report.{at_shape}
use Rattle.shape_eval.specs.Targets.{target_nodes}
use Rattle.shape_eval.proofs.AscendingLemmas.{IsDistinct-in_term_order}
use Rattle.edit_engine.specs.Pairs.{pairs_of}
use Rattle.edit_engine.specs.Renewal.{IsDifference}
use Rattle.edit_engine.proofs.PutLemmas.{apart_parts}
use Rattle.edit_engine.proofs.RenewedPairLemmas.{Contains-at_shape, Contains-pairs, IsDistinct-at_shape}
use Rattle.edit_engine.proofs.RenewedPairLemmas.{none_apart}

-- ---- among others or not

by_decision : (b : Bool) (P : Type 0) → ((b ≡ true) ↔ P) → P ⊎ (P → ⊥)
by_decision true P decides = inl (decides.0 refl)
by_decision false P decides = inr (λ p. true≢false (sym (decides.1 p)))

pub among_pairs : (ps : List Pair) (p : Pair) → (list_any (same_pair p) ps ≡ true) ↔ Contains ps p
among_pairs ps p = Contains-test same_pair same_pair_equiv same_pair_exact ps p

pub pair_or_not : (ps : List Pair) (p : Pair) → Contains ps p ⊎ (Contains ps p → ⊥)
pair_or_not ps p = by_decision (list_any (same_pair p) ps) (Contains ps p) (among_pairs ps p)

-- a term has a number, or it has none
pub numbered_or_not : (terms : List Term) (node : Term)
    → ((id : ℕ) × (slice_get terms id ≡ Some node)) ⊎ ((id : ℕ) → slice_get terms id ≡ Some node → ⊥)
numbered_or_not terms node =
    elim (by_decision (list_any (same_term node) terms) (Contains terms node)
    (Contains-test same_term same_term_equiv same_term_exact terms node)) [
      | inl c ↦ inl (c.0, slice_get-get_or terms c.0 node c.1 ∙ ap Some c.2)
      | inr free ↦ inr (λ id at. free (
        id,
        slice_get_within terms id node at,
        get_or_from_slice_get terms id node node at,
      ))
    ]

-- ---- each stands once

pub pairs_distinct : (shapes : List PlanShape) (g : Graph) (ns : List ℕ) → IsDistinct nat_eq ns
    → IsDistinct same_pair (pairs_of shapes ns g)
pairs_distinct shapes g [] once = none_apart same_pair
pairs_distinct shapes g (n ∷ ns) once =
    let nodes = target_nodes shapes g n in
    IsDistinct-append same_pair same_pair_equiv same_pair_exact (map (at_shape n) nodes)
    (pairs_of shapes ns g)
    (IsDistinct-at_shape n nodes (IsDistinct-in_term_order g.terms _))
    (pairs_distinct shapes g ns (IsDistinct-tail nat_eq n ns once))
    (λ p c d.
    let here = ((Contains-at_shape n nodes p).0 c).0 in
    let later = ((Contains-pairs (target_nodes shapes g) ns p).0 d).0 in
    apart_parts nat_eq nat_eq_equiv (n ∷ []) ns once n (Contains-head n [])
    (subst (Contains ns) here later))

-- ---- how many there are

same_tests : (a b : Bool) → ((a ≡ true) → (b ≡ true)) → ((b ≡ true) → (a ≡ true)) → a ≡ b
same_tests true b to from = sym (to refl)
same_tests false true to from = from refl
same_tests false false to from = refl

-- what is only in the one and what is only in the other make them as many
pub length-differences : (xs ys gone new : List Pair) → IsDistinct same_pair xs → IsDistinct same_pair ys
    → IsDifference same_pair xs ys gone → IsDifference same_pair ys xs new
    → length ys + length gone ≡ length xs + length new
length-differences xs ys gone new once once' left entered =
    let first = IsDistinct-append same_pair same_pair_equiv same_pair_exact ys gone once' left.once
    (λ p c d. ((left.each p).0 d).1 c) in
    let second = IsDistinct-append same_pair same_pair_equiv same_pair_exact xs new once entered.once
    (λ p c d. ((entered.each p).0 d).1 c) in
    let same = length-from_same_keys same_pair_equiv (ys ++ gone) (xs ++ new) first second
    (λ q. same_tests _ _
    (λ e. (among_pairs (xs ++ new) q).1 (across xs ys gone new left entered q
    ((among_pairs (ys ++ gone) q).0 e)))
    (λ e. (among_pairs (ys ++ gone) q).1 (across ys xs new gone entered left q
    ((among_pairs (xs ++ new) q).0 e)))) in
    sym (length-append ys gone) ∙ same ∙ length-append xs new
  where
    across : (xs ys gone new : List Pair) → IsDifference same_pair xs ys gone
        → IsDifference same_pair ys xs new → (q : Pair) → Contains (ys ++ gone) q → Contains (xs ++ new) q
    across xs ys gone new left entered q c = elim (Contains-append_cases ys gone q c) [
      | inl d ↦ elim (pair_or_not xs q) [
        | inl held ↦ Contains-append_left xs new q held
        | inr free ↦ Contains-append_right xs new q ((entered.each q).1 (d, free))
      ]
      | inr d ↦ Contains-append_left xs new q ((left.each q).0 d).0
    ]

-- distinct pairs with the same members are as many
pub length-same_members : (xs ys : List Pair) → IsDistinct same_pair xs → IsDistinct same_pair ys
    → SameMembers xs ys → length xs ≡ length ys
length-same_members xs ys once once' same =
    length-from_same_keys same_pair_equiv xs ys once once'
    (λ q. same_tests _ _
    (λ e. (among_pairs ys q).1 ((same.each q).0 ((among_pairs xs q).0 e)))
    (λ e. (among_pairs xs q).1 ((same.each q).1 ((among_pairs ys q).0 e))))

-- distinct pairs of a list are no more than it has
pub length-among : (xs ys : List Pair) → IsDistinct same_pair xs
    → ((p : Pair) → Contains xs p → Contains ys p) → length xs ≤ length ys
length-among xs ys once among =
    length-le_from_is_member same_pair_equiv xs ys once
    (λ q e. (among_pairs ys q).1 (among q ((among_pairs xs q).0 e)))
