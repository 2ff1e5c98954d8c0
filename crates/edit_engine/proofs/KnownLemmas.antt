-- The target nodes of a shape have terms, and so have those of the pairs of some shapes.
use Rattle.std.specs.Prelude.{◌≡◌, ℕ, ◌<◌, List, [], Option, Some, None, length, slice_get}
use Rattle.std.specs.Prelude.{All, Contains}
use Rattle.std.proofs.Common.{refl, subst}
use Rattle.shx_term.proofs.MemberLemmas.{All_of_each, each_of_All, none_in_empty}
use Rattle.graph_view.specs.Graph.{Graph, AllKnown, HasTerms}
use Rattle.comp_core.specs.declared.pair.Pair.{Pair}
use Rattle.shape_eval.specs.declared.shape.PlanShape.{PlanShape}
use Rattle.shape_eval.specs.Plan.{HasTermsOf, IsKnownPlan}
use Rattle.shape_eval.specs.Targets.{nodes_of_targets, target_nodes, targets_of}
use Rattle.shape_eval.proofs.LevelLemmas.{shape_known}
use Rattle.shape_eval.proofs.TargetLemmas.{TriplesHeld, nodes_known}
use Rattle.edit_engine.specs.Pairs.{IsKnownPair, pairs_of}
use Rattle.edit_engine.proofs.RenewedPairLemmas.{Contains-pairs}

module _ (held : TriplesHeld) (g : Graph) (known : AllKnown g) (shapes : List PlanShape)
    (plan : IsKnownPlan g.terms shapes) where
  known_of : (o : Option PlanShape) → ((sh : PlanShape) → o ≡ Some sh → HasTermsOf g.terms sh)
      → HasTerms g (nodes_of_targets g (targets_of o))
  known_of None terms =
      nodes_known held g known []
      (All_of_each (λ id. id < length g.terms) [] (λ id c. absurd (none_in_empty id c)))
  known_of (Some sh) terms = nodes_known held g known sh.targets.items (terms sh refl).targets

  pub targets_have_terms : (n : ℕ) → HasTerms g (target_nodes shapes g n)
  targets_have_terms n = known_of (slice_get shapes n) (shape_known g shapes plan n)

  pub pair_known : (ns : List ℕ) → All (λ n. n < length shapes) ns → (p : Pair)
      → Contains (pairs_of shapes ns g) p → IsKnownPair shapes g p
  pair_known ns within p c =
      let at = (Contains-pairs (target_nodes shapes g) ns p).0 c in
      record {
        shape = each_of_All (λ n. n < length shapes) ns within p.shape at.0;
        node = each_of_All (λ id. id < length g.terms) (target_nodes shapes g p.shape)
            (targets_have_terms p.shape) p.node at.1;
      }

  pub pairs_known : (ns : List ℕ) → All (λ n. n < length shapes) ns → (ps : List Pair)
      → ps ≡ pairs_of shapes ns g → All (IsKnownPair shapes g) ps
  pairs_known ns within ps are =
      All_of_each (IsKnownPair shapes g) ps
      (λ p c. pair_known ns within p (subst (λ qs. Contains qs p) are c))
