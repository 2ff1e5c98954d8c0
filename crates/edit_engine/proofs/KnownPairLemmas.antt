-- The nodes of pairs have terms.
use Rattle.std.specs.Prelude.{◌≡◌, ℕ, ◌<◌, List, length, All, Contains}
use Rattle.shx_term.proofs.MemberLemmas.{each_of_All}
use Rattle.graph_view.specs.Graph.{Graph, AllKnown, HasTerms}
use Rattle.graph_view.proofs.LookUpLemmas.{Contains-triples_with}
use Rattle.comp_core.specs.declared.pair.Pair.{Pair}
use Rattle.shape_eval.specs.declared.shape.PlanShape.{PlanShape}
use Rattle.shape_eval.specs.Plan.{IsKnownPlan}
use Rattle.shape_eval.specs.Targets.{target_nodes}
use Rattle.shape_eval.proofs.TargetLemmas.{TriplesHeld}
use Rattle.edit_engine.specs.Pairs.{IsKnownPair, pairs_of}
use Rattle.edit_engine.proofs.KnownLemmas.{pair_known as known_at, pairs_known as all_known_at}
use Rattle.edit_engine.proofs.KnownLemmas.{targets_have_terms}
use Rattle.edit_engine.proofs.RenewedPairLemmas.{Contains-pairs}

triples_held : TriplesHeld
triples_held g p t c = ((Contains-triples_with g p t).0 c).0

module _ (shapes : List PlanShape) (g : Graph) (known : AllKnown g) (plan : IsKnownPlan g.terms shapes) where
  pub target_nodes_known : (n : ℕ) → HasTerms g (target_nodes shapes g n)
  target_nodes_known n = targets_have_terms triples_held g known shapes plan n

  pub node_known : (ns : List ℕ) (p : Pair) → Contains (pairs_of shapes ns g) p → p.node < length g.terms
  node_known ns p c =
      each_of_All (λ id. id < length g.terms) (target_nodes shapes g p.shape) (target_nodes_known p.shape)
      p.node ((Contains-pairs (target_nodes shapes g) ns p).0 c).1

  pub pair_known : (ns : List ℕ) → All (λ n. n < length shapes) ns → (p : Pair)
      → Contains (pairs_of shapes ns g) p → IsKnownPair shapes g p
  pair_known ns within p c = known_at triples_held g known shapes plan ns within p c

  pub pairs_known : (ns : List ℕ) → All (λ n. n < length shapes) ns → (ps : List Pair)
      → ps ≡ pairs_of shapes ns g → All (IsKnownPair shapes g) ps
  pairs_known ns within ps are = all_known_at triples_held g known shapes plan ns within ps are
