use Rattle.std.proofs.Common.{◌∙◌, subst, arith}
use Rattle.std.proofs.lemmas.List.{length-set, map-set}
use Rattle.pair_results.proofs.NodeLemmas.{IsInOrder}
use Rattle.pair_results.proofs.OrderLemmas.{nodes_sorted}
use Rattle.pair_results.proofs.ShapeLemmas.{first_within, nodes_indexed, within_trees}
use Rattle.pair_results.proofs.ShapeLemmas.{IsCounted-taken, SameRows-taken, SameRows-then}
use Rattle.pair_results.proofs.StagedLemmas.{TakesFirst-popped}
use Rattle.pair_results.proofs.pair_results.PairResults.drop_staged.Goals as goal

pub index_mut-requires : goal.index_mut-requires
index_mut-requires c =
    let takes = TakesFirst-popped _ _ _ _ c.in-Some.ensures.removal c.in-Some.ensures.updates.1 in
    let inside = within_trees _ _ (first_within _ _ _ _ _ takes c.loop-place.invariant.counted.places) in
    omega arith

pub loop-place-preserved : goal.loop-place-preserved
loop-place-preserved c =
    let takes = TakesFirst-popped _ _ _ _ c.in-Some.ensures.removal c.in-Some.ensures.updates.1 in
    let places = c.loop-place.invariant.counted.places in
    let inside = within_trees _ _ (first_within _ _ _ _ _ takes places) in
    let same = nodes_indexed _ _ _ inside c.index_mut.ensures.value in
    record {
      shapes = length-set _ _ _ ∙ c.loop-place.invariant.shapes;
      rows =
          rw map-set
          (SameRows-then _ _ _ c.loop-place.invariant.rows
          (SameRows-taken _ _ _ _ _ takes places _ _ same c.vacate.ensures.rows));
      counted =
          rw map-set
          (IsCounted-taken _ _ _ _ _ takes places _ _ same _ _ c.loop-place.invariant.counted
          (c.vacate.ensures.ordered (subst IsInOrder same
          (nodes_sorted _ _ c.loop-place.invariant.counted.ordered)))
          c.vacate.ensures.others c.vacate.ensures.filled c.vacate.ensures.all);
    }
