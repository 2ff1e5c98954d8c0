use Rattle.std.specs.Prelude.{◌+◌, length, IsSome}
use Rattle.std.proofs.Common.{ap, ◌∙◌, subst, arith}
use Rattle.std.proofs.lemmas.List.{map-set}
use Rattle.pair_results.specs.PairResults.{place_of}
use Rattle.pair_results.proofs.NodeLemmas.{IsInOrder}
use Rattle.pair_results.proofs.OrderLemmas.{nodes_sorted}
use Rattle.pair_results.proofs.ShapeLemmas.{first_placed, first_within, gone_counted, nodes_indexed}
use Rattle.pair_results.proofs.ShapeLemmas.{within_trees}
use Rattle.pair_results.proofs.ShapeLemmas.{IsCounted-made, Makes-put, SameChanges-made}
use Rattle.pair_results.proofs.StagedLemmas.{TakesFirst-popped}
use Rattle.pair_results.proofs.pair_results.PairResults.commit_first.Goals as goal

pub index_mut-nodes-requires : goal.index_mut-nodes-requires
index_mut-nodes-requires c =
    let takes = TakesFirst-popped _ _ _ _ c.in-Some.ensures.removal c.in-Some.ensures.updates.1 in
    let inside = within_trees _ _ (first_within _ _ _ _ _ takes c.self.invariant.places) in
    omega arith

pub put-gone-requires : goal.put-gone-requires
put-gone-requires c =
    let takes = TakesFirst-popped _ _ _ _ c.in-Some.ensures.removal c.in-Some.ensures.updates.1 in
    let inside = within_trees _ _ (first_within _ _ _ _ _ takes c.self.invariant.places) in
    let same = nodes_indexed _ _ _ inside c.index_mut-nodes.ensures.value in
    subst (λ nodes. IsSome (place_of nodes c.in-Some.place.node)) same
    (first_placed _ _ _ _ _ takes c.self.invariant.places)

pub overflow_sub-self : goal.overflow_sub-self
overflow_sub-self c =
    let takes = TakesFirst-popped _ _ _ _ c.in-Some.ensures.removal c.in-Some.ensures.updates.1 in
    let inside = within_trees _ _ (first_within _ _ _ _ _ takes c.self.invariant.places) in
    let same = nodes_indexed _ _ _ inside c.index_mut-nodes.ensures.value in
    gone_counted _ _ _ _ _ takes c.self.invariant.places _ same _ _ _ c.self.invariant c.put-gone.ensures.gone

pub invariant_of-self-2 : goal.invariant_of-self-2
invariant_of-self-2 c =
    let takes = TakesFirst-popped _ _ _ _ c.in-Some.ensures.removal c.in-Some.ensures.updates.1 in
    let inside = within_trees _ _ (first_within _ _ _ _ _ takes c.self.invariant.places) in
    let same = nodes_indexed _ _ _ inside c.index_mut-nodes.ensures.value in
    let makes = Makes-put _ _ _ _ _ c.put-gone.ensures.put.0 c.vacate.ensures.rows c.vacate.ensures.others
    c.vacate.ensures.filled in
    rw map-set
    (IsCounted-made _ _ _ _ _ takes c.self.invariant.places _ _ same makes _ _ _ _ c.self.invariant
    (c.vacate.ensures.ordered (c.put-gone.ensures.ordered
    (subst IsInOrder same
    (nodes_sorted _ _ c.self.invariant.ordered)))) c.len-new.ensures
    (gone_counted _ _ _ _ _ takes c.self.invariant.places _ same _ _ _ c.self.invariant
    c.put-gone.ensures.gone)
    (ap (λ rows. length rows + c.put-gone.result) c.vacate.ensures.all ∙ c.put-gone.ensures.count))

pub returns-clause-changes : goal.returns-clause-changes
returns-clause-changes c =
    let takes = TakesFirst-popped _ _ _ _ c.in-Some.ensures.removal c.in-Some.ensures.updates.1 in
    let inside = within_trees _ _ (first_within _ _ _ _ _ takes c.self.invariant.places) in
    let same = nodes_indexed _ _ _ inside c.index_mut-nodes.ensures.value in
    let makes = Makes-put _ _ _ _ _ c.put-gone.ensures.put.0 c.vacate.ensures.rows c.vacate.ensures.others
    c.vacate.ensures.filled in
    rw (← c.self.view_is, map-set)
    (SameChanges-made _ _ _ _ _ takes c.self.invariant.places _ _ same makes)
