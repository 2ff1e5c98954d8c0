use Rattle.std.proofs.Common.{◌≤◌, length, arith}
use Rattle.shx_term.proofs.MemberLemmas.{each_of_All, All_of_each}
use Rattle.graph_view.specs.Graph.{IsKnownTriple}
use Rattle.triple_store.proofs.store.StoreGraphEdit.remove.Goals as goal

pub invariant_of-self : goal.invariant_of-self
invariant_of-self c =
    let known = IsKnownTriple c.self.inside.pool.terms in
    let held = c.self.inside.indexes in
    let left = c.remove.new.self in
    let without = c.remove.ensures.removed in
    let fewer : length left ≤ length held = omega (arith, c.remove.ensures.count) in (
      All_of_each known left (λ u k. each_of_All known held c.self.invariant.0 u ((without.each u).0 k).0),
      omega (arith, fewer, c.self.invariant.1),
      c.self.invariant.2,
    )
