use Rattle.std.proofs.Common.{◌≤◌, length, arith}
use Rattle.shx_term.proofs.MemberLemmas.{each_of_All, All_of_each}
use Rattle.graph_view.specs.Graph.{IsKnownTriple}
use Rattle.graph_view.proofs.TripleSetLemmas.{triple_held, IsWithout-remove}
use Rattle.graph_view.proofs.list_graph.ListGraphGraphEdit.remove.Goals as goal

pub invariant_of-self : goal.invariant_of-self
invariant_of-self c =
    let known = IsKnownTriple c.self.inside.pool.terms in
    let held = c.self.inside.triples.keys in
    let left = c.swap_remove.new.self.keys in
    let removed = IsWithout-remove held left c.args.t.now c.swap_remove.ensures.updates.0 in
    let fewer : length left ≤ length held = omega (arith, c.swap_remove.ensures.len) in (
      All_of_each known left (λ u k. each_of_All known held c.self.invariant.0 u ((removed.each u).0 k).0),
      omega (arith, fewer, c.self.invariant.1),
      c.self.invariant.2,
    )

pub returns-clause-removed : goal.returns-clause-removed
returns-clause-removed c =
    let keys = c.self.inside.triples.keys in
    let left = c.swap_remove.new.self.keys in
    rw (← c.self.view_is) (IsWithout-remove keys left c.args.t.now c.swap_remove.ensures.updates.0)

pub returns-clause-held : goal.returns-clause-held
returns-clause-held c =
    let keys = c.self.inside.triples.keys in
    rw (← c.self.view_is) (triple_held keys c.args.t.now c.swap_remove.result c.swap_remove.ensures.found)
