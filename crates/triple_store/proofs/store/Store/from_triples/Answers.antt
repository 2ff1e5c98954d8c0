use Rattle.std.proofs.Common.{refl, arith}
use Rattle.shx_term.proofs.MemberLemmas.{each_of_All, All_of_each}
use Rattle.shx_term.proofs.SetLemmas.{SameMembers-sym}
use Rattle.graph_view.specs.Graph.{Graph, IsKnownTriple}
use Rattle.graph_view.proofs.SameGraphLemmas.{SameGraph-graph_of}
use Rattle.triple_store.proofs.IndexesLemmas.{length-collected}
use Rattle.triple_store.proofs.store.Store.from_triples.Goals as goal

pub invariant_of-result : goal.invariant_of-result
invariant_of-result c =
    let known = IsKnownTriple c.args.pool.terms in
    let triples = c.args.triples.items in
    let held = c.in_ok-indexes.indexes in
    let same = c.in_ok-indexes.ensures in
    let few = length-collected triples held same c.len.ensures.distinct in (
      All_of_each known held (λ t there.
          each_of_All known triples c.requires.known t ((same.each t).1 there)),
      omega (arith, few, c.requires.few),
      c.ranges.limit.fits,
    )

pub returns-clause-holds : goal.returns-clause-holds
returns-clause-holds c =
    let terms = c.args.pool.terms in
    let g : Graph = record { terms = terms; triples = c.in_ok-indexes.indexes } in
    SameGraph-graph_of terms c.args.triples.items g refl (SameMembers-sym c.in_ok-indexes.ensures)
    c.len.ensures.distinct
