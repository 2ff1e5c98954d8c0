use Rattle.std.proofs.Common.{◌∙◌, sym, ap, subst, arith}
use Rattle.shx_term.proofs.MemberLemmas.{each_of_All, All_of_each}
use Rattle.graph_view.specs.Graph.{IsKnownTriple}
use Rattle.shx_term.specs.Members.{SameMembers}
use Rattle.graph_view.proofs.SameGraphLemmas.{length-same}
use Rattle.triple_store.proofs.store.Store.from_list.Goals as goal

pub prove-unreachable-requires : goal.prove-unreachable-requires
prove-unreachable-requires c =
    let triples = c.args.graph.triples in
    let indexes = c.in_ok-indexes.indexes in
    let same = subst (λ ts. SameMembers ts indexes) (c.in_ok-triples.ensures.items ∙ c.triples.ensures)
    c.in_ok-indexes.ensures in
    let count = length-same triples indexes same c.len-2.ensures.distinct c.len.ensures.distinct in
    c.if-prove.true (c.len.ensures.count ∙ sym count ∙ sym c.len-2.ensures.count)

pub invariant_of-result : goal.invariant_of-result
invariant_of-result c =
    let graph = c.args.graph in
    let indexes = c.in_ok-indexes.indexes in
    let same = subst (λ ts. SameMembers ts indexes) (c.in_ok-triples.ensures.items ∙ c.triples.ensures)
    c.in_ok-indexes.ensures in (
      All_of_each (IsKnownTriple c.into_pool-pool.result.terms) indexes (λ u k.
          subst (λ pool. IsKnownTriple pool.terms u) (sym c.into_pool-pool.ensures)
          (each_of_All (IsKnownTriple graph.pool.terms) graph.triples c.pool.ensures.known u
          ((same.each u).1 k))),
      omega (
        arith,
        c.if-prove.false,
        c.len.ensures.count,
        c.len-2.ensures.count,
        c.limit-limit.ensures.value,
        c.limit-limit.ensures.within,
      ),
      c.limit-limit.type_inv,
    )

pub returns-clause-same : goal.returns-clause-same
returns-clause-same c =
    let indexes = c.in_ok-indexes.indexes in
    record {
      terms = ap (λ pool. pool.terms) (sym c.into_pool-pool.ensures);
      triples = subst (λ ts. SameMembers ts indexes) (c.in_ok-triples.ensures.items ∙ c.triples.ensures)
          c.in_ok-indexes.ensures;
      count = sym c.len-2.ensures.count ∙ sym c.if-prove.false ∙ c.len.ensures.count;
    }
