-- As many triples are found with a predicate as are held, each once.
use Rattle.std.specs.Prelude.{◌≡◌, ℕ, length}
use Rattle.std.specs.List.{IsDistinct}
use Rattle.shx_term.specs.Triple.{same_triple}
use Rattle.shx_term.specs.inner.TripleLaws.{same_triple_exact}
use Rattle.shx_term.specs.TripleOrder.{triple_cmp}
use Rattle.shx_term.proofs.TripleOrderLemmas.{in_triple_order_lists, triple_cmp_total}
use Rattle.graph_view.specs.declared.key.Key.TheVariants.{Predicate}
use Rattle.graph_view.specs.Graph.{Graph, triples_with}
use Rattle.graph_view.specs.Key.{is_touching, look}
use Rattle.graph_view.proofs.SameGraphLemmas.{IsDistinct-filter, length-same}
use Rattle.shape_decl.proofs.DistinctLemmas.{distinct_in_order}

pub length-triples_with : (g : Graph) (p : ℕ) → IsDistinct same_triple g.triples
    → length (triples_with g p) ≡ length (look g.triples (Predicate p))
length-triples_with g p distinct =
    let there = look g.triples (Predicate p) in
    let lists = in_triple_order_lists g.terms there in
    length-same (triples_with g p) there (record { each = lists.each })
    (distinct_in_order (triple_cmp g.terms) (triple_cmp_total g.terms) same_triple
    (λ t u h. same_triple_exact t u h) (triples_with g p) lists.sorted)
    (IsDistinct-filter (λ t. is_touching t (Predicate p)) same_triple g.triples distinct)
