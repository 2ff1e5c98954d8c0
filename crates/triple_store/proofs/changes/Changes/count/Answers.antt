use Rattle.std.specs.Prelude.{◌≡◌, length}
use Rattle.std.proofs.Common.{arith}
use Rattle.std.proofs.lemmas.List.Sums.{length-filter, count_by-le-length}
use Rattle.shx_term.specs.declared.triple.Triple.{Triple}
use Rattle.shx_term.specs.Triple.{same_triple}
use Rattle.shx_term.proofs.SetLemmas.{SameMembers-filter}
use Rattle.graph_view.specs.Key.{look, is_touching}
use Rattle.graph_view.proofs.SameGraphLemmas.{IsDistinct-filter, length-same}
use Rattle.triple_store.proofs.changes.Changes.count.Goals as goal

pub returns : goal.returns
returns c =
    let triples = c.self.inside.triples.now in
    let indexed = c.self.inside.indexes in
    let key = c.args.key.now in
    let touching = λ (t : Triple). is_touching t key in
    let same : length (look triples key) ≡ length (look indexed key) =
    length-same (look triples key) (look indexed key)
    (SameMembers-filter touching triples indexed c.self.invariant.0)
    (IsDistinct-filter touching same_triple triples c.self.invariant.1)
    (IsDistinct-filter touching same_triple indexed c.len.ensures.distinct) in
    let few = count_by-le-length touching indexed in
    let counted = c.count_up_to.ensures in
    let whole : c.count_up_to.result ≡ length (look triples key) =
    omega (arith, same, few, length-filter touching indexed, counted, c.len.ensures.count) in
    rw (← c.self.view_is) whole
