use Rattle.std.proofs.lemmas.Result.{IfOk-weaker}
use Rattle.shx_term.specs.Members.{SameMembers}
use Rattle.shx_term.proofs.SetLemmas.{SameMembers-filter, SameMembers-then}
use Rattle.graph_view.specs.declared.key.Key.{Key}
use Rattle.graph_view.specs.Key.{look, is_touching}
use Rattle.triple_store.proofs.changes.Changes.triples_with.Goals as goal

pub returns : goal.returns
returns c =
    let triples = c.self.inside.triples.now in
    let indexes = c.self.inside.indexes in
    let key : Key = Key.Predicate c.args.p in
    let part = SameMembers-filter (λ t. is_touching t key) triples indexes c.self.invariant.0 in
    rw (← c.self.view_is)
    (IfOk-weaker c.triples_with.result (λ found. SameMembers (look indexes key) found.items)
    (λ found. SameMembers (look triples key) found.items)
    (λ found there. SameMembers-then (part) there) c.triples_with.ensures)
