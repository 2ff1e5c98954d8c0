use Rattle.std.specs.Prelude.{map}
use Rattle.std.proofs.lemmas.Result.{IfOk-weaker}
use Rattle.shx_term.specs.Members.{SameMembers}
use Rattle.shx_term.proofs.SetLemmas.{SameMembers-map, SameMembers-filter, SameMembers-then}
use Rattle.graph_view.specs.declared.key.Key.{Key}
use Rattle.graph_view.specs.Key.{look, is_touching}
use Rattle.triple_store.proofs.changes.Changes.objects.Goals as goal

pub returns : goal.returns
returns c =
    let triples = c.self.inside.triples.now in
    let indexes = c.self.inside.indexes in
    let key : Key = Key.Out c.args.s c.args.p in
    let part = SameMembers-filter (λ t. is_touching t key) triples indexes c.self.invariant.0 in
    rw (← c.self.view_is)
    (IfOk-weaker c.objects.result (λ found. SameMembers (map (λ t. t.o) (look indexes key)) found.items)
    (λ found. SameMembers (map (λ t. t.o) (look triples key)) found.items)
    (λ found there. SameMembers-then
    (SameMembers-map (λ t. t.o) (look triples key) (look indexes key) part) there) c.objects.ensures)
