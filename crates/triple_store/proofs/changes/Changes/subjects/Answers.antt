use Rattle.std.specs.Prelude.{map}
use Rattle.std.proofs.lemmas.Result.{IfOk-weaker}
use Rattle.shx_term.specs.Members.{SameMembers}
use Rattle.shx_term.proofs.SetLemmas.{SameMembers-map, SameMembers-filter, SameMembers-then}
use Rattle.graph_view.specs.declared.key.Key.{Key}
use Rattle.graph_view.specs.Key.{look, is_touching}
use Rattle.triple_store.proofs.changes.Changes.subjects.Goals as goal

pub returns : goal.returns
returns c =
    let triples = c.self.inside.triples.now in
    let indexes = c.self.inside.indexes in
    let key : Key = Key.In c.args.p c.args.o in
    let part = SameMembers-filter (λ t. is_touching t key) triples indexes c.self.invariant.0 in
    rw (← c.self.view_is)
    (IfOk-weaker c.subjects.result (λ found. SameMembers (map (λ t. t.s) (look indexes key)) found.items)
    (λ found. SameMembers (map (λ t. t.s) (look triples key)) found.items)
    (λ found there. SameMembers-then
    (SameMembers-map (λ t. t.s) (look triples key) (look indexes key) part) there) c.subjects.ensures)
