use Rattle.graph_view.proofs.TripleSetLemmas.{triple_held, HasAlso-held, HasAlso-insert}
use Rattle.graph_view.proofs.list_graph.ListGraphGraphEdit.insert.Goals as goal

pub returns-then-contains-clause-added : goal.returns-then-contains-clause-added
returns-then-contains-clause-added c =
    let keys = c.self.inside.triples.keys in
    let held = (triple_held keys c.args.t c.contains.result c.contains.ensures).0 c.if-contains.true in
    rw (← c.self.view_is) (HasAlso-held keys c.args.t held)

pub returns-then-contains-clause-new : goal.returns-then-contains-clause-new
returns-then-contains-clause-new c =
    let keys = c.self.inside.triples.keys in
    let held = (triple_held keys c.args.t c.contains.result c.contains.ensures).0 c.if-contains.true in
    rw (← c.self.view_is) (λ h. cc, λ absent. absurd (absent held))

pub returns-then-contains-clause-room : goal.returns-then-contains-clause-room
returns-then-contains-clause-room c =
    let keys = c.self.inside.triples.keys in
    let held = (triple_held keys c.args.t c.contains.result c.contains.ensures).0 c.if-contains.true in
    rw (← c.self.view_is) (λ full. absurd (full.absent held))

pub returns-clause-added : goal.returns-clause-added
returns-clause-added c =
    rw (c.in_ok-insert.ensures.keys, ← c.self.view_is) (HasAlso-insert c.self.inside.triples.keys c.args.t)
