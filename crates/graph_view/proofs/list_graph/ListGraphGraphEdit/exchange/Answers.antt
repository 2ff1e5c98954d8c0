use Rattle.std.proofs.Common.{sym, subst, ◌≤◌, length, arith}
use Rattle.graph_view.specs.Graph.{Graph, IsKnownTriple}
use Rattle.graph_view.specs.ListGraph.{plain_graph}
use Rattle.graph_view.specs.Patched.{patched, IsPatch}
use Rattle.graph_view.proofs.ExchangeLemmas.{SameMembers-exchanged, All-exchanged, count-exchanged}
use Rattle.graph_view.proofs.list_graph.ListGraphGraphEdit.exchange.Goals as goal

pub returns-in-Ok-clause-exchanged : goal.returns-in-Ok-clause-exchanged
returns-in-Ok-clause-exchanged c =
    let g : Graph = record { terms = c.self.inside.pool.terms; triples = c.self.inside.triples.keys } in
    let added = c.args.added.now in
    let removed = c.args.removed.now in
    let patch = subst (λ v. IsPatch (plain_graph v) added removed) (sym c.self.view_is) c.requires.patch in
    rw (← c.self.view_is)
    (SameMembers-exchanged g added removed patch c.insert_all.new.triples.keys c.remove_all.new.triples.keys
    c.in-Ok.ensures.added c.remove_all.ensures.left)

pub returns-in-Ok-clause-count : goal.returns-in-Ok-clause-count
returns-in-Ok-clause-count c =
    let g : Graph = record { terms = c.self.inside.pool.terms; triples = c.self.inside.triples.keys } in
    let added = c.args.added.now in
    let removed = c.args.removed.now in
    let patch = subst (λ v. IsPatch (plain_graph v) added removed) (sym c.self.view_is) c.requires.patch in
    let new = c.remove_all.new.triples.keys in
    let same =
    SameMembers-exchanged g added removed patch c.insert_all.new.triples.keys new c.in-Ok.ensures.added
    c.remove_all.ensures.left in
    rw (← c.self.view_is)
    (count-exchanged g added removed patch c.len-held.ensures.unique new same c.remove_all.ensures.distinct)

pub invariant_of-self : goal.invariant_of-self
invariant_of-self c =
    let g : Graph = record { terms = c.self.inside.pool.terms; triples = c.self.inside.triples.keys } in
    let added = c.args.added.now in
    let removed = c.args.removed.now in
    let patch = subst (λ v. IsPatch (plain_graph v) added removed) (sym c.self.view_is) c.requires.patch in
    let new = c.remove_all.new.triples.keys in
    let same =
    SameMembers-exchanged g added removed patch c.insert_all.new.triples.keys new c.in-Ok.ensures.added
    c.remove_all.ensures.left in
    let count =
    count-exchanged g added removed patch c.len-held.ensures.unique new same c.remove_all.ensures.distinct in
    let room = subst
    (λ v. length (patched (plain_graph v) added removed).triples ≤ v.limit) (sym c.self.view_is)
    (c.has_room_for.ensures.0 c.if-not-has_room_for.false) in
    let known = IsKnownTriple g.terms in (
      All-exchanged g added removed patch known c.self.invariant.0 patch.added_known new same,
      omega (arith, count, room),
      c.self.invariant.2,
    )
