use Rattle.std.proofs.Common.{sym}
use Rattle.shx_term.proofs.SetLemmas.{SameMembers-is}
use Rattle.graph_view.specs.Graph.{Graph, IsKnownTriple, triples_with}
use Rattle.graph_view.specs.Key.{look}
use Rattle.graph_view.specs.declared.key.Key.TheVariants.{Predicate}
use Rattle.graph_view.proofs.LookUpLemmas.{All-any_order, All-ordered, triples_in_any_order}
use Rattle.graph_view.proofs.lent.LentGraphView.triples_with_unsorted.Goals as goal

pub returns-clause-triples : goal.returns-clause-triples
returns-clause-triples g c =
    let view = c.args.self.now in
    let wanted = look view.triples.now (Predicate c.args.p) in
    triples_in_any_order view.pool.now.terms wanted c.in_ok-found.found.items
    (SameMembers-is wanted c.in_ok-found.found.items (sym c.in_ok-found.ensures))

pub returns-clause-known : goal.returns-clause-known
returns-clause-known g c =
    let view = c.args.self.now in
    let graph : Graph = record { terms = view.pool.now.terms; triples = view.triples.now } in
    All-any_order (IsKnownTriple graph.terms) c.in_ok-found.found.items (triples_with graph c.args.p)
    (returns-clause-triples g c) (All-ordered graph view.known (Predicate c.args.p))
