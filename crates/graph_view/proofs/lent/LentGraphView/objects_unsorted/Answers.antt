use Rattle.std.specs.Prelude.{◌<◌, length, map}
use Rattle.std.proofs.Common.{sym}
use Rattle.shx_term.proofs.SetLemmas.{SameMembers-is}
use Rattle.graph_view.specs.Graph.{Graph, objects_of}
use Rattle.graph_view.specs.Key.{look}
use Rattle.graph_view.specs.declared.key.Key.TheVariants.{Out}
use Rattle.graph_view.proofs.LookUpLemmas.{All-any_order, HasTerms-objects_of, in_any_order}
use Rattle.graph_view.proofs.lent.LentGraphView.objects_unsorted.Goals as goal

pub returns-clause-objects : goal.returns-clause-objects
returns-clause-objects g c =
    let view = c.args.self.now in
    let wanted = map (λ t. t.o) (look view.triples.now (Out c.args.s c.args.p)) in
    in_any_order view.pool.now.terms wanted c.in_ok-found.found.items
    (SameMembers-is wanted c.in_ok-found.found.items (sym c.in_ok-found.ensures))

pub returns-clause-known : goal.returns-clause-known
returns-clause-known g c =
    let view = c.args.self.now in
    let graph : Graph = record { terms = view.pool.now.terms; triples = view.triples.now } in
    All-any_order (λ id. id < length graph.terms) c.in_ok-found.found.items
    (objects_of graph c.args.s c.args.p)
    (returns-clause-objects g c) (HasTerms-objects_of graph view.known c.args.s c.args.p)
