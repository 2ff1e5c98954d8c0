use Rattle.std.specs.Prelude.{◌<◌, length, map}
use Rattle.std.proofs.Common.{sym}
use Rattle.shx_term.proofs.SetLemmas.{SameMembers-is}
use Rattle.graph_view.specs.Graph.{Graph, subjects_of}
use Rattle.graph_view.specs.Key.{look}
use Rattle.graph_view.specs.declared.key.Key.TheVariants.{In}
use Rattle.graph_view.proofs.LookUpLemmas.{All-any_order, HasTerms-subjects_of, in_any_order}
use Rattle.graph_view.proofs.lent.LentGraphView.subjects_unsorted.Goals as goal

pub returns-clause-subjects : goal.returns-clause-subjects
returns-clause-subjects g c =
    let view = c.args.self.now in
    let wanted = map (λ t. t.s) (look view.triples.now (In c.args.p c.args.o)) in
    in_any_order view.pool.now.terms wanted c.in_ok-found.found.items
    (SameMembers-is wanted c.in_ok-found.found.items (sym c.in_ok-found.ensures))

pub returns-clause-known : goal.returns-clause-known
returns-clause-known g c =
    let view = c.args.self.now in
    let graph : Graph = record { terms = view.pool.now.terms; triples = view.triples.now } in
    All-any_order (λ id. id < length graph.terms) c.in_ok-found.found.items
    (subjects_of graph c.args.p c.args.o)
    (returns-clause-subjects g c) (HasTerms-subjects_of graph view.known c.args.p c.args.o)
