use Rattle.std.specs.Prelude.{◌<◌, All, length, map}
use Rattle.std.proofs.Common.{ap, sym, ◌∙◌, subst}
use Rattle.std.proofs.lemmas.List.Elements.{All-map, All-weaker}
use Rattle.std.proofs.lemmas.Result.{IfOk-weaker}
use Rattle.shx_term.specs.declared.triple.Triple.{Triple}
use Rattle.shx_term.proofs.SetLemmas.{SameMembers-is, SameMembers-map, SameMembers-then}
use Rattle.graph_view.specs.Graph.{IsKnownTriple, triples_with}
use Rattle.shape_eval.proofs.targets.nodes_of_target.Goals as goal

pub returns-in_ok-triples-in-SubjectsOf-clause-nodes : goal.returns-in_ok-triples-in-SubjectsOf-clause-nodes
returns-in_ok-triples-in-SubjectsOf-clause-nodes g c =
    let graph = g.V.GraphView.graph c.args.view.now in
    let triples = c.in_ok-triples-in-SubjectsOf.triples.items in
    let held = triples_with graph c.in-SubjectsOf.p in
    rw c.in-SubjectsOf.is
    (IfOk-weaker c.subjects_in.result _ _
    (λ found is. SameMembers-then (SameMembers-is found.items (map (λ t. t.s) triples)
    (is ∙ ap (map (λ (t : Triple). t.s)) c.deref.ensures.value))
    (SameMembers-map (λ (t : Triple). t.s) triples held c.in_ok-triples-in-SubjectsOf.ensures.triples))
    c.subjects_in.ensures)

pub returns-in_ok-triples-in-ObjectsOf-clause-nodes : goal.returns-in_ok-triples-in-ObjectsOf-clause-nodes
returns-in_ok-triples-in-ObjectsOf-clause-nodes g c =
    let graph = g.V.GraphView.graph c.args.view.now in
    let triples = c.in_ok-triples-in-ObjectsOf.triples.items in
    let held = triples_with graph c.in-ObjectsOf.p in
    rw c.in-ObjectsOf.is
    (IfOk-weaker c.objects_in.result _ _
    (λ found is. SameMembers-then (SameMembers-is found.items (map (λ t. t.o) triples)
    (is ∙ ap (map (λ (t : Triple). t.o)) c.deref-in-ObjectsOf.ensures.value))
    (SameMembers-map (λ (t : Triple). t.o) triples held c.in_ok-triples-in-ObjectsOf.ensures.triples))
    c.objects_in.ensures)

pub returns-in_ok-triples-in-SubjectsOf-clause-known : goal.returns-in_ok-triples-in-SubjectsOf-clause-known
returns-in_ok-triples-in-SubjectsOf-clause-known g c =
    let terms = (g.V.GraphView.graph c.args.view.now).terms in
    let triples = c.in_ok-triples-in-SubjectsOf.triples.items in
    IfOk-weaker c.subjects_in.result _ _
    (λ found is. subst (All (λ id. id < length terms))
    (sym (is ∙ ap (map (λ (t : Triple). t.s)) c.deref.ensures.value))
    (All-map (λ id. id < length terms) (λ (t : Triple). t.s) triples
    (All-weaker (IsKnownTriple terms) (λ t. t.s < length terms) (λ t k. k.s) triples
    c.in_ok-triples-in-SubjectsOf.ensures.known)))
    c.subjects_in.ensures

pub returns-in_ok-triples-in-ObjectsOf-clause-known : goal.returns-in_ok-triples-in-ObjectsOf-clause-known
returns-in_ok-triples-in-ObjectsOf-clause-known g c =
    let terms = (g.V.GraphView.graph c.args.view.now).terms in
    let triples = c.in_ok-triples-in-ObjectsOf.triples.items in
    IfOk-weaker c.objects_in.result _ _
    (λ found is. subst (All (λ id. id < length terms))
    (sym (is ∙ ap (map (λ (t : Triple). t.o)) c.deref-in-ObjectsOf.ensures.value))
    (All-map (λ id. id < length terms) (λ (t : Triple). t.o) triples
    (All-weaker (IsKnownTriple terms) (λ t. t.o < length terms) (λ t k. k.o) triples
    c.in_ok-triples-in-ObjectsOf.ensures.known)))
    c.objects_in.ensures
