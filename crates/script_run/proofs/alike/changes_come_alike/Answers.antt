use Rattle.std.proofs.Common.{List, Some, ◌≡◌, ap, arith, length, subst, true, false}
use Rattle.std.specs.List.{IsDistinct}
use Rattle.shx_term.specs.declared.term.Term.{Term}
use Rattle.shx_term.specs.TermOrder.{same_term}
use Rattle.graph_view.specs.Graph.{Graph}
use Rattle.graph_view.specs.SameGraph.{SameGraph}
use Rattle.edit_engine.specs.Course.{IsCourse, IsReady, IsWhole}
use Rattle.edit_engine.specs.Nets.{graph_after, turned}
use Rattle.edit_engine.specs.Remembered.{answer_of}
use Rattle.script_run.specs.inner.Changing.{made_behind, next_change}
use Rattle.script_run.proofs.ChangingLemmas.{has_term}
use Rattle.script_run.proofs.alike.changes_come_alike.Goals as goal

pub returns-clause-alike : goal.returns-clause-alike
returns-clause-alike c = λ g net same fits.
    let engine = c.args.engine.now in
    let graph = engine.graph in
    let old = answer_of engine.remembered in
    let law = c.same_graphs_are_changed_alike.ensures in
    let view = c.view-view.ensures in
    record {
      outcomes = λ triples terms. law.outcome triples terms g graph net same;
      graphs = law.graph g graph net same view.distinct;
      touched = law.touched engine.plan g graph net same view.asked view.distinct fits;
      fresh = λ new before after.
          law.fresh engine.plan g graph net same view.asked view.distinct fits old new before after
          (has_term engine.plan.shapes graph old c.recall.ensures.right);
    }

pub returns-clause-course : goal.returns-clause-course
returns-clause-course c = λ past course.
    let engine = c.args.engine.now in
    let graph = engine.graph in
    let most = engine.triple_limit in
    let law = c.changes_can_be_taken_back.ensures in
    let view = c.view-view.ensures in
    let whole : IsWhole most graph =
    record {
      valid = view.asked.valid;
      terms = subst (λ (g : Graph). IsDistinct same_term g.terms) view.graph
          (subst (λ (ts : List Term). IsDistinct same_term ts) c.pool.ensures.terms c.len.ensures.distinct);
      triples = view.distinct;
      few = omega (
        arith,
        c.limit.ensures.within,
        ap (λ (g : Graph). length g.triples) view.graph,
        view.triple_limit,
      );
    } in
    record {
      made = λ net h fits changes same. law.made most graph h past net whole course fits changes same;
      ready = λ back net. elim back as (λ b. next_change b past ≡ Some net
          → IsReady most graph (turned b net)) [
            | true ↦ law.back most graph past net course
            | false ↦ law.forth most graph past net course
          ];
      moved = λ back net h. elim back as (λ b. next_change b past ≡ Some net
          → SameGraph (graph_after graph (turned b net)) h
          → IsCourse most h past.changes (made_behind b past.cursor)) [
            | true ↦ law.undone most graph h past net whole course
            | false ↦ law.redone most graph h past net whole course
          ];
    }
