use Rattle.std.proofs.Common.{◌≡◌, sym, ap, ◌∙◌, subst}
use Rattle.graph_view.specs.ListGraph.{plain_graph}
use Rattle.graph_view.specs.SameGraph.{SameGraph}
use Rattle.graph_view.proofs.SameGraphLemmas.{first_places-distinct}
use Rattle.shx_term.specs.Pool.{Pooled}
use Rattle.shape_compile.specs.Patterns.{AreAdmitted}
use Rattle.shape_eval.specs.Planned.{plan_of}
use Rattle.shape_text.specs.TextReadings.{stated_graph}
use Rattle.shape_text.specs.Turtle.{HasNoWide}
use Rattle.shape_text.proofs.JudgeLemmas.{shapes_unplanned}
use Rattle.shape_text.proofs.ReadingLemmas.{graph}
use Rattle.shape_text.proofs.SameDeclarationLemmas.{sparql_same}
use Rattle.shape_text.proofs.DocumentLemmas.{narrow_vocabulary}
use Rattle.shape_text.proofs.VerdictLemmas.{PlansAs-same, SameGraph-sym, declared_moved}
use Rattle.shape_text.proofs.judging.judge.Goals as goal

pub plan_shapes-requires-clause-admitted : goal.plan_shapes-requires-clause-admitted
plan_shapes-requires-clause-admitted g c =
    let document = graph c.read_turtle.new.pool.terms c.in-Ok.document.triples.items in
    let stored = plain_graph c.in_ok-graph.graph in
    let (end, read, names) = c.in-Ok.ensures.states in
    let same : SameGraph (stated_graph document) stored =
    rw c.replace-triples.ensures.value at c.in_ok-graph.ensures.holds in
    declared_moved c.args.limits.now stored (stated_graph document)
    (SameGraph-sym (stated_graph document) stored same)
    (AreAdmitted (g.P.PatternHost.admits c.args.patterns.now))
    (c.requires.admitted document end (rw c.requires.fresh at read))

pub returns-in-Ok-plan_shapes-clause-accepts : goal.returns-in-Ok-plan_shapes-clause-accepts
returns-in-Ok-plan_shapes-clause-accepts g c =
    let triples = c.in-Ok.document.triples.items in
    let document = graph c.read_turtle.new.pool.terms triples in
    let stored = plain_graph c.in_ok-graph.graph in
    let (end, read, names) = c.in-Ok.ensures.states in
    let same : SameGraph (stated_graph document) stored =
    rw c.replace-triples.ensures.value at c.in_ok-graph.ensures.holds in
    record {
      document = document;
      end = end;
      read = rw c.requires.fresh at read;
      plan = PlansAs-same c.args.limits.now (stated_graph document) stored same
          (g.P.PatternHost.state c.args.patterns.now)
          (g.P.PatternHost.state c.plan_shapes.new.patterns)
          (plan_of c.in-Ok-plan_shapes.plan) c.in-Ok-plan_shapes.ensures.plan;
      terms = ap (λ (pool : Pooled). pool.terms) (sym (c.into_pool.ensures ∙ c.in_ok-graph.ensures.pool));
      passed = c.in_ok-passed_over.ensures
          ∙ sym (sparql_same (stated_graph document) stored same (first_places-distinct triples)
          c.len.ensures.distinct);
    }

pub returns-in-Ok-plan_shapes-clause-no_wide : goal.returns-in-Ok-plan_shapes-clause-no_wide
returns-in-Ok-plan_shapes-clause-no_wide g c =
    let valid = c.in-Ok.ensures.valid (subst HasNoWide (sym c.requires.fresh) narrow_vocabulary) in
    subst (λ (pool : Pooled). HasNoWide pool.terms)
    (sym (c.into_pool.ensures ∙ c.in_ok-graph.ensures.pool)) valid.terms

pub returns-clause-refused : goal.returns-clause-refused
returns-clause-refused g c =
    let document = graph c.read_turtle.new.pool.terms c.in-Ok.document.triples.items in
    let stored = plain_graph c.in_ok-graph.graph in
    let pool = c.into_pool-in-Err-plan_shapes.result in
    let (end, read, names) = c.in-Ok.ensures.states in
    let same : SameGraph (stated_graph document) stored =
    rw c.replace-triples.ensures.value at c.in_ok-graph.ensures.holds in
    let terms : pool.terms ≡ document.terms = ap (λ (pool : Pooled). pool.terms)
    (c.into_pool-in-Err-plan_shapes.ensures ∙ c.in_ok-graph.ensures.pool) in
    rw c.of-in-Err-plan_shapes.ensures
    (shapes_unplanned c.args.limits.now c.args.base.now c.args.text.items pool
    (g.P.PatternHost.state c.args.patterns.now)
    (g.P.PatternHost.state c.plan_shapes.new.patterns) c.in-Err-plan_shapes.refusal document stored end
    (rw c.requires.fresh at read) terms same c.in-Err-plan_shapes.ensures.refused)
