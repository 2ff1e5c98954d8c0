use Rattle.std.proofs.Common.{ap, refl, sym, ◌∙◌}
use Rattle.edit_history.specs.History.{Past}
use Rattle.graph_view.specs.ListGraph.{plain_graph}
use Rattle.shape_eval.specs.Planned.{plan_of}
use Rattle.script_run.specs.Work.{evaluating}
use Rattle.script_run.proofs.ValidationLemmas.{IsScriptRun-opened, no_past, work-validation}
use Rattle.script_run.proofs.script_run.ScriptRun.open.Goals as goal

pub returns-clause-opened : goal.returns-clause-opened
returns-clause-opened g c = λ limits format s same is.
    let validation = c.args.validation in
    let engine = c.in_ok-engine.ensures in
    let nested = c.same_graphs_answer_alike.ensures.nested (plan_of validation.plan) s.graph
    (plain_graph validation.graph) is.stores c.requires.stands in
    IsScriptRun-opened limits format s validation is _ engine.plan engine.graph engine.term_limit
    engine.triple_limit refl refl refl (c.new.ensures ∙ ap no_past (sym same)) refl refl refl
    nested engine.remembered

pub returns-clause-work : goal.returns-clause-work
returns-clause-work g c = λ limits format s is.
    let validation = c.args.validation in
    let law = c.same_graphs_answer_alike.ensures in
    let plan = plan_of validation.plan in
    let stored = plain_graph validation.graph in
    work-validation limits format s validation is (law.pairs plan s.graph stored is.stores c.requires.stands)
    (law.nested plan s.graph stored is.stores c.requires.stands) (evaluating c.args.steps.now
    c.args.nested.now)
    (evaluating c.open.new.steps c.open.new.nested) c.in_ok-engine.ensures.steps c.in_ok-engine.ensures.nested

pub returns-clause-goes_on : goal.returns-clause-goes_on
returns-clause-goes_on g c =
    let engine = c.in_ok-engine.engine in
    let none = c.changes_can_be_taken_back.ensures.none engine.triple_limit engine.graph in
    record {
      base = c.requires.absolute;
      group = tt;
      course = rw c.new.ensures none;
      staged = ap (λ (past : Past). past.staged) c.new.ensures;
    }
