-- What a validation stores is as good as the state before the script: the same pairs.
use Rattle.std.specs.Prelude.{◌≡◌, ℕ, ◌+◌, false, [], None, length}
use Rattle.std.specs.Option.{option_map}
use Rattle.std.specs.Set.{distinct_count}
use Rattle.std.proofs.Common.{sym, ap, ◌∙◌, subst}
use Rattle.shx_term.specs.declared.limits.Limits.{Limits}
use Rattle.graph_view.specs.Graph.{Graph}
use Rattle.graph_view.specs.ListGraph.{plain_graph}
use Rattle.graph_view.specs.SameGraph.{SameGraph}
use Rattle.ttl_meaning.specs.declared.document.Document.{Document}
use Rattle.comp_core.specs.Pairs.{same_pair}
use Rattle.shape_eval.specs.Nested.{nested_pairs}
use Rattle.shape_eval.specs.Plan.{Planned}
use Rattle.shape_eval.specs.Planned.{plan_of}
use Rattle.shape_eval.specs.Report.{pairs}
use Rattle.edit_history.specs.History.{Past}
use Rattle.edit_engine.specs.Remembered.{AreAllRecalled, answer_of, nested_count}
use Rattle.text_output.specs.declared.format.Format.{Format}
use Rattle.script_run.specs.declared.script_run.ScriptRun.{ScriptRun}
use Rattle.script_run.specs.declared.validation.Validation.{Validation}
use Rattle.script_run.specs.Stored.{IsScriptRun, IsValidation}
use Rattle.shape_text.specs.Names.{HasNamesOf}
use Rattle.script_run.specs.Script.{first_work}
use Rattle.script_run.specs.ScriptState.{ScriptState}
use Rattle.script_run.specs.Work.{Work, and_then}
use Rattle.script_run.proofs.WorkLemmas.{same_work}

-- the history before the first change
abbrev pub no_past : ℕ → Past
no_past depth = record { changes = []; cursor = 0; depth = depth; staged = None }

module _ (limits : Limits) (format : Format) (s : ScriptState) (validation : Validation)
    (is : IsValidation limits format s validation) where
  abbrev stored : Graph
  stored = plain_graph validation.graph

  abbrev plan : Planned
  plan = plan_of validation.plan

  -- as many pairs are evaluated as the state has
  steps-validation : pairs plan s.graph ≡ pairs plan stored
      → length (pairs plan stored) ≡ length (pairs s.plan s.graph)
  steps-validation alike =
      ap length (sym alike) ∙ ap (λ (p : Planned). length (pairs p s.graph)) is.plan_is

  -- and the same nested ones
  nested-validation : nested_pairs plan s.graph ≡ nested_pairs plan stored
      → nested_pairs plan stored ≡ nested_pairs s.plan s.graph
  nested-validation alike = sym alike ∙ ap (λ (p : Planned). nested_pairs p s.graph) is.plan_is

  -- so where they were counted, that is the first work
  pub work-validation : pairs plan s.graph ≡ pairs plan stored
      → nested_pairs plan s.graph ≡ nested_pairs plan stored → (before after : Work)
      → after.evaluated ≡ before.evaluated + length (pairs plan stored)
      → after.nested ≡ before.nested + nested_count plan stored → after ≡ and_then before (first_work s)
  work-validation alike nested_alike before after evaluated nested =
      same_work after (and_then before (first_work s))
      (evaluated ∙ ap (λ n. before.evaluated + n) (steps-validation alike))
      (nested ∙ ap (λ ps. before.nested + distinct_count same_pair ps) (nested-validation nested_alike))

  -- a run of the script that begins with it keeps the state
  pub IsScriptRun-opened : (script : ScriptRun) → script.engine.plan ≡ plan → script.engine.graph ≡ stored
      → script.engine.term_limit ≡ validation.graph.pool.limit
      → script.engine.triple_limit ≡ validation.graph.limit → script.document ≡ validation.document
      → script.format ≡ validation.format → script.group ≡ None → script.history ≡ no_past limits.history
      → script.line ≡ 0 → script.refused ≡ false → script.halted ≡ false
      → nested_pairs plan s.graph ≡ nested_pairs plan stored
      → AreAllRecalled (answer_of script.engine.remembered) (nested_pairs plan stored)
      → IsScriptRun limits format s script
  IsScriptRun-opened script plans graph terms triples document writes group past line refused halted alike
      recalled = record {
        stores = subst (SameGraph s.graph) (sym graph) is.stores;
        names_are = subst (λ (d : Document). HasNamesOf s.data_end d) (sym document) is.names_are;
        plan_is = plans ∙ is.plan_is;
        kept_is = subst (AreAllRecalled (answer_of script.engine.remembered))
            (nested-validation alike ∙ sym is.start.kept) recalled;
        group_is = ap (option_map (λ edits. edits.items)) group ∙ sym is.start.group;
        history_is = past ∙ (λ i. record {
          changes = sym is.start.changes i;
          cursor = sym is.start.made i;
          depth = limits.history;
          staged = None;
        });
        line_is = line ∙ sym is.start.line;
        refused_is = refused ∙ sym is.start.refused;
        halted_is = halted ∙ sym is.start.halted;
        triples = triples ∙ is.limits_are.triples;
        terms = terms ∙ is.limits_are.terms;
        format_is = writes ∙ is.format_is;
      }
