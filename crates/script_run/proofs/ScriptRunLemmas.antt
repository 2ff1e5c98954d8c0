-- A run of a script keeps what its state comes to, and each step of it.
use Rattle.std.proofs.Common.{◌≡◌, ℕ, ◌+◌, ◌≤◌, true, false, if◌then◌else◌, Some, None, List, [], ◌∷◌, ◌++◌}
use Rattle.std.proofs.Common.{Option, length, map}
use Rattle.std.proofs.Common.{refl, sym, ap, ◌∙◌, append-nil, subst, Vec}
use Rattle.std.specs.Option.{is_some, option_map}
use Rattle.std.specs.declared.alloc.Global.{Global}
use Rattle.std.proofs.lemmas.Bool.{le-leb}
use Rattle.std.proofs.lemmas.List.Folds.{flat_map-map}
use Rattle.comp_core.specs.declared.pair.Pair.{Pair}
use Rattle.shx_term.specs.declared.edit.Edit.{Edit}
use Rattle.shx_term.specs.declared.fault_codes.TheConstants.{GROUP_TOO_LONG}
use Rattle.shx_term.specs.declared.limits.Limits.{Limits}
use Rattle.shx_term.specs.declared.term.Term.{Term}
use Rattle.shx_term.specs.declared.triple.Triple.{Triple}
use Rattle.graph_view.specs.Graph.{Graph}
use Rattle.graph_view.specs.SameGraph.{SameGraph}
use Rattle.shape_eval.specs.Plan.{Planned}
use Rattle.shape_eval.specs.Report.{pairs, report}
use Rattle.edit_history.specs.declared.net.Net.{Net}
use Rattle.edit_history.specs.History.{Past}
use Rattle.edit_engine.specs.Applied.{SamePlan}
use Rattle.edit_engine.specs.EngineState.{EngineState}
use Rattle.edit_engine.specs.Remembered.{AreAllRecalled, answer_of}
use Rattle.text_output.specs.declared.format.Format.{Format}
use Rattle.report_write.specs.declared.answer.Answer.{Answer}
use Rattle.report_write.specs.declared.answer.Answer.TheVariants.{Count, Queued}
use Rattle.report_write.specs.Answers.{answer_text, slice_answers, slice_text}
use Rattle.report_write.specs.ReportTexts.{report_text}
use Rattle.script_run.specs.declared.reply.Reply.TheVariants.{Answers, Report, Slice, Nothing}
use Rattle.script_run.specs.declared.script_run.ScriptRun.{ScriptRun}
use Rattle.script_run.specs.Replies.{Replies, graph_report}
use Rattle.script_run.specs.Stored.{IsScriptRun}
use Rattle.script_run.specs.Manner.{Manner}
use Rattle.script_run.specs.Script.{count_answer, edit_step, past_of, refusal, said_text, stays}
use Rattle.script_run.specs.Script.Said.{answers, reports}
use Rattle.script_run.specs.ScriptState.{ScriptState}
use Rattle.script_run.specs.Work.{Work}
use Rattle.script_run.proofs.WorkLemmas.{still_work}

module _ (limits : Limits) (format : Format) (s : ScriptState) (script : ScriptRun)
    (is : IsScriptRun limits format s script) where
  -- over one graph in two orders a plan has the same report
  abbrev IsAlike : Type 0
  IsAlike = report script.engine.plan s.graph ≡ report script.engine.plan script.engine.graph

  pub report_kept : IsAlike → report s.plan s.graph ≡ report script.engine.plan script.engine.graph
  report_kept alike = ap (λ plan. report plan s.graph) (sym is.plan_is) ∙ alike

  -- so what is kept is said
  pub report_said : IsAlike
      → said_text format s reports ≡ graph_report format script.engine.plan script.engine.graph
  report_said alike =
      λ i. report_text format (is.stores.terms i) (sym is.plan_is i).shapes (report_kept alike i)

  -- one line more was answered, with this graph, these pairs remembered, this group and these changes
  pub IsScriptRun-changed : (g : Graph) (kept : List Pair) (waiting : Option (List Edit)) (changes : List Net)
      (made : ℕ) (engine : EngineState) (group : Option (Vec Edit Global)) (history : Past)
      → SameGraph g engine.graph → AreAllRecalled (answer_of engine.remembered) kept
      → SamePlan script.engine engine → option_map (λ edits. edits.items) group ≡ waiting
      → history ≡ past_of limits (record s { changes = changes; made = made })
      → IsScriptRun limits format
      (record s {
        graph = g;
        kept = kept;
        group = waiting;
        changes = changes;
        made = made;
        line = s.line + 1;
      })
      (record script { engine = engine; group = group; history = history; line = script.line + 1 })
  IsScriptRun-changed g kept waiting changes made engine group history same recalled plan waits past =
      record {
        stores = same;
        names_are = is.names_are;
        plan_is = plan.plan ∙ is.plan_is;
        kept_is = recalled;
        group_is = waits;
        history_is = past;
        line_is = ap (λ line. line + 1) is.line_is;
        refused_is = is.refused_is;
        halted_is = is.halted_is;
        triples = plan.triple_limit ∙ is.triples;
        terms = plan.term_limit ∙ is.terms;
        format_is = is.format_is;
      }

  -- with another group
  pub IsScriptRun-grouped : (waiting : Option (List Edit)) (group : Option (Vec Edit Global))
      → option_map (λ edits. edits.items) group ≡ waiting
      → IsScriptRun limits format (record s { group = waiting; line = s.line + 1 })
      (record script { group = group; line = script.line + 1 })
  IsScriptRun-grouped waiting group waits = IsScriptRun-changed s.graph s.kept waiting s.changes s.made
      script.engine group script.history is.stores is.kept_is
      (record { plan = refl; term_limit = refl; triple_limit = refl }) waits is.history_is

  -- and with all that it had
  pub IsScriptRun-counted : IsScriptRun limits format (record s { line = s.line + 1 })
      (record script { line = script.line + 1 })
  IsScriptRun-counted = IsScriptRun-grouped s.group script.group is.group_is

  -- over the engine that it has, with the history and the group that it has
  pub IsScriptRun-same : (engine : EngineState) (group : Option (Vec Edit Global)) (history : Past)
      → engine ≡ script.engine → option_map (λ edits. edits.items) group ≡ s.group → history ≡ script.history
      → IsScriptRun limits format s (record script { engine = engine; group = group; history = history })
  IsScriptRun-same engine group history same waits past =
      subst (λ (e : EngineState).
      IsScriptRun limits format s (record script { engine = e; group = group; history = history })) (sym same)
      (record {
        stores = is.stores;
        names_are = is.names_are;
        plan_is = is.plan_is;
        kept_is = is.kept_is;
        group_is = waits;
        history_is = past ∙ is.history_is;
        line_is = is.line_is;
        refused_is = is.refused_is;
        halted_is = is.halted_is;
        triples = is.triples;
        terms = is.terms;
        format_is = is.format_is;
      })

pub answer_said : (format : Format) (terms terms' : List Term) (answer answer' : Answer) → terms ≡ terms'
    → answer ≡ answer' → answer_text format terms answer ++ [] ≡ answer_text format terms' answer'
answer_said format terms terms' answer answer' same is =
    append-nil (answer_text format terms answer) ∙ (λ i. answer_text format (same i) (is i))

module _ (manner : Manner) (s : ScriptState) (script : ScriptRun)
    (is : IsScriptRun manner.limits manner.format s script) (work : Work) where
  abbrev counted : ScriptRun
  counted = record script { line = script.line + 1 }

  -- an answer is said to a line
  pub Replies-answers : (answer : Answer)
      → Replies manner (stays s (answers answer ∷ [])) (Answers answer) counted work work
  Replies-answers answer = record {
    text = answer_said manner.format s.graph.terms script.engine.graph.terms answer answer is.stores.terms
        refl;
    stored = IsScriptRun-counted manner.limits manner.format s script is;
    work = still_work work work refl;
  }

  -- and there is another group
  pub Replies-grouped : (waiting : Option (List Edit)) (group : Option (Vec Edit Global)) (answer : Answer)
      → option_map (λ edits. edits.items) group ≡ waiting
      → Replies manner (stays (record s { group = waiting }) (answers answer ∷ [])) (Answers answer)
      (record counted { group = group }) work work
  Replies-grouped waiting group answer waits = record {
    text = answer_said manner.format s.graph.terms script.engine.graph.terms answer answer is.stores.terms
        refl;
    stored = IsScriptRun-grouped manner.limits manner.format s script is waiting group waits;
    work = still_work work work refl;
  }

  -- or the report
  pub Replies-report : report script.engine.plan s.graph ≡ report script.engine.plan script.engine.graph
      → Replies manner (stays s (reports ∷ [])) Report counted work work
  Replies-report alike = record {
    text = append-nil (said_text manner.format s reports)
        ∙ report_said manner.limits manner.format s script is alike;
    stored = IsScriptRun-counted manner.limits manner.format s script is;
    work = still_work work work refl;
  }

  -- or a slice
  pub Replies-slice : (slice : List Triple)
      → Replies manner (stays s (map answers (slice_answers slice))) (Slice slice) counted work work
  Replies-slice slice = record {
    text = flat_map-map (said_text manner.format s) answers (slice_answers slice)
        ∙ ap (λ terms. slice_text manner.format terms slice) is.stores.terms;
    stored = IsScriptRun-counted manner.limits manner.format s script is;
    work = still_work work work refl;
  }

  -- or nothing
  pub Replies-nothing : Replies manner (stays s []) Nothing counted work work
  Replies-nothing = record {
    text = refl;
    stored = IsScriptRun-counted manner.limits manner.format s script is;
    work = still_work work work refl;
  }

-- ---- what is told of the state

module _ (limits : Limits) (format : Format) (s : ScriptState) (script : ScriptRun)
    (is : IsScriptRun limits format s script)
    (alike : report script.engine.plan s.graph ≡ report script.engine.plan script.engine.graph) where
  -- what is counted
  pub counts_kept : pairs script.engine.plan s.graph ≡ pairs script.engine.plan script.engine.graph
      → (triples all results : ℕ) → triples ≡ length script.engine.graph.triples
      → all ≡ length (pairs script.engine.plan script.engine.graph)
      → results ≡ length (report script.engine.plan script.engine.graph)
      → Count triples all results ≡ count_answer s
  counts_kept same triples all results stated counted found =
      let kept : pairs s.plan s.graph ≡ pairs script.engine.plan script.engine.graph =
      ap (λ (plan : Planned). pairs plan s.graph) (sym is.plan_is) ∙ same in
      (λ i. Count (stated i) (counted i) (found i))
      ∙ (λ i. Count (sym is.stores.count i) (length (sym kept i))
      (length (sym (report_kept limits format s script is alike) i)))

-- ---- groups

-- no group is open
pub no_group : (group : Option (Vec Edit Global)) (waiting : Option (List Edit))
    → option_map (λ edits. edits.items) group ≡ waiting → is_some group ≡ false → waiting ≡ None
no_group None waiting is closed = sym is
no_group (Some edits) waiting is closed = absurd (cc)

-- what holds whatever waits in the group that is open
pub by_group : (group : Option (Vec Edit Global)) (waiting : Option (List Edit))
    → option_map (λ edits. edits.items) group ≡ waiting → is_some group ≡ true
    → (P : Option (List Edit) → Type 0) → ((edits : List Edit) → P (Some edits)) → P waiting
by_group None waiting is opened P each = absurd (cc)
by_group (Some edits) waiting is opened P each = subst P is (each edits.items)

-- a group that is full takes no edit
pub full_group : (limits : Limits) (s : ScriptState) (edit : Edit) (waiting : List Edit)
    → limits.group ≤ length waiting → edit_step limits s edit (Some waiting) ≡ refusal s GROUP_TOO_LONG None
full_group limits s edit waiting full =
    ap (λ b. if b then refusal s GROUP_TOO_LONG None
    else stays (record s { group = Some (waiting ++ edit ∷ []) }) (answers Queued ∷ []))
    (le-leb limits.group (length waiting) full)
