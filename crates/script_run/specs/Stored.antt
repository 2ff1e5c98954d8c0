-- A validation, and a run of its script: shapes and the data graph as they are stored, and how far the script
-- has come.
use Rattle.std.specs.Prelude.{◌≡◌, false, [], All, IfSome, None}
use Rattle.std.specs.Option.{option_map}
use Rattle.iri_resolve.specs.Resolution.{IsAbsolute}
use Rattle.shx_term.specs.Edit.{IsValidEdit}
use Rattle.shx_term.specs.declared.limits.Limits.{Limits}
use Rattle.graph_view.specs.ListGraph.{plain_graph}
use Rattle.graph_view.specs.SameGraph.{SameGraph}
use Rattle.shape_eval.specs.Nested.{nested_pairs}
use Rattle.shape_eval.specs.Planned.{plan_of}
use Rattle.edit_engine.specs.Course.{IsCourse}
use Rattle.edit_engine.specs.MayBeAsked.{MayBeAsked}
use Rattle.edit_engine.specs.Remembered.{AreAllRecalled, answer_of}
use Rattle.script_run.specs.declared.script_run.ScriptRun.{ScriptRun}
use Rattle.script_run.specs.declared.validation.Validation.{Validation}
use Rattle.text_output.specs.declared.format.Format.{Format}
use Rattle.shape_text.specs.Names.{HasNamesOf}
use Rattle.script_run.specs.Script.{past_of}
use Rattle.script_run.specs.ScriptState.{ScriptState}

-- ---- before the script

-- the limits of the graph are those of the run
pub record HasLimits (limits : Limits) (validation : Validation) : Type 0 where
  pub triples : validation.graph.limit ≡ limits.triples
  pub terms : validation.graph.pool.limit ≡ limits.terms

-- no line was answered and no change made, and the nested pairs of the graph are to be remembered
pub record IsStart (s : ScriptState) : Type 0 where
  pub kept : s.kept ≡ nested_pairs s.plan s.graph
  pub group : s.group ≡ None
  pub changes : s.changes ≡ []
  pub made : s.made ≡ 0
  pub line : s.line ≡ 0
  pub refused : s.refused ≡ false
  pub halted : s.halted ≡ false

-- the validation stores the state before the first line, with the limits and the format of the run
pub record IsValidation (limits : Limits) (format : Format) (s : ScriptState) (validation : Validation)
    : Type 0 where
  pub stores : SameGraph s.graph (plain_graph validation.graph)
  pub names_are : HasNamesOf s.data_end validation.document
  pub plan_is : plan_of validation.plan ≡ s.plan
  pub start : IsStart s
  pub limits_are : HasLimits limits validation
  pub format_is : validation.format ≡ format

-- its plan may be asked of its graph
abbrev pub Stands : Validation → Type 0
Stands validation = MayBeAsked (plan_of validation.plan) (plain_graph validation.graph)

-- ---- within the script

-- the run of the script keeps the state, with the limits and the format of the run
pub record IsScriptRun (limits : Limits) (format : Format) (s : ScriptState) (script : ScriptRun) : Type 0
  where
    pub stores : SameGraph s.graph script.engine.graph
    pub names_are : HasNamesOf s.data_end script.document
    pub plan_is : script.engine.plan ≡ s.plan
    pub kept_is : AreAllRecalled (answer_of script.engine.remembered) s.kept
    pub group_is : option_map (λ waiting. waiting.items) script.group ≡ s.group
    pub history_is : script.history ≡ past_of limits s
    pub line_is : script.line ≡ s.line
    pub refused_is : script.refused ≡ s.refused
    pub halted_is : script.halted ≡ s.halted
    pub triples : script.engine.triple_limit ≡ limits.triples
    pub terms : script.engine.term_limit ≡ limits.terms
    pub format_is : script.format ≡ format

-- what is true of each run of a script: the base is absolute, the edits that wait are valid, and the changes
-- that are made can be taken back and those that were taken back made again
pub record MayGoOn (script : ScriptRun) : Type 0 where
  pub base : IsAbsolute script.base
  pub group : IfSome script.group (λ waiting. All IsValidEdit waiting.items)
  pub course : IsCourse script.engine.triple_limit script.engine.graph script.history.changes
      script.history.cursor
  pub staged : script.history.staged ≡ None
