-- A script that has ended with a line says nothing to those behind it.
use Rattle.std.proofs.Common.{◌≡◌, ℕ, Bool, true, false, List, [], ◌∷◌, ◌++◌, flat_map, Option, None, Some}
use Rattle.std.proofs.Common.{refl, sym, ap, ◌∙◌, subst, nat_lt, length}
use Rattle.std.specs.Prelude.{IfSome, if◌then◌else◌}
use Rattle.shx_outside.specs.Outside.{FlaggedText}
use Rattle.text_input.specs.Lines.{script_lines}
use Rattle.text_output.specs.declared.format.Format.{Format}
use Rattle.script_run.specs.Load.{Load}
use Rattle.script_run.specs.Loaded.{AreLinesLoaded, Library}
use Rattle.script_run.specs.Manner.{Manner}
use Rattle.script_run.specs.Replies.{leaving}
use Rattle.script_run.specs.Script.{Said, Served, Step, is_silent, reading_step, said_text, script_step}
use Rattle.script_run.specs.Script.{serve_lines, step_text}
use Rattle.script_run.specs.Script.Said.{answers, reports}
use Rattle.script_run.specs.ScriptState.{ScriptState, with_loads}
use Rattle.script_run.specs.Work.{and_then, no_work}
use Rattle.script_run.proofs.WorkLemmas.{no_work-and_then}
use Rattle.shacl_run.specs.Run.{Output, behind, end_of_line, end_of_script, ending}
use Rattle.shacl_run.specs.inner.Serving.{AreLoadedAt, due_at}

pub not_both : (b : Bool) → b ≡ true → b ≡ false → ⊥
not_both true t f = cc
not_both false t f = cc

-- ---- what is put behind nothing

-- a step, and what was served behind it
abbrev pub behind_step : Format → Step → Served → Served
behind_step format step later = record {
  text = step_text format step ++ later.text;
  state = later.state;
  work = and_then step.work later.work;
}

-- the output of what was served
abbrev pub ending_behind : Format → Bool → Served → Output
ending_behind format past served = behind served.text served.work (ending format past served.state)

pub behind_nothing : (output : Output) → behind [] no_work output ≡ output
behind_nothing output = λ i. record {
  text = output.text;
  status = output.status;
  work = no_work-and_then output.work i;
}

silent_behind : (format : Format) (s : ScriptState) (later : Served)
    → behind_step format (is_silent s) later ≡ later
silent_behind format s later = λ i. record {
  text = later.text;
  state = later.state;
  work = no_work-and_then later.work i;
}

-- ---- what is said does not depend on what comes of later texts

said_beside : (format : Format) (rest : List Load) (s : ScriptState) (said : Said)
    → said_text format (with_loads rest s) said ≡ said_text format s said
said_beside format rest s (answers answer) = refl
said_beside format rest s reports = refl

pub text_beside : (format : Format) (rest : List Load) (step : Step)
    → step_text format (leaving rest step) ≡ step_text format step
text_beside format rest step =
    λ i. flat_map (λ said. said_beside format rest step.state said i) step.said

-- ---- lines behind the end

module _ (manner : Manner) (s : ScriptState) where
  pub halted_step : s.halted ≡ true → (line : List ℕ) → script_step manner s line ≡ is_silent s
  halted_step halted line =
      ap (λ (b : Bool). if b then is_silent s else reading_step manner.limits s (manner.lines line)) halted

  pub running_step : s.halted ≡ false → (line : List ℕ)
      → script_step manner s line ≡ reading_step manner.limits s (manner.lines line)
  running_step running line =
      ap (λ (b : Bool). if b then is_silent s else reading_step manner.limits s (manner.lines line)) running

  abbrev nothing_served : Served
  nothing_served = record { text = []; state = s; work = no_work }

  pub halted_serves : s.halted ≡ true → (lines : List (List ℕ))
      → serve_lines manner s lines ≡ nothing_served
  halted_serves halted [] = refl
  halted_serves halted (line ∷ lines) =
      ap (λ (step : Step). behind_step manner.format step (serve_lines manner step.state lines))
      (halted_step halted line)
      ∙ silent_behind manner.format s (serve_lines manner s lines)
      ∙ halted_serves halted lines

  -- how it ends
  pub ending_halted : s.halted ≡ true → (past : Bool) → ending manner.format past s ≡ end_of_line
  ending_halted halted past =
      ap (λ (b : Bool). if b then end_of_line else end_of_script manner.format past s) halted

  pub ending_running : s.halted ≡ false → (past : Bool)
      → ending manner.format past s ≡ end_of_script manner.format past s
  ending_running running past =
      ap (λ (b : Bool). if b then end_of_line else end_of_script manner.format past s) running

  pub halted_due : s.halted ≡ true → (budget : ℕ) (left : Option (List ℕ))
      → IfSome (due_at manner s budget left) (λ told. told ≡ end_of_line)
  halted_due halted budget None = tt
  halted_due halted budget (Some bytes) =
      let past = nat_lt budget (length bytes) in
      ap (ending_behind manner.format past) (halted_serves halted (script_lines budget bytes))
      ∙ behind_nothing (ending manner.format past s) ∙ ending_halted halted past

  -- they load nothing
  module _ (Missing : Type 0) (library : Library) (last : Option FlaggedText) where
    lines_halted : s.halted ≡ true → s.loads ≡ [] → (lines : List (List ℕ))
        → AreLinesLoaded Missing manner library last s lines
    lines_halted halted none [] = none
    lines_halted halted none (line ∷ lines) = (
      λ running. absurd (not_both s.halted halted running),
      subst (λ (step : Step). AreLinesLoaded Missing manner library last step.state lines)
          (sym (halted_step halted line)) (lines_halted halted none lines),
    )

    pub halted_loaded : s.halted ≡ true → s.loads ≡ [] → (budget : ℕ) (left : Option (List ℕ))
        → AreLoadedAt Missing manner library last s budget left
    halted_loaded halted none budget None = tt
    halted_loaded halted none budget (Some bytes) = lines_halted halted none (script_lines budget bytes)
