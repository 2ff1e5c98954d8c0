-- What a drill promises, in terms of the output that is due of its run.
use Rattle.std.specs.Prelude.{◌≡◌, ◌≢◌, ℕ, ◌+◌, false, List, None, ◌⊎◌, IsSomeAnd}
use Rattle.shx_outside.specs.Outside.{PatternState, SinkState}
use Rattle.shx_term.specs.Limits.{program_limits}
use Rattle.text_output.specs.Writes.{FellShort, Put}
use Rattle.command_words.specs.Words.{command_words}
use Rattle.shacl_run.specs.declared.status.Status.{Status}
use Rattle.shacl_run.specs.declared.status.Status.TheVariants.{Conforms, BadWords, Refused, WriteFault}
use Rattle.shacl_run.specs.declared.status.Status.TheVariants.{Memory}
use Rattle.script_run.specs.Load.{Load}
use Rattle.shacl_run.specs.Loads.{AreLoaded}
use Rattle.shacl_run.specs.Outside.{Outside}
use Rattle.shacl_run.specs.Readings.{Readings}
use Rattle.shacl_run.specs.Run.{Output, run_output}
use Rattle.shacl_run.specs.RunClauses.{ByVerdict, DataIsReadBy, IsRead, LinesAreReadBy, ShapesAreReadBy}
use Rattle.shacl_run.specs.RunClauses.{words_shapes}
use Rattle.shacl_run.specs.Status.{status_number}
use Rattle.shape_text.specs.Verdict.{Verdict}
use Rattle.shacl_drill.specs.Size.{AskFor, AskForNone}
use Rattle.shacl_drill.specs.Summary.{summary, usage_text}
use Rattle.shacl_drill.specs.Texts.{run_words, texts}

-- what a drill uses at one moment: its output, the pattern host, and where the two counters of evaluations
-- stand
pub record Surroundings : Type 0 where
  pub sink : SinkState
  pub patterns : PatternState
  pub nested : ℕ
  pub steps : ℕ

abbrev pub surroundings : SinkState → PatternState → ℕ → ℕ → Surroundings
surroundings sink patterns nested steps = record {
  sink = sink;
  patterns = patterns;
  nested = nested;
  steps = steps;
}

-- ---- what is written

-- a line was put whole, and the drill ended so; or the output failed, and a proper front of it was put
abbrev pub Tells : List ℕ → Status → SinkState → SinkState → Status → Type 0
Tells line ending before after status =
    ((status ≡ ending) × Put before after line) ⊎ ((status ≡ WriteFault) × FellShort before after line)

-- the drill ended so, and nothing was put
pub record EndsSilent (ending : Status) (before after : SinkState) (status : Status) : Type 0 where
  pub status_is : status ≡ ending
  pub nothing_put : after ≡ before

-- of the output of the run: where a text was refused, nothing is told; otherwise the summary is, and as many
-- pairs were evaluated, and as many nested ones
pub record TellsOf (n : ℕ) (output : Output) (before after : Surroundings) (status : Status) : Type 0 where
  pub refused : output.status ≡ Refused → EndsSilent Refused before.sink after.sink status
  pub told : output.status ≢ Refused
      → Tells (summary n output.text (status_number output.status)) Conforms before.sink after.sink status
  pub evaluations : output.status ≢ Refused → after.steps ≡ before.steps + output.work.evaluated
  pub nested_evaluations : output.status ≢ Refused → after.nested ≡ before.nested + output.work.nested

-- ---- the run

-- the output that is due of a run over the texts of n nodes, by this reading of them, this verdict on their
-- shapes, and what comes of the texts that the script loads, is told of
pub record TellsBy (n : ℕ) (readings : Readings) (before after : Surroundings) (status : Status)
    (verdict : Verdict) : Type 0 where
  pub loads : List Load
  pub right : AreLoaded ⊥ program_limits readings verdict after.patterns.refused run_words (texts n) loads
  pub told : IsSomeAnd (run_output program_limits readings verdict loads run_words (texts n)) (λ output.
      TellsOf n output before after status)

-- where the data text and the lines are read so
abbrev pub TellsDue : ℕ → Readings → Surroundings → Surroundings → Status → Verdict → Type 0
TellsDue n readings before after status verdict =
    DataIsReadBy program_limits readings verdict (command_words run_words) (texts n)
    → LinesAreReadBy program_limits readings verdict (command_words run_words) (texts n)
    → TellsBy n readings before after status verdict

-- the outside of a run over the texts of n nodes, before any is opened
abbrev pub over_texts : ℕ → Surroundings → Outside
over_texts n at = record {
  inputs = record {
    text = texts n;
    opened = λ role. false;
    opens = λ role. 0;
    whole = λ role. None;
    rest = λ role. None;
    faults = 0;
  };
  sink = at.sink;
  patterns = at.patterns;
  nested = at.nested;
  steps = at.steps;
}

-- the texts have a reading; and whatever they are read as, the shapes come to one verdict, and what is due by
-- it is told of
pub record TellsRun (n : ℕ) (before after : Surroundings) (status : Status) : Type 0 where
  pub read : IsRead program_limits run_words (over_texts n before) (over_texts n after)
  pub due : (readings : Readings)
      → ShapesAreReadBy program_limits readings (command_words run_words) (texts n)
      → ByVerdict program_limits readings.shapes (words_shapes (texts n) (command_words run_words))
      before.patterns after.patterns (TellsDue n readings before after status)

-- ---- the whole

-- what a drill promises that was given these words
pub record IsDrill (words : List (List ℕ)) (before after : Surroundings) (status : Status) : Type 0 where
  -- where they ask for no number of nodes, the usage is told
  pub usage : AskForNone words → Tells usage_text BadWords before.sink after.sink status
  -- where they ask for n nodes, memory was wanted, or the run over the texts of n nodes is told of
  pub run : (n : ℕ) → AskFor words n
      → EndsSilent Memory before.sink after.sink status ⊎ TellsRun n before after status
