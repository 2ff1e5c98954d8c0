-- The outside of a run at one moment: what the inputs, the sink and the pattern host tell of themselves,
-- and where the two counters of evaluations stand.
use Rattle.std.specs.Prelude.{ℕ}
use Rattle.shx_outside.specs.Outside.{InputState, SinkState, PatternState}
use Rattle.script_run.specs.Work.{Work, evaluating}

pub record Outside : Type 0 where
  pub inputs : InputState
  pub sink : SinkState
  pub patterns : PatternState
  pub nested : ℕ
  pub steps : ℕ

abbrev pub outside : InputState → SinkState → PatternState → ℕ → ℕ → Outside
outside inputs sink patterns nested steps = record {
  inputs = inputs;
  sink = sink;
  patterns = patterns;
  nested = nested;
  steps = steps;
}

-- where the counters stand
abbrev pub counts : Outside → Work
counts at = evaluating at.steps at.nested
