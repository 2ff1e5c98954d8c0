-- A run over the texts of a drill.
use Rattle.std.specs.Prelude.{◌≡◌, ℕ}
use Rattle.shx_outside.specs.Outside.{InputState}
use Rattle.shx_term.specs.Limits.{program_limits}
use Rattle.shacl_run.specs.declared.status.Status.{Status}
use Rattle.shacl_run.specs.Outside.{Outside, outside}
use Rattle.shacl_run.specs.RunClauses.{IsRun}
use Rattle.shacl_drill.specs.Clauses.{Surroundings}
use Rattle.shacl_drill.specs.Texts.{run_words, texts}

-- with these inputs
abbrev pub outside_of : InputState → Surroundings → Outside
outside_of inputs at = outside inputs at.sink at.patterns at.nested at.steps

-- a run was made whose inputs hold the texts of n nodes
pub record IsRanOver (n : ℕ) (before after : Surroundings) (status : Status) : Type 0 where
  pub first : InputState
  pub last : InputState
  pub held : first.text ≡ texts n
  pub is : IsRun program_limits run_words (outside_of first before) (outside_of last after) status
