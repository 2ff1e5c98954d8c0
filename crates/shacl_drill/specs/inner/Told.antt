-- How a drill ends that ran.
use Rattle.std.specs.Prelude.{ℕ, List, ◌⊎◌}
use Rattle.shx_outside.specs.Outside.{SinkState}
use Rattle.shacl_run.specs.declared.status.Status.{Status}
use Rattle.shacl_run.specs.declared.status.Status.TheVariants.{Conforms, Violates, BadWords, Refused}
use Rattle.shacl_run.specs.declared.status.Status.TheVariants.{InputFault, WriteFault, Memory, LinesRefused}
use Rattle.shacl_drill.specs.Clauses.{EndsSilent, Tells}
use Rattle.shacl_drill.specs.Summary.{summary}

-- memory was wanted, or a line is told
abbrev pub SumsUp : List ℕ → SinkState → SinkState → Status → Type 0
SumsUp line before after status =
    EndsSilent Memory before after status ⊎ Tells line Conforms before after status

-- by how the run ended that wrote this text
abbrev pub TellsEnd : ℕ → Status → List ℕ → SinkState → SinkState → Status → Type 0
TellsEnd n Conforms text before after status = SumsUp (summary n text 0) before after status
TellsEnd n Violates text before after status = SumsUp (summary n text 1) before after status
TellsEnd n LinesRefused text before after status = SumsUp (summary n text 7) before after status
TellsEnd n Refused text before after status = EndsSilent Refused before after status
TellsEnd n BadWords text before after status = EndsSilent Memory before after status
TellsEnd n InputFault text before after status = EndsSilent Memory before after status
TellsEnd n WriteFault text before after status = EndsSilent Memory before after status
TellsEnd n Memory text before after status = EndsSilent Memory before after status
