-- How runs end.
use Rattle.std.specs.Prelude.{ℕ}
use Rattle.program_words.specs.declared.no_words.NoWords.{NoWords}
use Rattle.program_words.specs.declared.no_words.NoWords.TheVariants as no_words
use Rattle.shacl_run.specs.declared.status.Status.{Status}
use Rattle.shacl_run.specs.declared.status.Status.TheVariants.{Conforms, Violates, BadWords, Refused}
use Rattle.shacl_run.specs.declared.status.Status.TheVariants.{InputFault, WriteFault, Memory, LinesRefused}

abbrev pub status_number : Status → ℕ
status_number Conforms = 0
status_number Violates = 1
status_number BadWords = 2
status_number Refused = 3
status_number InputFault = 4
status_number WriteFault = 5
status_number Memory = 6
status_number LinesRefused = 7

-- how a program ends that has no words
abbrev pub status_without_words : NoWords → Status
status_without_words no_words.NoText = BadWords
status_without_words no_words.Memory = Memory

-- the run answered: neither memory nor the outside failed
abbrev pub IsAnswered : Status → Type 0
IsAnswered Conforms = Unit {0}
IsAnswered Violates = Unit {0}
IsAnswered BadWords = Unit {0}
IsAnswered Refused = Unit {0}
IsAnswered InputFault = ⊥
IsAnswered WriteFault = ⊥
IsAnswered Memory = ⊥
IsAnswered LinesRefused = Unit {0}

-- the run gave its reports to the end
abbrev pub IsReported : Status → Type 0
IsReported Conforms = Unit {0}
IsReported Violates = Unit {0}
IsReported BadWords = ⊥
IsReported Refused = ⊥
IsReported InputFault = ⊥
IsReported WriteFault = ⊥
IsReported Memory = ⊥
IsReported LinesRefused = Unit {0}

-- memory or the outside failed
abbrev pub IsCutShort : Status → Type 0
IsCutShort Conforms = ⊥
IsCutShort Violates = ⊥
IsCutShort BadWords = ⊥
IsCutShort Refused = ⊥
IsCutShort InputFault = Unit {0}
IsCutShort WriteFault = Unit {0}
IsCutShort Memory = Unit {0}
IsCutShort LinesRefused = ⊥
