-- What is remembered of pairs, as a store of rows holds it.
use Rattle.std.specs.Prelude.{List}
use Rattle.comp_core.specs.declared.row.ResultRow.{ResultRow}
use Rattle.read_records.specs.declared.noted.Noted.{Noted}
use Rattle.read_records.specs.Recall.{Answer, RecallState}
use Rattle.read_records.specs.Store.{Stored}
use Rattle.read_records.specs.inner.Notes.{stored_seen}

-- what is kept and staged, by reader
abbrev pub NotedRows : Type 0
NotedRows = Stored (Noted (List ResultRow))

abbrev pub as_remembered : Noted (List ResultRow) → Answer
as_remembered noted = record { rows = noted.value; reads = noted.reads }

abbrev pub as_recalled : NotedRows → RecallState
as_recalled state = stored_seen as_remembered state
