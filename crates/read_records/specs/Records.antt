-- What is recorded: which keys each reader has read, whom a triple touches, and what is staged.
use Rattle.std.specs.Prelude.{◌≡◌, List, Option, Some, Contains, ◌⊎◌}
use Rattle.shx_term.specs.declared.triple.Triple.{Triple}
use Rattle.graph_view.specs.declared.key.Key.{Key}
use Rattle.graph_view.specs.Reads.{IsTouchedBy}
use Rattle.comp_core.specs.declared.pair.Pair.{Pair}
use Rattle.comp_core.specs.Pairs.{answer_key}
use Rattle.read_records.specs.declared.reader.Reader.{Reader}
use Rattle.read_records.specs.Store.{MakesStaged, SameNotes, SameStaged, StagesFor, Stored}
use Rattle.read_records.specs.Store.{change_for, changed_to, kept_for}

-- what is kept for a reader is the keys that were read
abbrev pub Recorded : Type 0
Recorded = Stored (List Key)

-- the keys that are recorded for a reader
abbrev pub reads_of : Recorded → Reader → Option (List Key)
reads_of = kept_for

-- what is staged for it: keys, or that its record goes
abbrev pub change_of : Recorded → Reader → Option (Option (List Key))
change_of = change_for

-- a reader whose record has a key that the triple touches
pub record IsTouched (state : Recorded) (t : Triple) (reader : Reader) : Type 0 where
  pub reads : List Key
  pub recorded : reads_of state reader ≡ Some reads
  pub touched : IsTouchedBy t reads

-- one of the triples touches what is recorded of the reader
pub record IsTouchedByAny (state : Recorded) (changed : List Triple) (reader : Reader) : Type 0 where
  pub triple : Triple
  pub changes : Contains changed triple
  pub touched : IsTouched state triple reader

-- its record has the answer of one of these pairs
pub record RestsOnAny (state : Recorded) (answers : List Pair) (reader : Reader) : Type 0 where
  pub pair : Pair
  pub among : Contains answers pair
  pub reads : List Key
  pub recorded : reads_of state reader ≡ Some reads
  pub read : Contains reads (answer_key pair)

-- whom a change reaches, which reaches the answers of these pairs
abbrev pub IsReachedBy : Recorded → List Triple → List Pair → Reader → Type 0
IsReachedBy state changed answers reader =
    IsTouchedByAny state changed reader ⊎ RestsOnAny state answers reader

-- the same is recorded
abbrev pub SameRecords : Recorded → Recorded → Type 0
SameRecords = SameNotes

-- the same is staged
abbrev pub SameChanges : Recorded → Recorded → Type 0
SameChanges = SameStaged

-- this is staged for a reader, in the place of what was; for all others the same
abbrev pub Stages : Recorded → Recorded → Reader → Option (List Key) → Type 0
Stages = StagesFor

-- what is recorded once what is staged is made
abbrev pub after_change : Option (Option (List Key)) → Option (List Key) → Option (List Key)
after_change = changed_to

abbrev pub Commits : Recorded → Recorded → Type 0
Commits = MakesStaged
