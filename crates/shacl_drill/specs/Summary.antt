-- The summary of a drill, taken from the lines that its run wrote: what they say of edits, and the last
-- count.
use Rattle.std.specs.Prelude.{ℕ, ◌==◌, Bool, ◌||◌, List, [], ◌++◌, codes, decimal, nat_eq, filter}
use Rattle.std.specs.Prelude.{count_by, Option, Some, None}
use Rattle.std.specs.List.{last_or, slice_get, slice_split, starts_with, sum_by}
use Rattle.std.specs.Option.{unwrap_or}
use Rattle.std.specs.Str.Parse.{digits_value}
use Rattle.text_input.specs.Lines.{lines_of}

-- ---- one line

abbrev pub is_edit_answer : List ℕ → Bool
is_edit_answer line = starts_with nat_eq line (codes "ok ")

abbrev pub is_change : List ℕ → Bool
is_change line = starts_with nat_eq line (codes "ok changed ")

abbrev pub is_count : List ℕ → Bool
is_count line = starts_with nat_eq line (codes "count ")

-- a space or an equals sign
abbrev pub is_between : ℕ → Bool
is_between b = (b == 32) || (b == 61)

-- the part of a line with this number, counted from 0, where parts end at spaces and equals signs; a line
-- that has fewer parts has an empty one there
abbrev pub part : ℕ → List ℕ → List ℕ
part k line = unwrap_or (slice_get (slice_split is_between line) k) []

-- `ok changed evaluated K` and `ok unchanged evaluated 0`: the number that stands last
abbrev pub evaluated_in : List ℕ → ℕ
evaluated_in line = digits_value 10 (part 3 line)

-- ---- all lines

-- how many edits were answered, how many of them changed the graph, and how many pairs were evaluated for
-- them; and the last line with a count, where there is one
pub record Told : Type 0 where
  pub edits : ℕ
  pub changed : ℕ
  pub evaluated : ℕ
  pub last_count : Option (List ℕ)

abbrev pub told_by : List (List ℕ) → Told
told_by lines = record {
  edits = count_by is_edit_answer lines;
  changed = count_by is_change lines;
  evaluated = sum_by evaluated_in (filter is_edit_answer lines);
  last_count = last_or None (filter is_count lines);
}

-- ---- the summary

-- `count triples=T pairs=P results=R`: the three numbers, and three times 0 where nothing was counted
abbrev pub count_summary : Option (List ℕ) → List ℕ
count_summary None = codes " triples 0 pairs 0 results 0"
count_summary (Some line) =
    codes " triples " ++ part 2 line ++ codes " pairs " ++ part 4 line ++ codes " results " ++ part 6 line

abbrev pub summary_of : ℕ → Told → ℕ → List ℕ
summary_of n told status =
    codes "drill " ++ decimal n ++ codes " edits " ++ decimal told.edits
    ++ codes " changed " ++ decimal told.changed ++ codes " evaluated " ++ decimal told.evaluated
    ++ count_summary told.last_count ++ codes " status " ++ decimal status ++ codes "\n"

-- of a drill of n nodes whose run wrote this text and ended with the status of this number
abbrev pub summary : ℕ → List ℕ → ℕ → List ℕ
summary n text status = summary_of n (told_by (lines_of text)) status

-- what is written where the words ask for no number of nodes
abbrev pub usage_text : List ℕ
usage_text = codes "usage: shacl_drill N\n"
