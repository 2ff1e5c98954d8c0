-- How the words of a command line are read: from left to right, as options with their values and as files.
-- `--` makes all later words files.
use Rattle.std.specs.Prelude.{ℕ, Bool, ◌&&◌, ◌||◌, List, [], ◌∷◌, ◌++◌, drop, codes, nat_eq, Option, Some}
use Rattle.std.specs.Prelude.{None, is_some, if◌then◌else◌, map}
use Rattle.std.specs.List.{list_any, starts_with}
use Rattle.std.specs.Borrow.{Bor}
use Rattle.std.specs.Option.{option_and_then}
use Rattle.std.specs.Str.{bytes_eq}
use Rattle.iri_resolve.specs.Characters.{is_allowed}
use Rattle.iri_resolve.specs.Parts.{parts_of}
use Rattle.text_output.specs.declared.format.Format.{Format}
use Rattle.text_output.specs.declared.format.Format.TheVariants.{Lines, Turtle}
use Rattle.command_words.specs.Asked.{Asked, Files}

-- ---- words

-- the texts behind references
abbrev pub texts_of : List (Bor (List ℕ)) → List (List ℕ)
texts_of = map (λ text. text.now)

abbrev pub is_word : List ℕ → List ℕ → Bool
is_word text word = bytes_eq word text

-- it begins with `-`
abbrev pub is_dashed : List ℕ → Bool
is_dashed word = starts_with nat_eq word (codes "-")

-- the empty word and `-`, which are read nowhere
abbrev pub is_barred : List ℕ → Bool
is_barred word = is_word [] word || is_word (codes "-") word

-- ---- what the words said so far

pub record Seen : Type 0 where
  pub format : Option (List ℕ)
  pub base : Option (List ℕ)
  pub files : List (List ℕ)

abbrev pub nothing_seen : Seen
nothing_seen = record { format = None; base = None; files = [] }

-- an option stands at most once
abbrev pub with_format : List ℕ → Seen → Option Seen
with_format value seen = if is_some seen.format then None else Some (record seen { format = Some value })

abbrev pub with_base : List ℕ → Seen → Option Seen
with_base value seen = if is_some seen.base then None else Some (record seen { base = Some value })

abbrev pub with_files : List (List ℕ) → Seen → Seen
with_files words seen = record seen { files = seen.files ++ words }

-- ---- reading them

unfoldable mutual
  -- the words from here on, where `--` has not been met
  pub read_from : Seen → List (List ℕ) → Option Seen
  read_from seen [] = Some seen
  read_from seen (word ∷ words) =
      if is_word (codes "--") word then Some (with_files words seen)
      else (if is_word (codes "--format") word then read_value with_format seen words
      else (if is_word (codes "--base") word then read_value with_base seen words
      else (if starts_with nat_eq word (codes "--format=") then
      option_and_then (λ next. read_from next words) (with_format (drop 9 word) seen)
      else (if starts_with nat_eq word (codes "--base=") then
      option_and_then (λ next. read_from next words) (with_base (drop 7 word) seen)
      else (if is_dashed word then None
      else read_from (with_files (word ∷ []) seen) words)))))

  -- the value of an option is the next word, which does not begin with `-`
  pub read_value : (List ℕ → Seen → Option Seen) → Seen → List (List ℕ) → Option Seen
  read_value with_value seen [] = None
  read_value with_value seen (value ∷ words) =
      if is_dashed value then None
      else option_and_then (λ next. read_from next words) (with_value value seen)

-- ---- what they ask for

abbrev pub format_named : List ℕ → Option Format
format_named name =
    if is_word (codes "lines") name then Some Lines
    else (if is_word (codes "turtle") name then Some Turtle else None)

abbrev pub format_of : Option (List ℕ) → Option Format
format_of None = Some Lines
format_of (Some name) = format_named name

-- whether it is an absolute IRI
abbrev pub is_absolute : List ℕ → Bool
is_absolute text = is_some (parts_of text).scheme && is_allowed text

abbrev pub base_of : Option (List ℕ) → Option (List ℕ)
base_of None = Some (codes "file:///")
base_of (Some text) = if is_absolute text then Some text else None

-- two files, or three
abbrev pub files_of : List (List ℕ) → Option Files
files_of (shapes_file ∷ (data_file ∷ [])) =
    Some (record { shapes_file = shapes_file; data_file = data_file; script_file = None })
files_of (shapes_file ∷ (data_file ∷ (script_file ∷ []))) =
    Some (record { shapes_file = shapes_file; data_file = data_file; script_file = Some script_file })
files_of _ = None

abbrev pub asked_with : Files → Format → List ℕ → Asked
asked_with files format base = record { files = files; base = base; format = format }

abbrev pub asked : Seen → Option Asked
asked seen =
    option_and_then (λ files. option_and_then (λ format. option_and_then (λ base.
    Some (asked_with files format base))
    (base_of seen.base)) (format_of seen.format)) (files_of seen.files)

-- what the words ask for, where they can be read
abbrev pub command_words : List (List ℕ) → Option Asked
command_words words =
    if list_any is_barred words then None else option_and_then asked (read_from nothing_seen words)
