-- What matches of the command hold of words that were read.
use Rattle.std.specs.Prelude.{◌≡◌, ℕ, ⊤, List, [], ◌∷◌, Option, Some, None, codes, option_map}
use Rattle.std.specs.Borrow.{Bor}
use Rattle.clap.specs.Matches.{first_value, matched_of, raw_values}
use Rattle.clap.specs.declared.parser.matches.Found.{Found}
use Rattle.command_words.specs.Asked.{Files}
use Rattle.command_words.specs.Words.{Seen}

-- an argument that was not used has no entry
abbrev pub some_files : List (List ℕ) → Option (List (List ℕ))
some_files [] = None
some_files (file ∷ files) = Some (file ∷ files)

pub record HasSeen (found : Found) (seen : Seen) : Type 0 where
  pub format : first_value found (codes "format") ≡ seen.format
  pub base : first_value found (codes "base") ≡ seen.base
  pub files : option_map raw_values (matched_of found (codes "files")) ≡ some_files seen.files

-- there are matches exactly where the words have a reading, and they hold it
abbrev pub AreRead : Option Found → Option Seen → Type 0
AreRead None None = ⊤
AreRead (Some found) (Some seen) = HasSeen found seen
AreRead _ _ = ⊥

-- the files by their names in memory
abbrev pub files_by : Bor (List ℕ) × Bor (List ℕ) × Option (Bor (List ℕ)) → Files
files_by names = record {
  shapes_file = names.0.now;
  data_file = names.1.now;
  script_file = option_map (λ name. name.now) names.2;
}
