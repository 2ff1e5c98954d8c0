-- What the words of a command line ask for.
use Rattle.std.specs.Prelude.{ℕ, List, Option}
use Rattle.std.specs.Option.{option_map}
use Rattle.text_output.specs.declared.format.Format.{Format}
use Rattle.command_words.specs.declared.asked.Asked.{Asked as asked_words}

-- the names of the shapes text, of the data text and perhaps of a script
pub record Files : Type 0 where
  pub shapes_file : List ℕ
  pub data_file : List ℕ
  pub script_file : Option (List ℕ)

-- the files, the base over which references are resolved, and how answers are written
pub record Asked : Type 0 where
  pub files : Files
  pub base : List ℕ
  pub format : Format

-- the same of words that were read
abbrev pub asked_of : asked_words → Asked
asked_of words = record {
  files = record {
    shapes_file = words.shapes_file.now;
    data_file = words.data_file.now;
    script_file = option_map (λ name. name.now) words.script_file;
  };
  base = words.base.now;
  format = words.format;
}
