-- What is known of each word before `clap` reads it.
use Rattle.std.specs.Prelude.{◌≡◌, ℕ, false, List}
use Rattle.std.specs.Str.{IsUtf8}
use Rattle.command_words.specs.Words.{is_barred}

-- it is text, and may stand
pub record IsAllowed (word : List ℕ) : Type 0 where
  pub utf8 : IsUtf8 word
  pub stands : is_barred word ≡ false
