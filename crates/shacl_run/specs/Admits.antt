-- Which files the inputs admit.
use Rattle.std.specs.Prelude.{ℕ, List, Option, Some, None}
use Rattle.shx_outside.specs.declared.role.Role.{Role}
use Rattle.shx_outside.specs.declared.role.Role.TheVariants.{Shapes, Data, Script}
use Rattle.command_words.specs.Asked.{Asked}

abbrev pub AdmitsScript : (Role → List ℕ → Type 0) → Option (List ℕ) → Type 0
AdmitsScript admits None = Unit {0}
AdmitsScript admits (Some script) = admits Script script

-- the files that the words name, for what they are read for
abbrev pub AdmitsFiles : (Role → List ℕ → Type 0) → Option Asked → Type 0
AdmitsFiles admits None = Unit {0}
AdmitsFiles admits (Some words) =
    admits Shapes words.files.shapes_file × admits Data words.files.data_file
    × AdmitsScript admits words.files.script_file
