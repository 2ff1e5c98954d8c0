-- The command by which `clap` reads words: two options, each with a value, and files in any number.
use Rattle.std.specs.Prelude.{Some, true, codes}
use Rattle.clap.specs.Walk.{Rule, Text}
use Rattle.clap.specs.Simple.{App, new_app, new_rule, on_top, with_rule}
use Rattle.clap.specs.declared.builder.action.ArgAction.TheVariants.{Append}

abbrev pub option_rule : Text → Rule
option_rule name = record (new_rule name) { long = Some name }

abbrev pub files_rule : Rule
files_rule = record (new_rule (codes "files")) { action = Some Append }

-- its words begin with no program's name, and none of them asks for help
abbrev pub bare_app : App
bare_app = on_top (λ s. record s { no_binary_name = true; disable_help_flag = true })
    (new_app (codes "shacl_keep"))

abbrev pub command_app : App
command_app =
    with_rule (with_rule (with_rule bare_app (option_rule (codes "format")))
    (option_rule (codes "base"))) files_rule
