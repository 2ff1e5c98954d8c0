-- What a command asks for.
use Rattle.std.specs.Prelude.{Option, Some, None}
use Rattle.shx_term.specs.declared.edit.Edit.{Edit}
use Rattle.script_lines.specs.declared.command.Command.{Command}
use Rattle.script_lines.specs.declared.command.Command.TheVariants.{Edit as edits, Report, Count, Begin}
use Rattle.script_lines.specs.declared.command.Command.TheVariants.{Commit, Abandon, Undo, Redo}
use Rattle.script_lines.specs.declared.command.Command.TheVariants.{Slice, Shapes, Nothing}

-- the edit that is asked for, if one is
abbrev pub edit_in : Command → Option Edit
edit_in (edits edit) = Some edit
edit_in Report = None
edit_in Count = None
edit_in Begin = None
edit_in Commit = None
edit_in Abandon = None
edit_in Undo = None
edit_in Redo = None
edit_in (Slice shape node) = None
edit_in (Shapes name) = None
edit_in Nothing = None
