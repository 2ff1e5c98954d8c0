-- Replies to lines, and which of them may load a text.
use Rattle.std.specs.Prelude.{◌≡◌, ◌≢◌, ℕ, Bool, false, IfOk, List, [], ◌∷◌, None, OnOk, Option, Some, Result}
use Rattle.std.specs.Prelude.{Ok, Err}
use Rattle.std.proofs.Common.{refl, sym, ap, ◌∙◌, inl, subst}
use Rattle.shx_outside.specs.declared.flags.Flags.{Flags}
use Rattle.shx_outside.specs.declared.role.Role.TheVariants.{Shapes as of_shapes}
use Rattle.shx_outside.specs.Outside.{FlaggedText, InputState}
use Rattle.shx_outside.proofs.ToldLemmas.{OthersStay-same}
use Rattle.shx_term.specs.declared.limits.Limits.{Limits}
use Rattle.shx_term.proofs.MemberLemmas.{Contains-head}
use Rattle.ttl_meaning.specs.declared.document.Document.{Document}
use Rattle.script_lines.specs.declared.command.Command.{Command}
use Rattle.script_lines.specs.declared.command.Command.TheVariants.{Edit as edits, Report, Count, Begin}
use Rattle.script_lines.specs.declared.command.Command.TheVariants.{Commit, Abandon, Undo, Redo, Slice}
use Rattle.script_lines.specs.declared.command.Command.TheVariants.{Nothing, Shapes}
use Rattle.script_lines.specs.declared.fault.LineFault.{LineFault}
use Rattle.script_lines.specs.Lines.{IsLineRead}
use Rattle.script_run.specs.declared.reply.Reply.{Reply}
use Rattle.script_run.specs.declared.script_run.ScriptRun.{ScriptRun}
use Rattle.script_run.specs.Admitted.{AreAdmitted, IsCommandAdmitted}
use Rattle.script_run.specs.Hosts.{LoadsWithin, ReadsShapesOut, TellsRefusal}
use Rattle.script_run.specs.Loaded.{Library, LoadsNothing}
use Rattle.script_run.specs.Manner.{Manner}
use Rattle.script_run.specs.Replies.{IsCutBy, MovesOn, Obeys, Replies}
use Rattle.script_run.specs.Script.{reading_step, shapes_step}
use Rattle.script_run.specs.ScriptState.{ScriptState, with_loads}
use Rattle.script_run.specs.Work.{Work}
use Rattle.script_run.proofs.LoadsLemmas.{reading_beside, reading_loads}

-- a reply to a line that loads nothing is that to it, whatever comes of texts
pub Obeys-alone : (manner : Manner) (library : Library) (s : ScriptState)
    (reading : Result Command LineFault) (reply : Reply) (script : ScriptRun) (last : Option FlaggedText)
    (before after : Work) → IfOk reading LoadsNothing → script.halted ≡ false
    → Replies manner (reading_step manner.limits s reading) reply script before after
    → Obeys manner library s reading reply script last before after
Obeys-alone manner library s reading reply script last before after alone running replies = record {
  told = [];
  step = reading_step manner.limits s reading;
  is = λ rest. reading_beside manner.limits s rest reading alone;
  right = λ rest refused ends.
      reading_loads ⊥ manner.limits library refused (with_loads rest s) reading alone;
  halts = sym running ∙ replies.stored.halted_is;
  replies = replies;
}

-- whatever else may come of a line, it moves on where it is answered
pub MovesOn-answered : {E F : Type 0} (reply : Reply) (old new : ScriptRun) (before after : Work)
    → MovesOn {E = E} (Ok reply) old new before after → MovesOn {E = F} (Ok reply) old new before after
MovesOn-answered reply old new before after moves = record {
  names = moves.names;
  base = moves.base;
  format = moves.format;
  goes_on = moves.goes_on;
  line = moves.line;
  risen = moves.risen;
}

-- a line that loads nothing leaves the inputs alone
out_still : {T E : Type 0} (Out : Type 0) (result : Result T E) → OnOk result (Out → Out)
out_still Out (Ok value) = λ out. out
out_still Out (Err fault) = tt

pub LoadsWithin-none : {T E : Type 0} (most : ℕ) (inputs : InputState) (result : Result T E)
    → LoadsWithin most inputs inputs result
LoadsWithin-none most inputs result = record {
  opens = inl refl;
  within = λ within. within;
  read_out = out_still (ReadsShapesOut most inputs) result;
  others = OthersStay-same of_shapes inputs;
  texts = record { each = λ name. refl };
}

-- and the pattern host, and the script goes on
pub TellsRefusal-none : (count : ℕ) (halted : Bool) (reply : Reply) → halted ≡ false
    → TellsRefusal count count halted reply
TellsRefusal-none count halted reply running =
    subst (λ b. TellsRefusal count count b reply) (sym running) refl

-- a text of which nothing is told cuts the script short, where no group is open
pub cut_by_shapes : (limits : Limits) (s : ScriptState) (command : Command) (name : List ℕ)
    → command ≡ Shapes name → s.group ≡ None → IsCutBy limits s command
cut_by_shapes limits s command name is none =
    subst (IsCutBy limits s) (sym is) (ap (shapes_step limits (with_loads [] s)) none)

-- no other command loads one
pub loads_nothing : (command : Command) → ((name : List ℕ) → command ≢ Shapes name) → LoadsNothing command
loads_nothing (edits edit) other = tt
loads_nothing Report other = tt
loads_nothing Count other = tt
loads_nothing Begin other = tt
loads_nothing Commit other = tt
loads_nothing Abandon other = tt
loads_nothing Undo other = tt
loads_nothing Redo other = tt
loads_nothing (Slice shape node) other = tt
loads_nothing (Shapes name) other = absurd (other name refl)
loads_nothing Nothing other = tt

-- what a line asks for is admitted, where it may load what it loads
pub command_admitted : (limits : Limits) (library : Library) (opens : List ℕ → Type 0)
    (builds : Flags → List ℕ → Type 0) (document : Document) (line : List ℕ) (command : Command)
    → IsLineRead limits document line (Ok command)
    → AreAdmitted limits library opens builds (Some (line ∷ []))
    → IsCommandAdmitted limits library opens builds command
command_admitted limits library opens builds document line (edits edit) read admitted = tt
command_admitted limits library opens builds document line Report read admitted = tt
command_admitted limits library opens builds document line Count read admitted = tt
command_admitted limits library opens builds document line Begin read admitted = tt
command_admitted limits library opens builds document line Commit read admitted = tt
command_admitted limits library opens builds document line Abandon read admitted = tt
command_admitted limits library opens builds document line Undo read admitted = tt
command_admitted limits library opens builds document line Redo read admitted = tt
command_admitted limits library opens builds document line (Slice shape node) read admitted = tt
command_admitted limits library opens builds document line (Shapes name) read admitted =
    admitted name (record {
      line = line;
      stands = Contains-head line [];
      document = document;
      read = read;
    })
command_admitted limits library opens builds document line Nothing read admitted = tt
