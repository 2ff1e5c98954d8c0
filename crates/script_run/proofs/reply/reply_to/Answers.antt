use Rattle.std.proofs.Common.{◌≡◌, Ok, Err, sym, subst, ◌∙◌}
use Rattle.std.specs.Prelude.{[], IfErr, IfOk, Result}
use Rattle.std.proofs.lemmas.Result.{IfOk-weaker}
use Rattle.shx_outside.specs.declared.role.Role.TheVariants.{Shapes}
use Rattle.script_lines.specs.declared.command.Command.{Command}
use Rattle.script_lines.specs.declared.fault.LineFault.{LineFault}
use Rattle.script_lines.specs.declared.fault.LineFault.TheVariants.{Line}
use Rattle.script_run.specs.LineReadings.{HasReading, IsReadBehind}
use Rattle.script_run.specs.Loaded.{library_of}
use Rattle.script_run.specs.Replies.{Obeys}
use Rattle.script_run.specs.Script.{is_cut, reading_step}
use Rattle.script_run.specs.ScriptState.{with_loads}
use Rattle.script_run.specs.Work.{evaluating}
use Rattle.shape_text.specs.declared.stop.Stop.TheVariants.{Input}
use Rattle.script_run.proofs.ObeysLemmas.{LoadsWithin-none, MovesOn-answered, Obeys-alone, TellsRefusal-none}
use Rattle.script_run.proofs.ObeysLemmas.{command_admitted}
use Rattle.script_run.proofs.reply.reply_to.Goals as goal

pub do_command-requires-clause-admitted : goal.do_command-requires-clause-admitted
do_command-requires-clause-admitted g c =
    let inputs = g.I.Inputs.state c.args.host.now in
    command_admitted c.args.limits.now (library_of c.args.script.now.base inputs)
    (g.I.Inputs.admits c.args.host.now Shapes) (g.P.PatternHost.admits c.args.patterns.now)
    c.args.script.now.document c.args.line.now c.in-Ok.command c.in-Ok.ensures.command c.requires.admitted

pub returns-in-Ok-clause-replies : goal.returns-in-Ok-clause-replies
returns-in-Ok-clause-replies g c = λ manner s same is told.
    let limits = c.args.limits.now in
    let line = c.args.line.now in
    let document = c.args.script.now.document in
    let command = c.in-Ok.command in
    let done = c.do_command in
    let library = library_of c.args.script.now.base (g.I.Inputs.state c.args.host.now) in
    let behind : IsReadBehind limits s.data_end line (Ok command) =
    record { document = document; names = is.names_are; read = c.in-Ok.ensures.command } in
    let one : manner.lines line ≡ Ok command =
    c.lines_are_read_once.ensures limits s.data_end line (manner.lines line) (Ok command) told behind in
    subst (λ (reading : Result Command LineFault). IfOk done.result (λ reply.
    Obeys manner library s reading reply done.new.script (g.P.PatternHost.state done.new.patterns).refused
    (evaluating c.args.steps.now c.args.nested.now) (evaluating done.new.steps done.new.nested))) (sym one)
    (done.ensures.replies manner s same is)

pub returns-in-Ok-clause-stopped : goal.returns-in-Ok-clause-stopped
returns-in-Ok-clause-stopped g c = λ manner s same is told.
    let limits = c.args.limits.now in
    let line = c.args.line.now in
    let document = c.args.script.now.document in
    let command = c.in-Ok.command in
    let behind : IsReadBehind limits s.data_end line (Ok command) =
    record { document = document; names = is.names_are; read = c.in-Ok.ensures.command } in
    let one : manner.lines line ≡ Ok command =
    c.lines_are_read_once.ensures limits s.data_end line (manner.lines line) (Ok command) told behind in
    subst (λ (reading : Result Command LineFault). IfErr c.do_command.result (λ stop. stop ≡ Input
    → reading_step manner.limits (with_loads [] s) reading ≡ is_cut (with_loads [] s))) (sym one)
    (c.do_command.ensures.stopped manner s is)

pub returns-in-Ok-clause-read : goal.returns-in-Ok-clause-read
returns-in-Ok-clause-read g c = λ end names.
    let document = c.args.script.now.document in
    let has : HasReading c.args.limits.now end c.args.line.now =
    (Ok c.in-Ok.command, record { document = document; names = names; read = c.in-Ok.ensures.command }) in
    IfOk-weaker c.do_command.result _ _ (λ reply counted. has) c.do_command.ensures.moves.line

pub returns-in-Err-Line-clause-replies : goal.returns-in-Err-Line-clause-replies
returns-in-Err-Line-clause-replies g c = λ manner s same is told.
    let limits = c.args.limits.now in
    let line = c.args.line.now in
    let document = c.args.script.now.document in
    let fault = Line c.in-Err-Line.code c.in-Err-Line.at in
    let said = c.refuse_line in
    let refused = rw c.in-Err-Line.field-0-is at c.in-Err-Line.ensures.refused in
    let work = evaluating c.args.steps.now c.args.nested.now in
    let library = library_of c.args.script.now.base (g.I.Inputs.state c.args.host.now) in
    let last = (g.P.PatternHost.state c.args.patterns.now).refused in
    let behind : IsReadBehind limits s.data_end line (Err fault) =
    record { document = document; names = is.names_are; read = refused (λ is. cc) } in
    let one : manner.lines line ≡ Err fault =
    c.lines_are_read_once.ensures limits s.data_end line (manner.lines line) (Err fault) told behind in
    subst (λ (reading : Result Command LineFault).
    Obeys manner library s reading said.result said.new.script last work work) (sym one)
    (Obeys-alone manner library s (Err fault) said.result said.new.script last work work tt
    (said.ensures.running ∙ c.requires.running)
    (rw (c.in-Err-Line.code-is, c.in-Err-Line.at-is) at (said.ensures.replies manner s work is)))

pub returns-in-Err-Line-clause-read : goal.returns-in-Err-Line-clause-read
returns-in-Err-Line-clause-read g c = λ end names.
    let document = c.args.script.now.document in
    let refused = rw c.in-Err-Line.field-0-is at c.in-Err-Line.ensures.refused in (
      Err (Line c.in-Err-Line.code c.in-Err-Line.at),
      record {
        document = document;
        names = names;
        read = refused (λ is. cc);
      },
    )

pub returns-in-Err-Line-clause-moves : goal.returns-in-Err-Line-clause-moves
returns-in-Err-Line-clause-moves g c =
    let said = c.refuse_line in
    let work = evaluating c.args.steps.now c.args.nested.now in
    MovesOn-answered said.result c.args.script.now said.new.script work work
    (said.ensures.moves c.requires.goes_on work)

pub returns-in-Err-Line-clause-patterns : goal.returns-in-Err-Line-clause-patterns
returns-in-Err-Line-clause-patterns g c =
    TellsRefusal-none (g.P.PatternHost.state c.args.patterns.now).faults c.refuse_line.new.script.halted
    c.refuse_line.result (c.refuse_line.ensures.running ∙ c.requires.running)

pub returns-in-Err-Line-clause-inputs : goal.returns-in-Err-Line-clause-inputs
returns-in-Err-Line-clause-inputs g c =
    LoadsWithin-none c.args.limits.now.text (g.I.Inputs.state c.args.host.now) _
