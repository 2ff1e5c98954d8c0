use Rattle.std.proofs.Common.{Ok, ◌∙◌}
use Rattle.std.proofs.lemmas.Result.{IfErr-weaker}
use Rattle.script_run.specs.Loaded.{library_of}
use Rattle.script_run.specs.Work.{evaluating}
use Rattle.script_run.proofs.ObeysLemmas.{LoadsWithin-none, MovesOn-answered, Obeys-alone, TellsRefusal-none}
use Rattle.script_run.proofs.ObeysLemmas.{cut_by_shapes, loads_nothing}
use Rattle.script_run.proofs.reply.do_command.Goals as goal

pub returns-in-Shapes-clause-stopped : goal.returns-in-Shapes-clause-stopped
returns-in-Shapes-clause-stopped g c = λ manner s is.
    IfErr-weaker c.take_shapes.result _ _ (λ stop ends input.
    cut_by_shapes manner.limits s c.args.command _ c.in-Shapes.is (ends input))
    (c.take_shapes.ensures.stopped manner s is)

pub returns-in_ok-do_alone-in_default-clause-replies : goal.returns-in_ok-do_alone-in_default-clause-replies
returns-in_ok-do_alone-in_default-clause-replies g c = λ manner s same is.
    let script = c.args.script.now in
    let done = c.do_alone in
    let library = library_of script.base (g.I.Inputs.state c.args.host.now) in
    Obeys-alone manner library s (Ok c.args.command) c.in_ok-do_alone-in_default.field-0 done.new.script
    (g.P.PatternHost.state c.args.patterns.now).refused (evaluating c.args.steps.now c.args.nested.now)
    (evaluating done.new.steps done.new.nested) (loads_nothing c.args.command c.in_default.not-Shapes)
    (done.ensures.running ∙ c.requires.running) (c.in_ok-do_alone-in_default.ensures.replies manner s same is)

pub returns-in_ok-do_alone-in_default-clause-moves : goal.returns-in_ok-do_alone-in_default-clause-moves
returns-in_ok-do_alone-in_default-clause-moves g c =
    MovesOn-answered c.in_ok-do_alone-in_default.field-0 c.args.script.now c.do_alone.new.script
    (evaluating c.args.steps.now c.args.nested.now) (evaluating c.do_alone.new.steps c.do_alone.new.nested)
    c.in_ok-do_alone-in_default.ensures.moves

pub returns-in_ok-do_alone-in_default-clause-patterns : goal.returns-in_ok-do_alone-in_default-clause-patterns
returns-in_ok-do_alone-in_default-clause-patterns g c =
    TellsRefusal-none (g.P.PatternHost.state c.args.patterns.now).faults c.do_alone.new.script.halted
    c.in_ok-do_alone-in_default.field-0 (c.do_alone.ensures.running ∙ c.requires.running)

pub returns-in_ok-do_alone-in_default-clause-inputs : goal.returns-in_ok-do_alone-in_default-clause-inputs
returns-in_ok-do_alone-in_default-clause-inputs g c =
    LoadsWithin-none c.args.limits.now.text (g.I.Inputs.state c.args.host.now) _
