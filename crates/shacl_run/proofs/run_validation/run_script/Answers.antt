use Rattle.std.proofs.Common.{None, refl, sym, ap, ◌∙◌, subst, arith, inl}
use Rattle.std.specs.Option.{option_map}
use Rattle.shx_outside.specs.declared.role.Role.TheVariants.{Script}
use Rattle.shx_outside.specs.Counted.{Rose}
use Rattle.shx_term.specs.declared.limits.Limits.{Limits}
use Rattle.text_input.specs.Lines.{script_lines}
use Rattle.text_input.specs.TextRead.{TakesWithin}
use Rattle.ttl_meaning.specs.declared.document.Document.{Document}
use Rattle.text_output.specs.declared.format.Format.{Format}
use Rattle.shacl_run.specs.declared.status.Status.TheVariants.{InputFault, Memory as no_memory, WriteFault}
use Rattle.shape_text.specs.declared.stop.Stop.TheVariants.{Input, Memory, Write}
use Rattle.script_run.specs.Loaded.{library_of}
use Rattle.script_run.specs.ScriptState.{with_loads}
use Rattle.std.specs.Prelude.{◌⊎◌}
use Rattle.shacl_run.specs.inner.Ends.{EndsByPattern}
use Rattle.shacl_run.specs.inner.Serving.{LinesAreReadAt, due_at}
use Rattle.shacl_run.specs.Status.{IsCutShort}
use Rattle.shacl_run.specs.inner.Stops.{end_status}
use Rattle.shape_text.specs.Names.{HasNamesOf}
use Rattle.shacl_run.specs.Outside.{outside}
use Rattle.shacl_run.specs.Run.{validation_output}
use Rattle.shacl_run.proofs.AdmittedLemmas.{AreAdmitted-stays}
use Rattle.shacl_run.proofs.EndLemmas.{Ends-input, Ends-memory, passed_on}
use Rattle.shape_text.proofs.OpenedLemmas.{next_bounded, next_rose}
use Rattle.shacl_run.proofs.OpenedLemmas.{ServesInputs-same, ServesInputs-script, ServesInputs-then}
use Rattle.shacl_run.proofs.OpenedLemmas.{not_opened}
use Rattle.shacl_run.proofs.LineAdmitsLemmas.{library_same}
use Rattle.shacl_run.proofs.PatternEndLemmas.{EndsByPattern-behind}
use Rattle.shacl_run.proofs.ServedLemmas.{cut_unanswered, reported_answered, stop_words}
use Rattle.shacl_run.proofs.ValidationLemmas.{IsValidation-within}
use Rattle.shacl_run.proofs.ValidationRunLemmas.{Ends-behind_report, Ends-within_report, RunsScript-served}
use Rattle.shacl_run.proofs.ValidationRunLemmas.{RunsScript-untold, validation_prefixed}
use Rattle.shacl_run.proofs.run_validation.run_script.Goals as goal

-- ---- the graph was not evaluated

pub returns-in_err-script-clause-serves : goal.returns-in_err-script-clause-serves
returns-in_err-script-clause-serves g c = λ manner s same is lines.
    let inputs = g.I.Inputs.state c.args.host.now in
    let sink = g.O.Sink.state c.args.out.now in
    let patterns = g.P.PatternHost.state c.args.patterns.now in
    let before = outside inputs sink patterns c.args.nested.now c.args.steps.now in
    let after = outside inputs sink patterns c.open.new.nested c.open.new.steps in
    let notices = c.args.validation.passed_over in
    let script = inputs.text c.args.name.now in
    rw (passed_on c.from_residual.result Memory c.from_residual.ensures.1)
    (RunsScript-untold manner notices s (library_of c.args.base inputs) script no_memory before after tt refl
    (not_opened (inputs.opens Script))
    (λ rest. Ends-memory (option_map (validation_output manner notices (with_loads rest s)) script) before
    after (record { sink = refl; inputs = refl })))

pub returns-in_err-script-clause-causes : goal.returns-in_err-script-clause-causes
returns-in_err-script-clause-causes g c = λ limits s is.
    let inputs = g.I.Inputs.state c.args.host.now in
    let sink = g.O.Sink.state c.args.out.now in
    let patterns = g.P.PatternHost.state c.args.patterns.now in
    let before = outside inputs sink patterns c.args.nested.now c.args.steps.now in
    let after = outside inputs sink patterns c.open.new.nested c.open.new.steps in
    rw (passed_on c.from_residual.result Memory c.from_residual.ensures.1)
    (Ends-memory None before after (record { sink = refl; inputs = refl }))

pub returns-in_err-script-clause-read : goal.returns-in_err-script-clause-read
returns-in_err-script-clause-read g c = λ answered calm.
    let exit = c.from_residual in
    absurd (cut_unanswered exit.result Memory (passed_on exit.result Memory exit.ensures.1) answered)

pub returns-in_err-script-clause-read_to_end : goal.returns-in_err-script-clause-read_to_end
returns-in_err-script-clause-read_to_end g c = λ reported.
    let exit = c.from_residual in
    absurd (cut_unanswered exit.result Memory (passed_on exit.result Memory exit.ensures.1)
    (reported_answered _ reported))

pub returns-in_err-script-clause-opened : goal.returns-in_err-script-clause-opened
returns-in_err-script-clause-opened g c = λ reported.
    let exit = c.from_residual in
    absurd (cut_unanswered exit.result Memory (passed_on exit.result Memory exit.ensures.1)
    (reported_answered _ reported))

pub returns-in_err-script-clause-words : goal.returns-in_err-script-clause-words
returns-in_err-script-clause-words g c =
    let exit = c.from_residual in
    rw (passed_on exit.result Memory exit.ensures.1) (stop_words Memory)

pub returns-in_err-script-clause-within : goal.returns-in_err-script-clause-within
returns-in_err-script-clause-within g c = λ opened. absurd (not_opened _ opened)

pub returns-in_err-script-clause-inputs : goal.returns-in_err-script-clause-inputs
returns-in_err-script-clause-inputs g c =
    ServesInputs-same c.args.limits.now _ (g.I.Inputs.state c.args.host.now)

pub returns-in_err-script-clause-patterns : goal.returns-in_err-script-clause-patterns
returns-in_err-script-clause-patterns g c = inl (inl refl)

-- ---- the report was not put whole

pub returns-in_err-write_current-clause-serves : goal.returns-in_err-write_current-clause-serves
returns-in_err-write_current-clause-serves g c = λ manner s same is lines.
    let inputs = g.I.Inputs.state c.args.host.now in
    let patterns = g.P.PatternHost.state c.args.patterns.now in
    let before = outside inputs (g.O.Sink.state c.args.out.now) patterns c.args.nested.now c.args.steps.now in
    let after = outside inputs (g.O.Sink.state c.write_current.new.out) patterns c.open.new.nested
    c.open.new.steps in
    let notices = c.args.validation.passed_over in
    let script = inputs.text c.args.name.now in
    let exit = c.from_residual-in_err-write_current in
    let kept = c.in_ok-script.ensures.opened manner.limits manner.format s
    (ap (λ (l : Limits). l.history) same) is in
    let writes = c.in_err-write_current.ensures.first manner.limits manner.format s kept in
    rw (passed_on exit.result Write exit.ensures.1)
    (RunsScript-untold manner notices s (library_of c.args.base inputs) script WriteFault before after tt refl
    (not_opened (inputs.opens Script))
    (λ rest.
    let t = with_loads rest s in
    Ends-within_report manner.format notices t (option_map (validation_output manner notices t) script)
    (due_at manner t manner.limits.script script) (validation_prefixed manner notices t script) before after
    refl writes.err))

pub returns-in_err-write_current-clause-causes : goal.returns-in_err-write_current-clause-causes
returns-in_err-write_current-clause-causes g c = λ limits s is.
    let validation = c.args.validation in
    let inputs = g.I.Inputs.state c.args.host.now in
    let patterns = g.P.PatternHost.state c.args.patterns.now in
    let before = outside inputs (g.O.Sink.state c.args.out.now) patterns c.args.nested.now c.args.steps.now in
    let after = outside inputs (g.O.Sink.state c.write_current.new.out) patterns c.open.new.nested
    c.open.new.steps in
    let exit = c.from_residual-in_err-write_current in
    let within_limits : Limits = record limits { history = c.args.limits.now.history } in
    let kept = c.in_ok-script.ensures.opened within_limits validation.format s refl
    (IsValidation-within limits validation.format s validation is within_limits refl refl) in
    let writes = c.in_err-write_current.ensures.first within_limits validation.format s kept in
    rw (passed_on exit.result Write exit.ensures.1)
    (Ends-within_report validation.format validation.passed_over s None None tt before after refl writes.err)

pub returns-in_err-write_current-clause-read : goal.returns-in_err-write_current-clause-read
returns-in_err-write_current-clause-read g c = λ answered calm.
    let exit = c.from_residual-in_err-write_current in
    absurd (cut_unanswered exit.result Write (passed_on exit.result Write exit.ensures.1) answered)

pub returns-in_err-write_current-clause-read_to_end : goal.returns-in_err-write_current-clause-read_to_end
returns-in_err-write_current-clause-read_to_end g c = λ reported.
    let exit = c.from_residual-in_err-write_current in
    absurd (cut_unanswered exit.result Write (passed_on exit.result Write exit.ensures.1)
    (reported_answered _ reported))

pub returns-in_err-write_current-clause-opened : goal.returns-in_err-write_current-clause-opened
returns-in_err-write_current-clause-opened g c = λ reported.
    let exit = c.from_residual-in_err-write_current in
    absurd (cut_unanswered exit.result Write (passed_on exit.result Write exit.ensures.1)
    (reported_answered _ reported))

pub returns-in_err-write_current-clause-words : goal.returns-in_err-write_current-clause-words
returns-in_err-write_current-clause-words g c =
    let exit = c.from_residual-in_err-write_current in
    rw (passed_on exit.result Write exit.ensures.1) (stop_words Write)

pub returns-in_err-write_current-clause-within : goal.returns-in_err-write_current-clause-within
returns-in_err-write_current-clause-within g c = λ opened. absurd (not_opened _ opened)

pub returns-in_err-write_current-clause-inputs : goal.returns-in_err-write_current-clause-inputs
returns-in_err-write_current-clause-inputs g c =
    ServesInputs-same c.args.limits.now _ (g.I.Inputs.state c.args.host.now)

pub returns-in_err-write_current-clause-patterns : goal.returns-in_err-write_current-clause-patterns
returns-in_err-write_current-clause-patterns g c = inl (inl refl)

-- ---- the script could not be opened

pub returns-in_err-open-clause-serves : goal.returns-in_err-open-clause-serves
returns-in_err-open-clause-serves g c = λ manner s same is lines.
    let inputs = g.I.Inputs.state c.args.host.now in
    let inputs' = g.I.Inputs.state c.open-2.new.self in
    let sink = g.O.Sink.state c.write_current.new.out in
    let patterns = g.P.PatternHost.state c.args.patterns.now in
    let before = outside inputs (g.O.Sink.state c.args.out.now) patterns c.args.nested.now c.args.steps.now in
    let within = outside inputs sink patterns c.open.new.nested c.open.new.steps in
    let after = outside inputs' sink patterns c.open.new.nested c.open.new.steps in
    let notices = c.args.validation.passed_over in
    let script = inputs.text c.args.name.now in
    let exit = c.from_residual-in_err-open in
    let kept = c.in_ok-script.ensures.opened manner.limits manner.format s
    (ap (λ (l : Limits). l.history) same) is in
    let writes = c.in_ok-write_current.ensures.first manner.limits manner.format s kept in
    rw (passed_on exit.result Input exit.ensures.1)
    (RunsScript-untold manner notices s (library_of c.args.base inputs) script InputFault before after tt refl
    (λ opened. omega (arith, opened, c.in_err-open.ensures.opens))
    (λ rest.
    let t = with_loads rest s in
    let later = due_at manner t manner.limits.script script in
    Ends-behind_report manner.format notices t (option_map (validation_output manner notices t) script)
    later (validation_prefixed manner notices t script) InputFault before within after writes.ok refl
    (c.in_ok-script.ensures.work manner.limits manner.format s is)
    (Ends-input later within after refl c.in_err-open.ensures.cause.failed)))

pub returns-in_err-open-clause-patterns : goal.returns-in_err-open-clause-patterns
returns-in_err-open-clause-patterns g c = inl (inl refl)

pub returns-in_err-open-clause-inputs : goal.returns-in_err-open-clause-inputs
returns-in_err-open-clause-inputs g c =
    ServesInputs-script c.args.limits.now _ (g.I.Inputs.state c.args.host.now)
    (g.I.Inputs.state c.open-2.new.self) c.in_err-open.ensures.others c.in_err-open.ensures.texts

pub returns-in_err-open-clause-causes : goal.returns-in_err-open-clause-causes
returns-in_err-open-clause-causes g c = λ limits s is.
    let validation = c.args.validation in
    let inputs = g.I.Inputs.state c.args.host.now in
    let patterns = g.P.PatternHost.state c.args.patterns.now in
    let sink = g.O.Sink.state c.write_current.new.out in
    let before = outside inputs (g.O.Sink.state c.args.out.now) patterns c.args.nested.now c.args.steps.now in
    let within = outside inputs sink patterns c.open.new.nested c.open.new.steps in
    let after = outside (g.I.Inputs.state c.open-2.new.self) sink patterns c.open.new.nested
    c.open.new.steps in
    let exit = c.from_residual-in_err-open in
    let within_limits : Limits = record limits { history = c.args.limits.now.history } in
    let kept = c.in_ok-script.ensures.opened within_limits validation.format s refl
    (IsValidation-within limits validation.format s validation is within_limits refl refl) in
    let writes = c.in_ok-write_current.ensures.first within_limits validation.format s kept in
    rw (passed_on exit.result Input exit.ensures.1)
    (Ends-behind_report validation.format validation.passed_over s None None tt InputFault before within after
    writes.ok refl (c.in_ok-script.ensures.work limits validation.format s is)
    (Ends-input None within after refl c.in_err-open.ensures.cause.failed))

pub returns-in_err-open-clause-read : goal.returns-in_err-open-clause-read
returns-in_err-open-clause-read g c = λ answered calm.
    let exit = c.from_residual-in_err-open in
    absurd (cut_unanswered exit.result Input (passed_on exit.result Input exit.ensures.1) answered)

pub returns-in_err-open-clause-read_to_end : goal.returns-in_err-open-clause-read_to_end
returns-in_err-open-clause-read_to_end g c = λ reported.
    let exit = c.from_residual-in_err-open in
    absurd (cut_unanswered exit.result Input (passed_on exit.result Input exit.ensures.1)
    (reported_answered _ reported))

pub returns-in_err-open-clause-opened : goal.returns-in_err-open-clause-opened
returns-in_err-open-clause-opened g c = λ reported.
    let exit = c.from_residual-in_err-open in
    absurd (cut_unanswered exit.result Input (passed_on exit.result Input exit.ensures.1)
    (reported_answered _ reported))

pub returns-in_err-open-clause-words : goal.returns-in_err-open-clause-words
returns-in_err-open-clause-words g c =
    let exit = c.from_residual-in_err-open in
    rw (passed_on exit.result Input exit.ensures.1) (stop_words Input)

pub returns-in_err-open-clause-within : goal.returns-in_err-open-clause-within
returns-in_err-open-clause-within g c = λ opened. absurd (omega (arith, opened, c.in_err-open.ensures.opens))

-- ---- the script was opened

pub serve-requires-clause-admitted : goal.serve-requires-clause-admitted
serve-requires-clause-admitted g c =
    let limits = c.args.limits.now in
    let inputs = g.I.Inputs.state c.args.host.now in
    let mid = g.I.Inputs.state c.open-2.new.self in
    let opened = c.in_ok-open.ensures in
    let script = c.in_ok-script.script in
    let lines = option_map (script_lines limits.script) in
    AreAdmitted-stays limits opened.admitted (record { each = λ flags text built. built })
    (library_of c.args.base inputs) (library_of script.base mid) (lines (inputs.text c.args.name.now))
    (lines (mid.rest Script))
    (library_same c.args.base script.base inputs mid c.in_ok-script.ensures.base opened.texts)
    (ap lines opened.rest) c.requires.loads

pub returns-clause-serves : goal.returns-clause-serves
returns-clause-serves g c = λ manner s same is lines.
    let inputs = g.I.Inputs.state c.args.host.now in
    let mid = g.I.Inputs.state c.open-2.new.self in
    let patterns = g.P.PatternHost.state c.args.patterns.now in
    let before = outside inputs (g.O.Sink.state c.args.out.now) patterns c.args.nested.now c.args.steps.now in
    let within = outside mid (g.O.Sink.state c.write_current.new.out) patterns c.open.new.nested
    c.open.new.steps in
    let after = outside (g.I.Inputs.state c.serve.new.host) (g.O.Sink.state c.serve.new.out)
    (g.P.PatternHost.state c.serve.new.patterns) c.serve.new.nested c.serve.new.steps in
    let limit = c.args.limits.now.script in
    let opened = c.in_ok-open.ensures in
    let script = c.in_ok-script.script in
    let kept = c.in_ok-script.ensures.opened manner.limits manner.format s
    (ap (λ (l : Limits). l.history) same) is in
    let writes = c.in_ok-write_current.ensures.first manner.limits manner.format s kept in
    RunsScript-served manner c.args.validation.passed_over s (library_of c.args.base inputs)
    (library_of script.base mid)
    (library_same c.args.base script.base inputs mid c.in_ok-script.ensures.base opened.texts) limit
    (ap (λ (l : Limits). l.script) (sym same)) (inputs.text c.args.name.now) (end_status c.serve.result)
    before within after opened.rest writes.ok opened.cause.quiet
    (c.in_ok-script.ensures.work manner.limits manner.format s is) refl
    (c.serve.ensures.serves manner s same kept
    (subst (LinesAreReadAt manner s limit) (sym opened.rest) lines))

pub returns-clause-causes : goal.returns-clause-causes
returns-clause-causes g c = λ limits s is.
    let validation = c.args.validation in
    let inputs = g.I.Inputs.state c.args.host.now in
    let patterns = g.P.PatternHost.state c.args.patterns.now in
    let before = outside inputs (g.O.Sink.state c.args.out.now) patterns c.args.nested.now c.args.steps.now in
    let within =
    outside (g.I.Inputs.state c.open-2.new.self) (g.O.Sink.state c.write_current.new.out) patterns
    c.open.new.nested c.open.new.steps in
    let after = outside (g.I.Inputs.state c.serve.new.host) (g.O.Sink.state c.serve.new.out)
    (g.P.PatternHost.state c.serve.new.patterns) c.serve.new.nested c.serve.new.steps in
    let within_limits : Limits = record limits { history = c.args.limits.now.history } in
    let kept = c.in_ok-script.ensures.opened within_limits validation.format s refl
    (IsValidation-within limits validation.format s validation is within_limits refl refl) in
    let writes = c.in_ok-write_current.ensures.first within_limits validation.format s kept in
    Ends-behind_report validation.format validation.passed_over s None None tt (end_status c.serve.result)
    before within after writes.ok c.in_ok-open.ensures.cause.quiet
    (c.in_ok-script.ensures.work limits validation.format s is) c.serve.ensures.causes

pub returns-clause-read : goal.returns-clause-read
returns-clause-read g c = λ answered calm end names.
    (rw c.in_ok-open.ensures.rest at c.serve.ensures.read) answered calm end
    (subst (λ (document : Document). HasNamesOf end document) (sym c.in_ok-script.ensures.names) names)

pub returns-clause-opened : goal.returns-clause-opened
returns-clause-opened g c = λ reported.
    let n = (g.I.Inputs.state c.args.host.now).opens Script in
    subst (Rose n) (sym (c.serve.ensures.opens ∙ c.in_ok-open.ensures.opens)) (next_rose n)

pub returns-clause-within : goal.returns-clause-within
returns-clause-within g c = λ opened.
    let last = g.I.Inputs.state c.serve.new.host in
    let limit = c.args.limits.now.script in
    let whole = c.serve.ensures.whole ∙ c.in_ok-open.ensures.whole in
    subst (λ text. TakesWithin text (last.rest Script) limit) (sym whole)
    (rw c.in_ok-open.ensures.rest at c.serve.ensures.within)

pub returns-clause-once : goal.returns-clause-once
returns-clause-once g c =
    let n = (g.I.Inputs.state c.args.host.now).opens Script in
    omega (arith, next_bounded n, c.serve.ensures.opens, c.in_ok-open.ensures.opens)

pub returns-clause-patterns : goal.returns-clause-patterns
returns-clause-patterns g c =
    let patterns = g.P.PatternHost.state c.args.patterns.now in
    let before = outside (g.I.Inputs.state c.args.host.now) (g.O.Sink.state c.args.out.now) patterns
    c.args.nested.now c.args.steps.now in
    let within =
    outside (g.I.Inputs.state c.open-2.new.self) (g.O.Sink.state c.write_current.new.out) patterns
    c.open.new.nested c.open.new.steps in
    let after = outside (g.I.Inputs.state c.serve.new.host) (g.O.Sink.state c.serve.new.out)
    (g.P.PatternHost.state c.serve.new.patterns) c.serve.new.nested c.serve.new.steps in
    let (text, writes) = c.in_ok-write_current.ensures.puts in
    subst (λ (format : Format). EndsByPattern format (end_status c.serve.result) before after
    ⊎ IsCutShort (end_status c.serve.result)) c.in_ok-script.ensures.format
    (EndsByPattern-behind c.in_ok-script.script.format text (end_status c.serve.result) before within after
    writes.ok c.in_ok-open.ensures.cause.quiet refl c.serve.ensures.patterns)

pub returns-clause-inputs : goal.returns-clause-inputs
returns-clause-inputs g c =
    ServesInputs-then
    (ServesInputs-script c.args.limits.now (end_status c.serve.result) (g.I.Inputs.state c.args.host.now)
    (g.I.Inputs.state c.open-2.new.self) c.in_ok-open.ensures.others c.in_ok-open.ensures.texts)
    c.serve.ensures.inputs

pub returns-clause-read_to_end : goal.returns-clause-read_to_end
returns-clause-read_to_end g c = λ reported opened. c.serve.ensures.read_to_end reported
