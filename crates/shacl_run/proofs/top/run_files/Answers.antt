use Rattle.std.proofs.Common.{◌≡◌, None, Some, inl, refl, subst, sym, ap, ◌∙◌, arith}
use Rattle.std.specs.Option.{option_map}
use Rattle.shx_outside.specs.declared.role.Role.TheVariants.{Data}
use Rattle.shx_outside.specs.Counted.{Rose}
use Rattle.text_input.specs.Lines.{script_lines}
use Rattle.command_words.specs.Asked.{asked_of}
use Rattle.text_output.specs.declared.format.Format.{Format}
use Rattle.script_run.specs.declared.validation.Validation.{Validation}
use Rattle.script_run.specs.Loaded.{library_of}
use Rattle.shape_text.specs.declared.stop.Stop.TheVariants.{Memory}
use Rattle.std.specs.Prelude.{◌⊎◌}
use Rattle.shacl_run.specs.inner.Ends.{EndsByPattern}
use Rattle.shacl_run.specs.inner.Serving.{HaveReadings, LinesAreReadAt, RunsScript}
use Rattle.shacl_run.specs.Status.{IsCutShort}
use Rattle.shacl_run.specs.inner.Stops.{end_status}
use Rattle.script_run.specs.Stored.{IsValidation}
use Rattle.shacl_run.specs.Outside.{outside}
use Rattle.shacl_run.specs.Run.{manner_of, refused, script_text}
use Rattle.shacl_run.specs.RunClauses.{IsOpenedBy}
use Rattle.shacl_run.proofs.AdmittedLemmas.{AreAdmitted-stays}
use Rattle.shacl_run.proofs.EndLemmas.{Ends-beside, Ends-memory, Ends-told, IsStill-itself, passed_on}
use Rattle.shacl_run.proofs.FilesLemmas.{by_pattern, files_opened, files_refused, opened_read}
use Rattle.shacl_run.proofs.FilesLemmas.{refused_read}
use Rattle.shacl_run.proofs.LineAdmitsLemmas.{library_same}
use Rattle.shacl_run.proofs.OpenedLemmas.{OpensInTurn-prepared, OpensInTurn-served, OpensInTurn-still}
use Rattle.shacl_run.proofs.OpenedLemmas.{ReadsAll-served, StaysWithin-prepared, StaysWithin-served}
use Rattle.shacl_run.proofs.OpenedLemmas.{StaysWithin-still, data_before, no_script, script_behind}
use Rattle.shacl_run.proofs.PatternEndLemmas.{EndsByPattern-beside}
use Rattle.shacl_run.proofs.ServedLemmas.{Ends-stopped, stop_words}
use Rattle.shacl_run.proofs.ValidationRunLemmas.{RunsScript-beside, script_text-fixed}
use Rattle.shacl_run.proofs.top.run_files.Goals as goal

-- ---- no memory for the base

pub returns-in_err-from_str-clause-causes : goal.returns-in_err-from_str-clause-causes
returns-in_err-from_str-clause-causes g c =
    let at = outside (g.H.Inputs.state c.args.host.now) (g.O.Sink.state c.args.out.now)
    (g.P.PatternHost.state c.args.patterns.now) c.args.nested.now c.args.steps.now in
    let exit = c.from_residual in
    rw (passed_on exit.result Memory exit.ensures.1) (Ends-memory None at at (IsStill-itself at))

pub returns-in_err-from_str-clause-opened : goal.returns-in_err-from_str-clause-opened
returns-in_err-from_str-clause-opened g c = OpensInTurn-still (g.H.Inputs.state c.args.host.now) _

pub returns-in_err-from_str-clause-within : goal.returns-in_err-from_str-clause-within
returns-in_err-from_str-clause-within g c =
    StaysWithin-still c.args.limits.now (g.H.Inputs.state c.args.host.now)

-- ---- what the parts require

pub prepare-requires-clause-patterns_admitted : goal.prepare-requires-clause-patterns_admitted
prepare-requires-clause-patterns_admitted g c =
    let base : c.new-base.result ≡ c.args.asked.now.base.now =
    c.new-base.ensures ∙ c.in_ok-from_str.ensures.ok in
    rw base c.requires.patterns

pub run_validation-requires-clause-loads : goal.run_validation-requires-clause-loads
run_validation-requires-clause-loads g c =
    let limits = c.args.limits.now in
    let asked = asked_of c.args.asked.now in
    let inputs = g.H.Inputs.state c.args.host.now in
    let mid = g.H.Inputs.state c.prepare.new.host in
    let base : c.new-base.result ≡ asked.base = c.new-base.ensures ∙ c.in_ok-from_str.ensures.ok in
    let texts = c.prepare.ensures.texts in
    let lines = option_map (script_lines limits.script) in
    AreAdmitted-stays limits c.prepare.ensures.admitted c.prepare.ensures.builds
    (library_of asked.base inputs) (library_of c.new-base.result mid)
    (lines (script_text inputs.text asked.files.script_file))
    (lines (script_text mid.text asked.files.script_file))
    (library_same asked.base c.new-base.result inputs mid base texts)
    (ap lines (script_text-fixed inputs.text mid.text asked.files.script_file texts.each)) c.requires.loads

-- ---- no validation was opened

pub returns-clause-causes : goal.returns-clause-causes
returns-clause-causes g c =
    let sink = g.O.Sink.state c.args.out.now in
    let before = outside (g.H.Inputs.state c.args.host.now) sink (g.P.PatternHost.state c.args.patterns.now)
    c.args.nested.now c.args.steps.now in
    let after = outside (g.H.Inputs.state c.prepare.new.host) sink
    (g.P.PatternHost.state c.prepare.new.patterns) c.args.nested.now c.args.steps.now in
    let cause = rw c.in-Err-Cut.field-0-is at c.in-Err-Cut.ensures.cause in
    rw c.in-Err-Cut.field-0-is (Ends-stopped Validation None c.in-Err-Cut.stop before after refl cause)

pub returns-clause-opened : goal.returns-clause-opened
returns-clause-opened g c =
    rw c.in-Err-Cut.field-0-is
    (OpensInTurn-prepared c.args.limits.now (g.H.Inputs.state c.args.host.now)
    (g.H.Inputs.state c.prepare.new.host) c.prepare.ensures.within _ (stop_words c.in-Err-Cut.stop))

pub returns-clause-within : goal.returns-clause-within
returns-clause-within g c =
    StaysWithin-prepared c.args.limits.now (g.H.Inputs.state c.args.host.now)
    (g.H.Inputs.state c.prepare.new.host) c.prepare.ensures.within

pub returns-in-Err-Told-clause-runs : goal.returns-in-Err-Told-clause-runs
returns-in-Err-Told-clause-runs g c = λ readings right.
    let inputs = g.H.Inputs.state c.args.host.now in
    let inputs' = g.H.Inputs.state c.prepare.new.host in
    let patterns = g.P.PatternHost.state c.args.patterns.now in
    let before = outside inputs (g.O.Sink.state c.args.out.now) patterns c.args.nested.now
    c.args.steps.now in
    let after = outside inputs' (g.O.Sink.state c.refuse.new.out)
    (g.P.PatternHost.state c.prepare.new.patterns) c.args.nested.now c.args.steps.now in
    let status = end_status c.refuse.result in
    let answer = c.in-Err-Told.answer in
    let pool = c.in-Err-Told.pool in
    let asked = asked_of c.args.asked.now in
    let cause = rw c.in-Err-Told.field-0-is at c.in-Err-Told.ensures.cause in
    let base : c.new-base.result ≡ asked.base = c.new-base.ensures ∙ c.in_ok-from_str.ensures.ok in
    let prepared = rw c.in-Err-Told.field-0-is at (rw base at c.in-Err-Told.ensures.prepared) in
    files_refused c.args.limits.now readings asked before after status (IsOpenedBy inputs inputs' Data) right
    (λ opened. opened) answer pool prepared
    (Ends-beside (Some (refused asked.format pool.terms answer)) status before after inputs inputs patterns
    patterns refl (sym cause) (rw c.in-Err-Told.field-0-is at (c.refuse.ensures.ends before)))
    c.refuse.ensures.output (no_script c.args.limits.now inputs inputs' c.prepare.ensures.within)

pub returns-in-Err-Told-clause-causes : goal.returns-in-Err-Told-clause-causes
returns-in-Err-Told-clause-causes g c =
    let inputs = g.H.Inputs.state c.args.host.now in
    let patterns = g.P.PatternHost.state c.args.patterns.now in
    let before = outside inputs (g.O.Sink.state c.args.out.now) patterns c.args.nested.now
    c.args.steps.now in
    let after = outside (g.H.Inputs.state c.prepare.new.host) (g.O.Sink.state c.refuse.new.out)
    (g.P.PatternHost.state c.prepare.new.patterns) c.args.nested.now c.args.steps.now in
    let status = end_status c.refuse.result in
    let cause = rw c.in-Err-Told.field-0-is at c.in-Err-Told.ensures.cause in
    Ends-beside None status before after inputs inputs patterns patterns refl (sym cause)
    (Ends-told None _ status before (record before { sink = after.sink }) tt (c.refuse.ensures.ends before))

pub returns-in-Err-Told-clause-patterns : goal.returns-in-Err-Told-clause-patterns
returns-in-Err-Told-clause-patterns g c =
    let inputs = g.H.Inputs.state c.args.host.now in
    let patterns = g.P.PatternHost.state c.args.patterns.now in
    let before = outside inputs (g.O.Sink.state c.args.out.now) patterns c.args.nested.now
    c.args.steps.now in
    let after = outside (g.H.Inputs.state c.prepare.new.host) (g.O.Sink.state c.refuse.new.out)
    (g.P.PatternHost.state c.prepare.new.patterns) c.args.nested.now c.args.steps.now in
    let status = end_status c.refuse.result in
    let cause = rw c.in-Err-Told.field-0-is at c.in-Err-Told.ensures.cause in
    let stays = rw c.in-Err-Told.field-0-is at c.in-Err-Told.ensures.patterns in
    inl (by_pattern c.args.asked.now.format c.in-Err-Told.pool.terms c.in-Err-Told.answer status before after
    stays
    (Ends-beside _ status before after inputs inputs patterns patterns refl (sym cause)
    (rw c.in-Err-Told.field-0-is at (c.refuse.ensures.ends before))))

pub returns-in-Err-Told-clause-read : goal.returns-in-Err-Told-clause-read
returns-in-Err-Told-clause-read g c = λ answered.
    let asked = asked_of c.args.asked.now in
    let before = outside (g.H.Inputs.state c.args.host.now) (g.O.Sink.state c.args.out.now)
    (g.P.PatternHost.state c.args.patterns.now) c.args.nested.now c.args.steps.now in
    let after = outside (g.H.Inputs.state c.prepare.new.host) (g.O.Sink.state c.refuse.new.out)
    (g.P.PatternHost.state c.prepare.new.patterns) c.args.nested.now c.args.steps.now in
    let base : c.new-base.result ≡ asked.base = c.new-base.ensures ∙ c.in_ok-from_str.ensures.ok in
    let prepared = rw c.in-Err-Told.field-0-is at (rw base at c.in-Err-Told.ensures.prepared) in
    refused_read c.args.limits.now asked before after c.in-Err-Told.answer c.in-Err-Told.pool
    (prepared.read (λ cut. cut))

pub returns-in-Err-Told-clause-opened : goal.returns-in-Err-Told-clause-opened
returns-in-Err-Told-clause-opened g c =
    OpensInTurn-prepared c.args.limits.now (g.H.Inputs.state c.args.host.now)
    (g.H.Inputs.state c.prepare.new.host) c.prepare.ensures.within (end_status c.refuse.result)
    c.refuse.ensures.words

pub returns-in-Err-Told-clause-within : goal.returns-in-Err-Told-clause-within
returns-in-Err-Told-clause-within g c =
    StaysWithin-prepared c.args.limits.now (g.H.Inputs.state c.args.host.now)
    (g.H.Inputs.state c.prepare.new.host) c.prepare.ensures.within

-- ---- a validation was opened

pub returns-in-Ok-clause-causes : goal.returns-in-Ok-clause-causes
returns-in-Ok-clause-causes g c =
    let limits = c.args.limits.now in
    let mid = g.H.Inputs.state c.prepare.new.host in
    let last = g.H.Inputs.state c.run_validation.new.host in
    let patterns = g.P.PatternHost.state c.prepare.new.patterns in
    let patterns' = g.P.PatternHost.state c.run_validation.new.patterns in
    let before = outside (g.H.Inputs.state c.args.host.now) (g.O.Sink.state c.args.out.now)
    (g.P.PatternHost.state c.args.patterns.now) c.args.nested.now c.args.steps.now in
    let after = outside last (g.O.Sink.state c.run_validation.new.out) patterns' c.run_validation.new.nested
    c.run_validation.new.steps in
    let validation = c.in-Ok.validation in
    let stores = c.in-Ok.ensures.stored in
    Ends-beside None (end_status c.run_validation.result) before after mid last patterns patterns'
    c.in-Ok.ensures.cause refl
    (c.run_validation.ensures.causes limits stores.state
    (subst (λ (format : Format). IsValidation limits format stores.state validation)
    (sym stores.stored.format_is) stores.stored))

pub returns-in-Ok-clause-runs : goal.returns-in-Ok-clause-runs
returns-in-Ok-clause-runs g c = λ readings right.
    let limits = c.args.limits.now in
    let asked = asked_of c.args.asked.now in
    let manner = manner_of limits readings asked.format in
    let inputs = g.H.Inputs.state c.args.host.now in
    let mid = g.H.Inputs.state c.prepare.new.host in
    let last = g.H.Inputs.state c.run_validation.new.host in
    let patterns = g.P.PatternHost.state c.args.patterns.now in
    let patterns' = g.P.PatternHost.state c.prepare.new.patterns in
    let before = outside inputs (g.O.Sink.state c.args.out.now) patterns c.args.nested.now
    c.args.steps.now in
    let within = outside mid (g.O.Sink.state c.args.out.now) patterns' c.args.nested.now c.args.steps.now in
    let after = outside last (g.O.Sink.state c.run_validation.new.out)
    (g.P.PatternHost.state c.run_validation.new.patterns) c.run_validation.new.nested
    c.run_validation.new.steps in
    let status = end_status c.run_validation.result in
    let validation = c.in-Ok.validation in
    let notices = validation.passed_over in
    let script = script_text inputs.text asked.files.script_file in
    let stores = c.in-Ok.ensures.stored in
    let cause = c.in-Ok.ensures.cause in
    let quiet = c.in-Ok.ensures.patterns in
    let prepares = c.prepare.ensures.within in
    let serves = c.run_validation.ensures.inputs in
    let texts = c.prepare.ensures.texts in
    let base : c.new-base.result ≡ asked.base = c.new-base.ensures ∙ c.in_ok-from_str.ensures.ok in
    let fixed = script_text-fixed inputs.text mid.text asked.files.script_file texts.each in
    files_opened limits readings asked before after status (IsOpenedBy inputs mid Data) right
    (data_before limits inputs mid prepares last status serves) patterns' validation
    (rw base at c.in-Ok.ensures.prepared)
    (omega (arith, quiet, c.run_validation.ensures.refusals))
    (Ends-beside None status before after mid last patterns' after.patterns cause refl
    (c.run_validation.ensures.causes limits stores.state
    (subst (λ (format : Format). IsValidation limits format stores.state validation)
    (sym stores.stored.format_is) stores.stored)))
    (λ s is lines. RunsScript-beside manner notices s (library_of asked.base inputs) script status before
    after mid patterns' cause quiet (script_behind limits inputs mid prepares last status serves)
    (subst (λ l. RunsScript manner l notices s script status within after)
    (library_same asked.base c.new-base.result inputs mid base texts)
    (subst (λ text. RunsScript manner (library_of c.new-base.result mid) notices s text status within after)
    fixed
    (c.run_validation.ensures.serves manner s refl is
    (subst (LinesAreReadAt manner s limits.script) (sym fixed) lines)))))

pub returns-in-Ok-clause-patterns : goal.returns-in-Ok-clause-patterns
returns-in-Ok-clause-patterns g c =
    let before = outside (g.H.Inputs.state c.args.host.now) (g.O.Sink.state c.args.out.now)
    (g.P.PatternHost.state c.args.patterns.now) c.args.nested.now c.args.steps.now in
    let after = outside (g.H.Inputs.state c.run_validation.new.host)
    (g.O.Sink.state c.run_validation.new.out) (g.P.PatternHost.state c.run_validation.new.patterns)
    c.run_validation.new.nested c.run_validation.new.steps in
    subst (λ (format : Format). EndsByPattern format (end_status c.run_validation.result) before after
    ⊎ IsCutShort (end_status c.run_validation.result)) c.in-Ok.ensures.stored.stored.format_is
    (EndsByPattern-beside c.in-Ok.validation.format (end_status c.run_validation.result) before after
    (g.H.Inputs.state c.prepare.new.host) (g.P.PatternHost.state c.prepare.new.patterns)
    c.in-Ok.ensures.cause c.in-Ok.ensures.patterns c.run_validation.ensures.patterns)

pub returns-in-Ok-clause-read : goal.returns-in-Ok-clause-read
returns-in-Ok-clause-read g c = λ answered.
    let limits = c.args.limits.now in
    let asked = asked_of c.args.asked.now in
    let inputs = g.H.Inputs.state c.args.host.now in
    let before = outside inputs (g.O.Sink.state c.args.out.now) (g.P.PatternHost.state c.args.patterns.now)
    c.args.nested.now c.args.steps.now in
    let after = outside (g.H.Inputs.state c.run_validation.new.host)
    (g.O.Sink.state c.run_validation.new.out) (g.P.PatternHost.state c.run_validation.new.patterns)
    c.run_validation.new.nested c.run_validation.new.steps in
    let fixed = script_text-fixed inputs.text (g.H.Inputs.state c.prepare.new.host).text
    asked.files.script_file c.prepare.ensures.texts.each in
    let base : c.new-base.result ≡ asked.base = c.new-base.ensures ∙ c.in_ok-from_str.ensures.ok in
    let prepared = rw base at c.in-Ok.ensures.prepared in
    opened_read limits asked before after c.in-Ok.validation (prepared.read (λ cut. cut))
    (λ calm end names. subst (HaveReadings limits end limits.script) fixed
    (c.run_validation.ensures.read answered
    (λ rose. calm (subst (λ n. Rose n after.patterns.faults) c.in-Ok.ensures.patterns rose)) end names))

pub returns-in-Ok-clause-read_to_end : goal.returns-in-Ok-clause-read_to_end
returns-in-Ok-clause-read_to_end g c = λ reported.
    let status = end_status c.run_validation.result in
    ReadsAll-served c.args.limits.now (g.H.Inputs.state c.args.host.now)
    (g.H.Inputs.state c.prepare.new.host) c.prepare.ensures.within
    (g.H.Inputs.state c.run_validation.new.host) status c.run_validation.ensures.inputs
    (asked_of c.args.asked.now).files reported c.in-Ok.ensures.ends
    (c.run_validation.ensures.opened reported) (c.run_validation.ensures.read_to_end reported)

pub returns-in-Ok-clause-opened : goal.returns-in-Ok-clause-opened
returns-in-Ok-clause-opened g c =
    OpensInTurn-served c.args.limits.now (g.H.Inputs.state c.args.host.now)
    (g.H.Inputs.state c.prepare.new.host) c.prepare.ensures.within
    (g.H.Inputs.state c.run_validation.new.host) (end_status c.run_validation.result)
    c.run_validation.ensures.inputs c.run_validation.ensures.once c.in-Ok.ensures.ends.data_opened
    c.run_validation.ensures.words

pub returns-in-Ok-clause-within : goal.returns-in-Ok-clause-within
returns-in-Ok-clause-within g c =
    StaysWithin-served c.args.limits.now (g.H.Inputs.state c.args.host.now)
    (g.H.Inputs.state c.prepare.new.host) c.prepare.ensures.within
    (g.H.Inputs.state c.run_validation.new.host) (end_status c.run_validation.result)
    c.run_validation.ensures.inputs c.run_validation.ensures.within
