use Rattle.std.proofs.Common.{None, refl, inl}
use Rattle.shx_outside.specs.declared.role.Role.TheVariants.{Script}
use Rattle.script_run.specs.Loaded.{library_of}
use Rattle.shacl_run.specs.Outside.{counts, outside}
use Rattle.shacl_run.proofs.OpenedLemmas.{ServesInputs-same, not_opened}
use Rattle.shacl_run.proofs.ValidationRunLemmas.{Ends-unscripted, RunsScript-unscripted, puts_in}
use Rattle.shacl_run.proofs.ValidationRunLemmas.{readings_empty}
use Rattle.shacl_run.proofs.run_validation.run_validation.Goals as goal

-- ---- no script is named

pub returns-in-None-clause-serves : goal.returns-in-None-clause-serves
returns-in-None-clause-serves g c = λ manner s same is lines.
    let validation = c.args.validation in
    let inputs = g.I.Inputs.state c.args.host.now in
    let patterns = g.P.PatternHost.state c.args.patterns.now in
    let before = outside inputs (g.O.Sink.state c.args.out.now) patterns c.args.nested.now c.args.steps.now in
    let after = outside inputs (g.O.Sink.state c.put_report.new.out) patterns c.put_report.new.nested
    c.put_report.new.steps in
    let puts = puts_in manner s validation before.sink after.sink (counts before) (counts after)
    c.put_report.result is c.put_report.ensures.puts in
    rw c.in-None.is
    (RunsScript-unscripted manner validation.passed_over s (library_of c.args.base inputs) is.start
    c.put_report.result before after puts refl refl (not_opened (inputs.opens Script)))

pub returns-in-None-clause-causes : goal.returns-in-None-clause-causes
returns-in-None-clause-causes g c = λ limits s is.
    let validation = c.args.validation in
    let inputs = g.I.Inputs.state c.args.host.now in
    let patterns = g.P.PatternHost.state c.args.patterns.now in
    let before = outside inputs (g.O.Sink.state c.args.out.now) patterns c.args.nested.now c.args.steps.now in
    let after = outside inputs (g.O.Sink.state c.put_report.new.out) patterns c.put_report.new.nested
    c.put_report.new.steps in
    Ends-unscripted validation.format validation.passed_over s None tt c.put_report.result before after
    (c.put_report.ensures.puts limits s is) refl

pub returns-in-None-clause-patterns : goal.returns-in-None-clause-patterns
returns-in-None-clause-patterns g c = inl (inl refl)

pub returns-in-None-clause-read : goal.returns-in-None-clause-read
returns-in-None-clause-read g c = λ answered calm end names.
    rw c.in-None.is (readings_empty c.args.limits.now end c.args.limits.now.script)

pub returns-in-None-clause-read_to_end : goal.returns-in-None-clause-read_to_end
returns-in-None-clause-read_to_end g c = λ reported opened. absurd (not_opened _ opened)

pub returns-in-None-clause-opened : goal.returns-in-None-clause-opened
returns-in-None-clause-opened g c = λ reported. rw c.in-None.is tt

pub returns-in-None-clause-within : goal.returns-in-None-clause-within
returns-in-None-clause-within g c = λ opened. absurd (not_opened _ opened)

pub returns-in-None-clause-inputs : goal.returns-in-None-clause-inputs
returns-in-None-clause-inputs g c =
    ServesInputs-same c.args.limits.now _ (g.I.Inputs.state c.args.host.now)

-- ---- a script is named

pub run_script-requires-clause-loads : goal.run_script-requires-clause-loads
run_script-requires-clause-loads g c = rw c.in-Some.is at c.requires.loads

pub returns-in-Some-clause-serves : goal.returns-in-Some-clause-serves
returns-in-Some-clause-serves g c = rw c.in-Some.is c.run_script.ensures.serves

pub returns-in-Some-clause-causes : goal.returns-in-Some-clause-causes
returns-in-Some-clause-causes g c = c.run_script.ensures.causes

pub returns-in-Some-clause-patterns : goal.returns-in-Some-clause-patterns
returns-in-Some-clause-patterns g c = c.run_script.ensures.patterns

pub returns-in-Some-clause-read : goal.returns-in-Some-clause-read
returns-in-Some-clause-read g c = rw c.in-Some.is c.run_script.ensures.read

pub returns-in-Some-clause-read_to_end : goal.returns-in-Some-clause-read_to_end
returns-in-Some-clause-read_to_end g c = c.run_script.ensures.read_to_end

pub returns-in-Some-clause-opened : goal.returns-in-Some-clause-opened
returns-in-Some-clause-opened g c = rw c.in-Some.is c.run_script.ensures.opened

pub returns-in-Some-clause-within : goal.returns-in-Some-clause-within
returns-in-Some-clause-within g c = c.run_script.ensures.within
