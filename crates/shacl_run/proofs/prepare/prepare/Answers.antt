use Rattle.std.proofs.Common.{refl, sym, subst, Err}
use Rattle.shx_outside.specs.declared.role.Role.TheVariants.{Shapes, Data}
use Rattle.shape_eval.specs.Planned.{plan_of}
use Rattle.shacl_run.specs.inner.Validation.{TargetsItsOwn}
use Rattle.shacl_run.specs.RunClauses.{IsOpenedBy}
use Rattle.shacl_run.proofs.EndLemmas.{passed_on}
use Rattle.shacl_run.proofs.OpenedLemmas.{AreReadToEnd-both, PreparesWithin-both, PreparesWithin-shapes}
use Rattle.shacl_run.proofs.OpenedLemmas.{ReadsOne, no_data}
use Rattle.shacl_run.proofs.PrepareLemmas.{HostStays-unplanned, HostStays-same, admitted_bytes, prepared_long}
use Rattle.shacl_run.proofs.PrepareLemmas.{prepared_unplanned, prepared_data_long, prepared_opened}
use Rattle.shacl_run.proofs.prepare.prepare.Goals as goal

-- ---- the shapes text is too long, or was not read

pub returns-in-Err-clause-prepared : goal.returns-in-Err-clause-prepared
returns-in-Err-clause-prepared g c =
    let limits = c.args.limits.now in
    let before = g.I.Inputs.state c.args.host.now in
    let mid = g.I.Inputs.state c.read_within.new.host in
    let asked = c.args.asked.now in
    let patterns = g.P.PatternHost.state c.args.patterns.now in
    let first : ReadsOne limits.text Shapes before mid = record {
      once = c.read_within.ensures.once;
      within = c.read_within.ensures.within;
      within_open = c.read_within.ensures.within_open;
      others = c.read_within.ensures.others;
    } in
    rw c.of.ensures
    (prepared_long limits asked.format c.args.base.now (before.text asked.shapes_file.now)
    (before.text asked.data_file.now) patterns patterns (IsOpenedBy before mid Data) refl
    (no_data limits.text before mid first) c.args.pool c.in-Err.refusal c.in-Err.ensures.too_long)

pub returns-in-Err-clause-patterns : goal.returns-in-Err-clause-patterns
returns-in-Err-clause-patterns g c =
    let faults = (g.P.PatternHost.state c.args.patterns.now).faults in
    HostStays-same faults faults refl (Err c.of.result)

pub returns-in-Err-clause-within : goal.returns-in-Err-clause-within
returns-in-Err-clause-within g c =
    PreparesWithin-shapes c.args.limits.now.text (g.I.Inputs.state c.args.host.now)
    (g.I.Inputs.state c.read_within.new.host) (record {
      once = c.read_within.ensures.once;
      within = c.read_within.ensures.within;
      within_open = c.read_within.ensures.within_open;
      others = c.read_within.ensures.others;
    })

-- ---- its shapes make no plan

pub judge-requires-clause-admitted : goal.judge-requires-clause-admitted
judge-requires-clause-admitted g c =
    let limits = c.args.limits.now in
    admitted_bytes limits c.args.base.now
    ((g.I.Inputs.state c.args.host.now).text c.args.asked.now.shapes_file.now)
    ((g.I.Inputs.state c.read_within.new.host).rest Shapes) c.in-Ok.text.items
    (g.P.PatternHost.admits c.args.patterns.now) c.in-Ok.ensures.read c.requires.patterns_admitted

pub returns-in_err-accepted-clause-prepared : goal.returns-in_err-accepted-clause-prepared
returns-in_err-accepted-clause-prepared g c =
    let limits = c.args.limits.now in
    let before = g.I.Inputs.state c.args.host.now in
    let mid = g.I.Inputs.state c.read_within.new.host in
    let asked = c.args.asked.now in
    let why = c.in_err-accepted.field-0.0 in
    let exit = c.from_residual in
    let first : ReadsOne limits.text Shapes before mid = record {
      once = c.read_within.ensures.once;
      within = c.read_within.ensures.within;
      within_open = c.read_within.ensures.within_open;
      others = c.read_within.ensures.others;
    } in
    rw (passed_on exit.result why exit.ensures.1)
    (prepared_unplanned limits asked.format c.args.base.now (before.text asked.shapes_file.now)
    (before.text asked.data_file.now) (g.P.PatternHost.state c.args.patterns.now)
    (g.P.PatternHost.state c.judge.new.patterns) (IsOpenedBy before mid Data) (mid.rest Shapes)
    c.in-Ok.text.items c.in-Ok.ensures.read why
    c.in_err-accepted.ensures.refused
    (no_data limits.text before mid first))

pub returns-in_err-accepted-clause-patterns : goal.returns-in_err-accepted-clause-patterns
returns-in_err-accepted-clause-patterns g c =
    let why = c.in_err-accepted.field-0.0 in
    let exit = c.from_residual in
    rw (passed_on exit.result why exit.ensures.1)
    (HostStays-unplanned c.args.limits.now c.args.base.now c.in-Ok.text.items
    (g.P.PatternHost.state c.args.patterns.now) (g.P.PatternHost.state c.judge.new.patterns) why
    c.in_err-accepted.ensures.refused)

pub returns-in_err-accepted-clause-within : goal.returns-in_err-accepted-clause-within
returns-in_err-accepted-clause-within g c =
    PreparesWithin-shapes c.args.limits.now.text (g.I.Inputs.state c.args.host.now)
    (g.I.Inputs.state c.read_within.new.host) (record {
      once = c.read_within.ensures.once;
      within = c.read_within.ensures.within;
      within_open = c.read_within.ensures.within_open;
      others = c.read_within.ensures.others;
    })

-- ---- the data text was read

pub open_validation-requires-clause-within_plan : goal.open_validation-requires-clause-within_plan
open_validation-requires-clause-within_plan g c =
    let plan = plan_of c.in_ok-accepted.accepted.plan in
    let is = c.in_ok-accepted.ensures.accepts.plan in
    let terms = (c.in_ok-accepted.ensures.accepts).document.terms in
    subst TargetsItsOwn (sym is.judged.1.targeted) (record {
      within = c.plans_target_shapes_once.ensures.within terms plan.shapes is.fits;
      once = c.plans_target_shapes_once.ensures.once terms plan.shapes is.fits;
    })

pub returns-in-Ok-read_within-clause-prepared : goal.returns-in-Ok-read_within-clause-prepared
returns-in-Ok-read_within-clause-prepared g c =
    let before = g.I.Inputs.state c.args.host.now in
    let mid = g.I.Inputs.state c.read_within.new.host in
    let after = g.I.Inputs.state c.read_within-2.new.host in
    let asked = c.args.asked.now in
    let same = c.read_within.ensures.texts.each asked.data_file.now in
    prepared_opened c.args.limits.now asked.format c.args.base.now (before.text asked.shapes_file.now)
    (before.text asked.data_file.now) (g.P.PatternHost.state c.args.patterns.now)
    (g.P.PatternHost.state c.judge.new.patterns) (IsOpenedBy before after Data) (mid.rest Shapes)
    c.in-Ok.text.items c.in-Ok.ensures.read c.in_ok-accepted.accepted
    c.in_ok-accepted.ensures.accepts (after.rest Data)
    c.in-Ok-read_within.text.items c.open_validation.result (rw same at c.in-Ok-read_within.ensures.read)
    c.open_validation.ensures.opened
    c.open_validation.ensures.passed
    c.open_validation.ensures.refused

pub returns-in-Ok-read_within-clause-patterns : goal.returns-in-Ok-read_within-clause-patterns
returns-in-Ok-read_within-clause-patterns g c =
    HostStays-same (g.P.PatternHost.state c.args.patterns.now).faults
    (g.P.PatternHost.state c.judge.new.patterns).faults c.in_ok-accepted.ensures.accepts.plan.patterns
    c.open_validation.result

pub returns-in-Ok-read_within-clause-within : goal.returns-in-Ok-read_within-clause-within
returns-in-Ok-read_within-clause-within g c =
    let before = g.I.Inputs.state c.args.host.now in
    let mid = g.I.Inputs.state c.read_within.new.host in
    let after = g.I.Inputs.state c.read_within-2.new.host in
    PreparesWithin-both c.args.limits.now.text before mid (record {
      once = c.read_within.ensures.once;
      within = c.read_within.ensures.within;
      within_open = c.read_within.ensures.within_open;
      others = c.read_within.ensures.others;
    }) after (record {
      once = c.read_within-2.ensures.once;
      within = c.read_within-2.ensures.within;
      within_open = c.read_within-2.ensures.within_open;
      others = c.read_within-2.ensures.others;
    }) c.in-Ok.ensures.opened

pub returns-in-Ok-read_within-clause-ends : goal.returns-in-Ok-read_within-clause-ends
returns-in-Ok-read_within-clause-ends g c =
    AreReadToEnd-both c.args.limits.now.text (g.I.Inputs.state c.args.host.now)
    (g.I.Inputs.state c.read_within.new.host) (record {
      once = c.read_within.ensures.once;
      within = c.read_within.ensures.within;
      within_open = c.read_within.ensures.within_open;
      others = c.read_within.ensures.others;
    }) (g.I.Inputs.state c.read_within-2.new.host) (record {
      once = c.read_within-2.ensures.once;
      within = c.read_within-2.ensures.within;
      within_open = c.read_within-2.ensures.within_open;
      others = c.read_within-2.ensures.others;
    }) c.open_validation.result c.in-Ok.ensures.opened c.in-Ok-read_within.ensures.opened
    c.in-Ok.ensures.read.at_end c.in-Ok-read_within.ensures.read.at_end

-- ---- it is too long, or was not read

pub returns-in-Err-read_within-clause-prepared : goal.returns-in-Err-read_within-clause-prepared
returns-in-Err-read_within-clause-prepared g c =
    let before = g.I.Inputs.state c.args.host.now in
    let mid = g.I.Inputs.state c.read_within.new.host in
    let after = g.I.Inputs.state c.read_within-2.new.host in
    let asked = c.args.asked.now in
    let same = c.read_within.ensures.texts.each asked.data_file.now in
    let accepted = c.in_ok-accepted.accepted in
    rw c.of-in-Err-read_within.ensures
    (prepared_data_long c.args.limits.now asked.format c.args.base.now (before.text asked.shapes_file.now)
    (before.text asked.data_file.now) (g.P.PatternHost.state c.args.patterns.now)
    (g.P.PatternHost.state c.judge.new.patterns) (IsOpenedBy before after Data) (mid.rest Shapes)
    c.in-Ok.text.items c.in-Ok.ensures.read accepted
    c.in_ok-accepted.ensures.accepts accepted.pool
    c.in-Err-read_within.refusal (rw same at c.in-Err-read_within.ensures.too_long))

pub returns-in-Err-read_within-clause-patterns : goal.returns-in-Err-read_within-clause-patterns
returns-in-Err-read_within-clause-patterns g c =
    HostStays-same (g.P.PatternHost.state c.args.patterns.now).faults
    (g.P.PatternHost.state c.judge.new.patterns).faults c.in_ok-accepted.ensures.accepts.plan.patterns
    (Err c.of-in-Err-read_within.result)

pub returns-in-Err-read_within-clause-within : goal.returns-in-Err-read_within-clause-within
returns-in-Err-read_within-clause-within g c =
    let before = g.I.Inputs.state c.args.host.now in
    let mid = g.I.Inputs.state c.read_within.new.host in
    let after = g.I.Inputs.state c.read_within-2.new.host in
    PreparesWithin-both c.args.limits.now.text before mid (record {
      once = c.read_within.ensures.once;
      within = c.read_within.ensures.within;
      within_open = c.read_within.ensures.within_open;
      others = c.read_within.ensures.others;
    }) after (record {
      once = c.read_within-2.ensures.once;
      within = c.read_within-2.ensures.within;
      within_open = c.read_within-2.ensures.within_open;
      others = c.read_within-2.ensures.others;
    }) c.in-Ok.ensures.opened
