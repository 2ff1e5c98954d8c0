use Rattle.std.proofs.Common.{false, None, Some, refl, sym, subst}
use Rattle.shx_outside.specs.declared.role.Role.TheVariants.{Script}
use Rattle.report_write.specs.declared.answer.Answer.TheVariants.{TooLong}
use Rattle.text_output.specs.Writes.{FellShort, Put}
use Rattle.shape_text.specs.declared.stop.Stop.TheVariants.{Write}
use Rattle.script_run.proofs.WorkLemmas.{NoneFell-itself, still_work}
use Rattle.shacl_run.specs.declared.status.Status.TheVariants.{BadWords, InputFault}
use Rattle.shacl_run.specs.inner.Serving.{open_notice}
use Rattle.shacl_run.specs.Outside.{counts}
use Rattle.shacl_run.specs.Run.{Output, end_of_script, refused}
use Rattle.shacl_run.specs.inner.Ends.{Ends}
use Rattle.shacl_run.specs.inner.Stops.{end_status}
use Rattle.shacl_run.proofs.EndLemmas.{Ends-answer_short, Ends-short, Ends-told, Ends-whole, passed_on}
use Rattle.shacl_run.proofs.ServedLemmas.{Ends-answered, notice_is, reported_answered, reported_apart}
use Rattle.shacl_run.proofs.ServedLemmas.{state_answered}
use Rattle.shacl_run.proofs.serve.end_script.Goals as goal

-- ---- it is at its end

pub returns-clause-ends : goal.returns-clause-ends
returns-clause-ends g c = λ manner s at is.
    let before = record at { sink = g.O.Sink.state c.args.out.now } in
    let after = record at { sink = g.O.Sink.state c.write_dropped.new.out } in
    let output = end_of_script manner.format false s in
    let put = subst (Put before.sink after.sink)
    (notice_is manner.limits manner.format s c.args.script.now is) c.in_ok-write_dropped.ensures.ok in
    rw (c.if-past.false, c.status_of_script.ensures.is manner s is)
    (Ends-whole (Some output) output before after refl (state_answered s s.refused)
    (record { inputs = refl; counted = λ _. still_work (counts at) (counts at) refl }) put)

pub returns-clause-causes : goal.returns-clause-causes
returns-clause-causes g c = λ at.
    let script = c.args.script.now in
    Ends-answered c.status_of_script.result
    (open_notice script.format script.engine.graph.terms script.group)
    (record at { sink = g.O.Sink.state c.args.out.now })
    (record at { sink = g.O.Sink.state c.write_dropped.new.out })
    (reported_answered c.status_of_script.result c.status_of_script.ensures.reported) refl
    c.in_ok-write_dropped.ensures.ok (NoneFell-itself (counts at))

pub returns-clause-output : goal.returns-clause-output
returns-clause-output g c =
    reported_apart c.status_of_script.result InputFault c.status_of_script.ensures.reported (λ no. no)

pub returns-clause-words : goal.returns-clause-words
returns-clause-words g c =
    reported_apart c.status_of_script.result BadWords c.status_of_script.ensures.reported (λ no. no)

-- ---- the script goes on past its limit

pub returns-then-past-clause-ends : goal.returns-then-past-clause-ends
returns-then-past-clause-ends g c = λ manner s at is.
    let status = end_status c.refuse.result in
    let before = record at { sink = g.O.Sink.state c.args.out.now } in
    let after = record at { sink = g.O.Sink.state c.refuse.new.out } in
    rw c.if-past.true (subst (λ (output : Output). Ends (Some output) status before after)
    (λ i. refused (is.format_is i) (sym is.stores.terms i) (TooLong Script)) (c.refuse.ensures.ends at))

pub returns-then-past-clause-causes : goal.returns-then-past-clause-causes
returns-then-past-clause-causes g c = λ at.
    Ends-told None _ (end_status c.refuse.result) (record at { sink = g.O.Sink.state c.args.out.now })
    (record at { sink = g.O.Sink.state c.refuse.new.out }) tt (c.refuse.ensures.ends at)

-- ---- the notice of an open group could not be written

pub returns-in_err-write_dropped-clause-ends : goal.returns-in_err-write_dropped-clause-ends
returns-in_err-write_dropped-clause-ends g c = λ manner s at is.
    let before = record at { sink = g.O.Sink.state c.args.out.now } in
    let after = record at { sink = g.O.Sink.state c.write_dropped.new.out } in
    let exit = c.from_residual in
    let short = subst (FellShort before.sink after.sink)
    (notice_is manner.limits manner.format s c.args.script.now is) c.in_err-write_dropped.ensures.err in
    rw (c.if-past.false, passed_on exit.result Write exit.ensures.1)
    (Ends-answer_short (end_of_script manner.format false s) before after refl short)

pub returns-in_err-write_dropped-clause-causes : goal.returns-in_err-write_dropped-clause-causes
returns-in_err-write_dropped-clause-causes g c = λ at.
    let script = c.args.script.now in
    let exit = c.from_residual in
    rw (passed_on exit.result Write exit.ensures.1)
    (Ends-short None (open_notice script.format script.engine.graph.terms script.group)
    (record at { sink = g.O.Sink.state c.args.out.now })
    (record at { sink = g.O.Sink.state c.write_dropped.new.out }) tt refl c.in_err-write_dropped.ensures.err)
