use Rattle.std.proofs.Common.{◌≡◌, None, true, false, ◌∙◌, inl, inr, refl, sym, ap, subst, arith}
use Rattle.shx_outside.specs.declared.role.Role.TheVariants.{Script}
use Rattle.text_input.specs.ScriptReader.{left_of}
use Rattle.ttl_meaning.specs.declared.document.Document.{Document}
use Rattle.report_write.specs.declared.answer.Answer.TheVariants.{OfShape}
use Rattle.shx_term.specs.declared.fault_codes.TheConstants.{PATTERN_REFUSED}
use Rattle.shape_text.specs.declared.stop.Stop.TheVariants.{Write}
use Rattle.shape_text.specs.Names.{HasNamesOf}
use Rattle.script_run.specs.Loaded.{library_of}
use Rattle.script_run.specs.ScriptState.{with_loads}
use Rattle.shacl_run.specs.declared.status.Status.TheVariants.{Refused}
use Rattle.shacl_run.specs.declared.take_line.Taken.{Taken}
use Rattle.shacl_run.specs.declared.take_line.Taken.TheVariants.{End}
use Rattle.shacl_run.specs.inner.Stops.{end_status, stop_status}
use Rattle.shacl_run.specs.Outside.{outside}
use Rattle.shacl_run.specs.Run.{refused}
use Rattle.shacl_run.proofs.EndLemmas.{Ends-answer, passed_on, input_stop}
use Rattle.shacl_run.proofs.GoesOnLemmas.{ServesInputs-end, ServesOn-start, ServesOn-then}
use Rattle.shacl_run.proofs.GoesOnLemmas.{TakesWithin-read}
use Rattle.shacl_run.proofs.LineAdmitsLemmas.{library_same}
use Rattle.shacl_run.proofs.LineReadingLemmas.{readings_start}
use Rattle.shacl_run.proofs.ReachedLemmas.{PutsOn-answer, PutsOn-ends, PutsOn-short, PutsOn-start}
use Rattle.shacl_run.proofs.ReachedLemmas.{PutsOn-step, PutsOn-still, Reached-halted, Reached-short}
use Rattle.shacl_run.proofs.ReachedLemmas.{Reached-start, Reached-step, ServesFrom, by_told, serves_last}
use Rattle.shacl_run.proofs.ReachedLemmas.{serves_stopped, serves_untold, told_later, told_rose}
use Rattle.shacl_run.proofs.ServedLemmas.{Ends-answered, Ends-stopped, IsScriptRun-beside, cut_unanswered}
use Rattle.shacl_run.proofs.ServedLemmas.{stop_unreported}
use Rattle.shacl_run.proofs.ServingLemmas.{left_of-start}
use Rattle.shacl_run.proofs.serve.serve.Goals as goal

pub loop-taken-init : goal.loop-taken-init
loop-taken-init g c =
    let inputs = g.I.Inputs.state c.args.host.now in
    let limit = c.args.limits.now.script in
    let at = outside inputs (g.O.Sink.state c.args.out.now) (g.P.PatternHost.state c.args.patterns.now)
    c.args.nested.now c.args.steps.now in
    rw c.new-reader.ensures (record {
      goes_on = ServesOn-start c.args.limits.now limit inputs c.requires.opened;
      may = c.requires.goes_on;
      few = omega (arith, c.requires.fresh);
      running = c.requires.running;
      admitted = rw (left_of-start limit (inputs.rest Script)) c.requires.admitted;
      names = refl;
      base = refl;
      format = refl;
      quiet = refl;
      shapes_out = λ out. out;
      puts = PutsOn-start at;
      readings = λ end names have. readings_start c.args.limits.now end limit (inputs.rest Script) have;
      reached = λ manner s bytes same is told lines.
          Reached-start manner (library_of c.args.script.now.base inputs) limit s at c.args.script.now bytes
          is told lines;
    })

-- ---- no further line could be taken

pub returns-in_err-taken-clause-serves : goal.returns-in_err-taken-clause-serves
returns-in_err-taken-clause-serves g c = λ manner s same is lines.
    let l = c.loop-taken in
    let before = g.I.Inputs.state c.args.host.now in
    let sink = g.O.Sink.state l.out in
    let start = outside before (g.O.Sink.state c.args.out.now) (g.P.PatternHost.state c.args.patterns.now)
    c.args.nested.now c.args.steps.now in
    let at = outside (g.I.Inputs.state l.host) sink (g.P.PatternHost.state l.patterns) l.nested l.steps in
    let after = outside (g.I.Inputs.state c.take_line.new.host) sink
    (g.P.PatternHost.state c.take_line.new.patterns) c.take_line.new.nested c.take_line.new.steps in
    let library = library_of c.args.script.now.base before in
    let limit = c.args.limits.now.script in
    let stop = c.in_err-taken.field-0.0 in
    let status = stop_status stop in
    let cause = c.in_err-taken.ensures.cause in
    let still = c.in_err-taken.ensures.patterns_still in
    rw (passed_on c.from_residual.result stop c.from_residual.ensures.1)
    (by_told (before.rest Script) (λ script. ServesFrom manner library s limit script status start after)
    (serves_untold false manner library s limit status start after (still ∙ l.invariant.quiet)
    (PutsOn-ends start at status after l.invariant.puts (Ends-stopped Taken None stop at after refl cause)))
    (λ bytes told.
    let reached = l.invariant.reached manner s bytes same is told lines in
    let left = left_of l.reader (at.inputs.rest Script) in
    let stops = c.in_err-taken.ensures.stopped manner reached.state same reached.stored reached.lines in
    reached.onward status after (λ failed. (stops (input_stop stop failed)).some)
    (serves_stopped stop manner library reached.state l.reader.budget left at after refl cause still
    (λ input. (stops input).silent sink))))

pub returns-in_err-taken-clause-causes : goal.returns-in_err-taken-clause-causes
returns-in_err-taken-clause-causes g c =
    let l = c.loop-taken in
    let sink = g.O.Sink.state l.out in
    let start = outside (g.I.Inputs.state c.args.host.now) (g.O.Sink.state c.args.out.now)
    (g.P.PatternHost.state c.args.patterns.now) c.args.nested.now c.args.steps.now in
    let at = outside (g.I.Inputs.state l.host) sink (g.P.PatternHost.state l.patterns) l.nested l.steps in
    let after = outside (g.I.Inputs.state c.take_line.new.host) sink
    (g.P.PatternHost.state c.take_line.new.patterns) c.take_line.new.nested c.take_line.new.steps in
    let stop = c.in_err-taken.field-0.0 in
    rw (passed_on c.from_residual.result stop c.from_residual.ensures.1)
    (PutsOn-ends start at (stop_status stop) after l.invariant.puts
    (Ends-stopped Taken None stop at after refl c.in_err-taken.ensures.cause))

pub returns-in_err-taken-clause-patterns : goal.returns-in_err-taken-clause-patterns
returns-in_err-taken-clause-patterns g c =
    inl (inl (c.in_err-taken.ensures.patterns_still ∙ c.loop-taken.invariant.quiet))

pub returns-in_err-taken-clause-refusals : goal.returns-in_err-taken-clause-refusals
returns-in_err-taken-clause-refusals g c =
    omega (arith, c.in_err-taken.ensures.patterns_still, c.loop-taken.invariant.quiet)

pub returns-in_err-taken-clause-read : goal.returns-in_err-taken-clause-read
returns-in_err-taken-clause-read g c = λ answered.
    let stop = c.in_err-taken.field-0.0 in
    absurd (cut_unanswered c.from_residual.result stop
    (passed_on c.from_residual.result stop c.from_residual.ensures.1) answered)

pub returns-in_err-taken-clause-within : goal.returns-in_err-taken-clause-within
returns-in_err-taken-clause-within g c = TakesWithin-read c.args.limits.now.script
    (ServesOn-then c.loop-taken.invariant.goes_on c.take_line.ensures.inputs)

pub returns-in_err-taken-clause-inputs : goal.returns-in_err-taken-clause-inputs
returns-in_err-taken-clause-inputs g c =
    let stop = c.in_err-taken.field-0.0 in
    rw (passed_on c.from_residual.result stop c.from_residual.ensures.1)
    (ServesInputs-end c.args.limits.now
    (ServesOn-then c.loop-taken.invariant.goes_on c.take_line.ensures.inputs) (stop_status stop)
    (λ reported. absurd (stop_unreported stop reported)))

-- ---- a reply could not be written

pub returns-in_err-write_reply-in-Replied-clause-serves :
    goal.returns-in_err-write_reply-in-Replied-clause-serves
returns-in_err-write_reply-in-Replied-clause-serves g c = λ manner s same is lines.
    let l = c.loop-taken in
    let before = g.I.Inputs.state c.args.host.now in
    let inputs = g.I.Inputs.state l.host in
    let start = outside before (g.O.Sink.state c.args.out.now) (g.P.PatternHost.state c.args.patterns.now)
    c.args.nested.now c.args.steps.now in
    let at = outside inputs (g.O.Sink.state l.out) (g.P.PatternHost.state l.patterns) l.nested l.steps in
    let next = outside (g.I.Inputs.state c.take_line.new.host) (g.O.Sink.state c.write_reply.new.out)
    (g.P.PatternHost.state c.take_line.new.patterns) c.take_line.new.nested c.take_line.new.steps in
    let base = c.args.script.now.base in
    let library = library_of base before in
    let limit = c.args.limits.now.script in
    let exit = c.from_residual-in_err-write_reply-in-Replied in
    let short = c.in_err-write_reply-in-Replied.ensures.err in
    let quiet = c.in_ok-taken.ensures.cause in
    let tells = rw c.in-Replied.is at c.in_ok-taken.ensures.patterns in
    rw (passed_on exit.result Write exit.ensures.1)
    (by_told (before.rest Script)
    (λ script. ServesFrom manner library s limit script (stop_status Write) start next)
    (serves_untold c.take_line.new.script.halted manner library s limit (stop_status Write) start next
    (rw (← l.invariant.quiet) (told_rose c.take_line.new.script.halted at.patterns.faults next.patterns.faults
    c.in-Replied.reply tells)) (PutsOn-short start at next _ l.invariant.puts quiet short))
    (λ bytes told.
    let reached = l.invariant.reached manner s bytes same is told lines in
    let line =
    (rw (
      c.in-Replied.is,
      library_same base l.script.base before inputs l.invariant.base
          l.invariant.goes_on.texts,
    ) at c.in_ok-taken.ensures.taken) manner reached.state same reached.stored
    reached.lines in
    Reached-short manner library limit s start l.script c.take_line.new.script l.reader
    c.take_line.new.reader at next reached c.in-Replied.reply line quiet tells
    (rw line.replies.stored.format_is at short)))

pub returns-in_err-write_reply-in-Replied-clause-causes :
    goal.returns-in_err-write_reply-in-Replied-clause-causes
returns-in_err-write_reply-in-Replied-clause-causes g c =
    let l = c.loop-taken in
    let start = outside (g.I.Inputs.state c.args.host.now) (g.O.Sink.state c.args.out.now)
    (g.P.PatternHost.state c.args.patterns.now) c.args.nested.now c.args.steps.now in
    let at = outside (g.I.Inputs.state l.host) (g.O.Sink.state l.out) (g.P.PatternHost.state l.patterns)
    l.nested l.steps in
    let next = outside (g.I.Inputs.state c.take_line.new.host) (g.O.Sink.state c.write_reply.new.out)
    (g.P.PatternHost.state c.take_line.new.patterns) c.take_line.new.nested c.take_line.new.steps in
    let exit = c.from_residual-in_err-write_reply-in-Replied in
    rw (passed_on exit.result Write exit.ensures.1)
    (PutsOn-short start at next _ l.invariant.puts c.in_ok-taken.ensures.cause
    c.in_err-write_reply-in-Replied.ensures.err)

pub returns-in_err-write_reply-in-Replied-clause-patterns :
    goal.returns-in_err-write_reply-in-Replied-clause-patterns
returns-in_err-write_reply-in-Replied-clause-patterns g c =
    let exit = c.from_residual-in_err-write_reply-in-Replied in
    rw (passed_on exit.result Write exit.ensures.1) (inr tt)

pub returns-in_err-write_reply-in-Replied-clause-refusals :
    goal.returns-in_err-write_reply-in-Replied-clause-refusals
returns-in_err-write_reply-in-Replied-clause-refusals g c =
    told_later c.take_line.new.script.halted _ _ _ c.in-Replied.reply c.loop-taken.invariant.quiet
    (rw c.in-Replied.is at c.in_ok-taken.ensures.patterns)

pub returns-in_err-write_reply-in-Replied-clause-read :
    goal.returns-in_err-write_reply-in-Replied-clause-read
returns-in_err-write_reply-in-Replied-clause-read g c = λ answered.
    let exit = c.from_residual-in_err-write_reply-in-Replied in
    absurd (cut_unanswered exit.result Write (passed_on exit.result Write exit.ensures.1) answered)

pub returns-in_err-write_reply-in-Replied-clause-within :
    goal.returns-in_err-write_reply-in-Replied-clause-within
returns-in_err-write_reply-in-Replied-clause-within g c = TakesWithin-read c.args.limits.now.script
    (ServesOn-then c.loop-taken.invariant.goes_on c.take_line.ensures.inputs)

pub returns-in_err-write_reply-in-Replied-clause-inputs :
    goal.returns-in_err-write_reply-in-Replied-clause-inputs
returns-in_err-write_reply-in-Replied-clause-inputs g c =
    let exit = c.from_residual-in_err-write_reply-in-Replied in
    rw (passed_on exit.result Write exit.ensures.1)
    (ServesInputs-end c.args.limits.now
    (ServesOn-then c.loop-taken.invariant.goes_on c.take_line.ensures.inputs) (stop_status Write)
    (λ reported. absurd reported))

-- ---- the host refused a pattern

pub returns-then-script-clause-serves : goal.returns-then-script-clause-serves
returns-then-script-clause-serves g c = λ manner s same is lines.
    let l = c.loop-taken in
    let before = g.I.Inputs.state c.args.host.now in
    let inputs = g.I.Inputs.state l.host in
    let script' = c.take_line.new.script in
    let start = outside before (g.O.Sink.state c.args.out.now) (g.P.PatternHost.state c.args.patterns.now)
    c.args.nested.now c.args.steps.now in
    let at = outside inputs (g.O.Sink.state l.out) (g.P.PatternHost.state l.patterns) l.nested l.steps in
    let next = outside (g.I.Inputs.state c.take_line.new.host) (g.O.Sink.state c.write_reply.new.out)
    (g.P.PatternHost.state c.take_line.new.patterns) c.take_line.new.nested c.take_line.new.steps in
    let base = c.args.script.now.base in
    let library = library_of base before in
    let limit = c.args.limits.now.script in
    let put = c.in_ok-write_reply-in-Replied.ensures.ok in
    let quiet = c.in_ok-taken.ensures.cause in
    let tells = rw c.in-Replied.is at c.in_ok-taken.ensures.patterns in
    let halted : script'.halted ≡ true = c.if-script.true in
    by_told (before.rest Script) (λ script. ServesFrom manner library s limit script Refused start next)
    (serves_untold true manner library s limit Refused start next
    (rw (← l.invariant.quiet) (rw halted at tells).0)
    (PutsOn-ends start at Refused next l.invariant.puts
    (Ends-answered Refused _ at next tt quiet put c.in_ok-taken.ensures.risen)))
    (λ bytes told.
    let reached = l.invariant.reached manner s bytes same is told lines in
    let line =
    (rw (
      c.in-Replied.is,
      library_same base l.script.base before inputs l.invariant.base
          l.invariant.goes_on.texts,
    ) at c.in_ok-taken.ensures.taken) manner reached.state same reached.stored
    reached.lines in
    Reached-halted manner library limit s start l.script script' l.reader c.take_line.new.reader at next
    reached c.in-Replied.reply line quiet tells halted (rw line.replies.stored.format_is at put))

pub returns-then-script-clause-causes : goal.returns-then-script-clause-causes
returns-then-script-clause-causes g c =
    let l = c.loop-taken in
    let start = outside (g.I.Inputs.state c.args.host.now) (g.O.Sink.state c.args.out.now)
    (g.P.PatternHost.state c.args.patterns.now) c.args.nested.now c.args.steps.now in
    let at = outside (g.I.Inputs.state l.host) (g.O.Sink.state l.out) (g.P.PatternHost.state l.patterns)
    l.nested l.steps in
    let next = outside (g.I.Inputs.state c.take_line.new.host) (g.O.Sink.state c.write_reply.new.out)
    (g.P.PatternHost.state c.take_line.new.patterns) c.take_line.new.nested c.take_line.new.steps in
    PutsOn-ends start at Refused next l.invariant.puts
    (Ends-answered Refused _ at next tt c.in_ok-taken.ensures.cause c.in_ok-write_reply-in-Replied.ensures.ok
    c.in_ok-taken.ensures.risen)

pub returns-then-script-clause-patterns : goal.returns-then-script-clause-patterns
returns-then-script-clause-patterns g c =
    let l = c.loop-taken in
    let script' = c.take_line.new.script in
    let start = outside (g.I.Inputs.state c.args.host.now) (g.O.Sink.state c.args.out.now)
    (g.P.PatternHost.state c.args.patterns.now) c.args.nested.now c.args.steps.now in
    let at = outside (g.I.Inputs.state l.host) (g.O.Sink.state l.out) (g.P.PatternHost.state l.patterns)
    l.nested l.steps in
    let next = outside (g.I.Inputs.state c.take_line.new.host) (g.O.Sink.state c.write_reply.new.out)
    (g.P.PatternHost.state c.take_line.new.patterns) c.take_line.new.nested c.take_line.new.steps in
    let format = c.args.script.now.format in
    let terms = script'.engine.graph.terms in
    let tells = rw (c.in-Replied.is, c.if-script.true) at c.in_ok-taken.ensures.patterns in
    let (shape, reply_is) = tells.1 in
    let output = refused format terms (OfShape PATTERN_REFUSED shape) in
    let put = rw (reply_is, c.take_line.ensures.format ∙ l.invariant.format)
    at c.in_ok-write_reply-in-Replied.ensures.ok in
    inl (inr (
      l.invariant.puts.text,
      terms,
      shape,
      PutsOn-answer start at output Refused next l.invariant.puts (λ no. no)
          (Ends-answer output at next tt (λ no. no) c.in_ok-taken.ensures.cause put),
    ))

pub returns-then-script-clause-refusals : goal.returns-then-script-clause-refusals
returns-then-script-clause-refusals g c =
    told_later c.take_line.new.script.halted _ _ _ c.in-Replied.reply c.loop-taken.invariant.quiet
    (rw c.in-Replied.is at c.in_ok-taken.ensures.patterns)

pub returns-then-script-clause-read : goal.returns-then-script-clause-read
returns-then-script-clause-read g c = λ answered none end names.
    let tells = rw (c.in-Replied.is, c.if-script.true) at c.in_ok-taken.ensures.patterns in
    absurd (none (rw (← c.loop-taken.invariant.quiet) tells.0))

pub returns-then-script-clause-within : goal.returns-then-script-clause-within
returns-then-script-clause-within g c = TakesWithin-read c.args.limits.now.script
    (ServesOn-then c.loop-taken.invariant.goes_on c.take_line.ensures.inputs)

pub returns-then-script-clause-inputs : goal.returns-then-script-clause-inputs
returns-then-script-clause-inputs g c =
    ServesInputs-end c.args.limits.now
    (ServesOn-then c.loop-taken.invariant.goes_on c.take_line.ensures.inputs) Refused
    (λ reported. absurd reported)

-- ---- no line was left

pub returns-in-End-clause-serves : goal.returns-in-End-clause-serves
returns-in-End-clause-serves g c = λ manner s same is lines.
    let l = c.loop-taken in
    let before = g.I.Inputs.state c.args.host.now in
    let inputs' = g.I.Inputs.state c.take_line.new.host in
    let sink = g.O.Sink.state l.out in
    let patterns' = g.P.PatternHost.state c.take_line.new.patterns in
    let start = outside before (g.O.Sink.state c.args.out.now) (g.P.PatternHost.state c.args.patterns.now)
    c.args.nested.now c.args.steps.now in
    let at = outside (g.I.Inputs.state l.host) sink (g.P.PatternHost.state l.patterns) l.nested l.steps in
    let still = outside inputs' sink patterns' c.take_line.new.nested c.take_line.new.steps in
    let after = outside inputs' (g.O.Sink.state c.end_script.new.out) patterns' c.take_line.new.nested
    c.take_line.new.steps in
    let library = library_of c.args.script.now.base before in
    let limit = c.args.limits.now.script in
    let status = end_status c.end_script.result in
    let quiet = c.in_ok-taken.ensures.cause in
    let refusals = rw c.in-End.is at c.in_ok-taken.ensures.patterns in
    let other = c.end_script.ensures.output in
    by_told (before.rest Script) (λ script. ServesFrom manner library s limit script status start after)
    (serves_untold false manner library s limit status start after (refusals ∙ l.invariant.quiet)
    (PutsOn-ends start still status after (PutsOn-still start at still l.invariant.puts
    (record { sink = refl; inputs = quiet }) c.in_ok-taken.ensures.risen)
    (c.end_script.ensures.causes still)))
    (λ bytes told.
    let reached = l.invariant.reached manner s bytes same is told lines in
    let (stored, took, worked) = (rw c.in-End.is at c.in_ok-taken.ensures.taken) manner reached.state same
    reached.stored reached.lines in
    reached.onward status after (λ failed. absurd (other failed))
    (serves_last manner library reached.state l.reader.budget (left_of l.reader (at.inputs.rest Script))
    (left_of c.take_line.new.reader (inputs'.rest Script)) c.in-End.past status at still after took
    (sym reached.stored.halted_is ∙ l.invariant.running) (record { sink = refl; inputs = quiet }) worked
    refusals other (λ rest. c.end_script.ensures.ends manner (with_loads rest reached.state) still
    (IsScriptRun-beside manner.limits manner.format reached.state c.take_line.new.script rest stored))))

pub returns-in-End-clause-causes : goal.returns-in-End-clause-causes
returns-in-End-clause-causes g c =
    let l = c.loop-taken in
    let inputs' = g.I.Inputs.state c.take_line.new.host in
    let sink = g.O.Sink.state l.out in
    let patterns' = g.P.PatternHost.state c.take_line.new.patterns in
    let start = outside (g.I.Inputs.state c.args.host.now) (g.O.Sink.state c.args.out.now)
    (g.P.PatternHost.state c.args.patterns.now) c.args.nested.now c.args.steps.now in
    let at = outside (g.I.Inputs.state l.host) sink (g.P.PatternHost.state l.patterns) l.nested l.steps in
    let still = outside inputs' sink patterns' c.take_line.new.nested c.take_line.new.steps in
    let after = outside inputs' (g.O.Sink.state c.end_script.new.out) patterns' c.take_line.new.nested
    c.take_line.new.steps in
    PutsOn-ends start still (end_status c.end_script.result) after (PutsOn-still start at still
    l.invariant.puts (record { sink = refl; inputs = c.in_ok-taken.ensures.cause })
    c.in_ok-taken.ensures.risen) (c.end_script.ensures.causes still)

pub returns-in-End-clause-patterns : goal.returns-in-End-clause-patterns
returns-in-End-clause-patterns g c = inl (inl
    ((rw c.in-End.is at c.in_ok-taken.ensures.patterns) ∙ c.loop-taken.invariant.quiet))

pub returns-in-End-clause-refusals : goal.returns-in-End-clause-refusals
returns-in-End-clause-refusals g c =
    omega (arith, rw c.in-End.is at c.in_ok-taken.ensures.patterns, c.loop-taken.invariant.quiet)

pub returns-in-End-clause-read : goal.returns-in-End-clause-read
returns-in-End-clause-read g c = λ answered none end names.
    let l = c.loop-taken in
    l.invariant.readings end names
    ((rw c.in-End.is at c.in_ok-taken.ensures.read) end
    (subst (λ (document : Document). HasNamesOf end document) (sym l.invariant.names) names))

pub returns-in-End-clause-read_to_end : goal.returns-in-End-clause-read_to_end
returns-in-End-clause-read_to_end g c = λ reported.
    c.in_ok-taken.ensures.end (c.in-End.is ∙ ap End (c.end_script.ensures.reported reported))

pub returns-in-End-clause-within : goal.returns-in-End-clause-within
returns-in-End-clause-within g c = TakesWithin-read c.args.limits.now.script
    (ServesOn-then c.loop-taken.invariant.goes_on c.take_line.ensures.inputs)

pub returns-in-End-clause-inputs : goal.returns-in-End-clause-inputs
returns-in-End-clause-inputs g c =
    let l = c.loop-taken in
    ServesInputs-end c.args.limits.now (ServesOn-then l.invariant.goes_on c.take_line.ensures.inputs)
    (end_status c.end_script.result)
    (λ reported out. c.in_ok-taken.ensures.shapes_out (l.invariant.shapes_out out))

-- ---- a line was answered

pub loop-taken-preserved : goal.loop-taken-preserved
loop-taken-preserved g c =
    let l = c.loop-taken in
    let before = g.I.Inputs.state c.args.host.now in
    let inputs = g.I.Inputs.state l.host in
    let script' = c.take_line.new.script in
    let start = outside before (g.O.Sink.state c.args.out.now) (g.P.PatternHost.state c.args.patterns.now)
    c.args.nested.now c.args.steps.now in
    let at = outside inputs (g.O.Sink.state l.out) (g.P.PatternHost.state l.patterns) l.nested l.steps in
    let next = outside (g.I.Inputs.state c.take_line.new.host) (g.O.Sink.state c.write_reply.new.out)
    (g.P.PatternHost.state c.take_line.new.patterns) c.take_line.new.nested c.take_line.new.steps in
    let base = c.args.script.now.base in
    let library = library_of base before in
    let put = c.in_ok-write_reply-in-Replied.ensures.ok in
    let quiet = c.in_ok-taken.ensures.cause in
    let counted = rw c.in-Replied.is at c.in_ok-taken.ensures.counted in
    let shorter = rw c.in-Replied.is at c.in_ok-taken.ensures.shorter in
    let tells = rw c.in-Replied.is at c.in_ok-taken.ensures.patterns in
    let running : script'.halted ≡ false = c.if-script.false in
    record {
      goes_on = ServesOn-then l.invariant.goes_on c.take_line.ensures.inputs;
      may = c.in_ok-taken.ensures.goes_on_still;
      few = omega (arith, l.invariant.few, counted, shorter);
      running = running;
      admitted = rw c.in-Replied.is at c.in_ok-taken.ensures.admitted_still;
      names = c.take_line.ensures.names ∙ l.invariant.names;
      base = c.take_line.ensures.base ∙ l.invariant.base;
      format = c.take_line.ensures.format ∙ l.invariant.format;
      quiet = (rw running at tells) ∙ l.invariant.quiet;
      shapes_out = λ out. c.in_ok-taken.ensures.shapes_out (l.invariant.shapes_out out);
      puts = PutsOn-step start at next _ l.invariant.puts
          (record { put = put; inputs = quiet; risen = c.in_ok-taken.ensures.risen });
      readings = λ end names have. l.invariant.readings end names
          ((rw c.in-Replied.is at c.in_ok-taken.ensures.read) end
          (subst (λ (document : Document). HasNamesOf end document) (sym l.invariant.names) names) have);
      reached = λ manner s told_bytes same is told lines.
          let reached = l.invariant.reached manner s told_bytes same is told lines in
          let line =
          (rw (
            c.in-Replied.is,
            library_same base l.script.base before inputs l.invariant.base
                l.invariant.goes_on.texts,
          ) at c.in_ok-taken.ensures.taken) manner reached.state same reached.stored
          reached.lines in
          Reached-step manner library c.args.limits.now.script s start l.script script' l.reader
          c.take_line.new.reader at next reached c.in-Replied.reply line quiet tells running
          (rw line.replies.stored.format_is at put);
    }
