use Rattle.std.proofs.Common.{◌≡◌, [], None, Some, Err, refl, inl, sym, ap, subst, ◌∙◌}
use Rattle.shx_outside.specs.declared.role.Role.TheVariants.{Data, Script}
use Rattle.command_words.specs.Asked.{asked_of}
use Rattle.command_words.specs.Words.{command_words, texts_of}
use Rattle.script_lines.specs.declared.fault.LineFault.TheVariants.{Memory as no_memory}
use Rattle.shape_text.specs.declared.stop.Stop.TheVariants.{Memory}
use Rattle.shacl_run.specs.inner.Stops.{end_status}
use Rattle.shacl_run.specs.Outside.{outside}
use Rattle.shape_text.specs.TextReadings.{Long}
use Rattle.shacl_run.specs.Loads.{LoadsAreAdmitted}
use Rattle.shacl_run.specs.RunClauses.{ShapesAreReadBy}
use Rattle.shape_text.specs.Verdict.{stops}
use Rattle.shape_text.specs.Verdict.Obstacle.{recurs}
use Rattle.shacl_run.proofs.EndLemmas.{Ends-memory, Ends-told, IsStill-itself, passed_on}
use Rattle.shacl_run.proofs.FilesLemmas.{RunsAsked, words_run}
use Rattle.shacl_run.proofs.OpenedLemmas.{OpensInTurn-still, StaysWithin-still, not_opened}
use Rattle.shacl_run.proofs.top.run_words.Goals as goal

pub returns-in_err-pool-clause-causes : goal.returns-in_err-pool-clause-causes
returns-in_err-pool-clause-causes g c =
    let at = outside (g.H.Inputs.state c.args.host.now) (g.O.Sink.state c.args.out.now)
    (g.P.PatternHost.state c.args.patterns.now) c.args.nested.now c.args.steps.now in
    let exit = c.from_residual in
    rw (passed_on exit.result Memory exit.ensures.1) (Ends-memory None at at (IsStill-itself at))

pub returns-in_err-pool-clause-opened : goal.returns-in_err-pool-clause-opened
returns-in_err-pool-clause-opened g c = OpensInTurn-still (g.H.Inputs.state c.args.host.now) _

pub returns-in_err-pool-clause-within : goal.returns-in_err-pool-clause-within
returns-in_err-pool-clause-within g c =
    StaysWithin-still c.args.limits.now (g.H.Inputs.state c.args.host.now)

pub returns-in_err-texts-clause-causes : goal.returns-in_err-texts-clause-causes
returns-in_err-texts-clause-causes g c =
    let at = outside (g.H.Inputs.state c.args.host.now) (g.O.Sink.state c.args.out.now)
    (g.P.PatternHost.state c.args.patterns.now) c.args.nested.now c.args.steps.now in
    let exit = c.from_residual-in_err-texts in
    rw (passed_on exit.result Memory exit.ensures.1) (Ends-memory None at at (IsStill-itself at))

pub returns-in_err-texts-clause-opened : goal.returns-in_err-texts-clause-opened
returns-in_err-texts-clause-opened g c = OpensInTurn-still (g.H.Inputs.state c.args.host.now) _

pub returns-in_err-texts-clause-within : goal.returns-in_err-texts-clause-within
returns-in_err-texts-clause-within g c =
    StaysWithin-still c.args.limits.now (g.H.Inputs.state c.args.host.now)

pub returns-in_err-asked-clause-causes : goal.returns-in_err-asked-clause-causes
returns-in_err-asked-clause-causes g c =
    let at = outside (g.H.Inputs.state c.args.host.now) (g.O.Sink.state c.args.out.now)
    (g.P.PatternHost.state c.args.patterns.now) c.args.nested.now c.args.steps.now in
    let exit = c.from_residual-in_err-asked in
    rw (passed_on exit.result Memory exit.ensures.1) (Ends-memory None at at (IsStill-itself at))

pub returns-in_err-asked-clause-opened : goal.returns-in_err-asked-clause-opened
returns-in_err-asked-clause-opened g c = OpensInTurn-still (g.H.Inputs.state c.args.host.now) _

pub returns-in_err-asked-clause-within : goal.returns-in_err-asked-clause-within
returns-in_err-asked-clause-within g c =
    StaysWithin-still c.args.limits.now (g.H.Inputs.state c.args.host.now)

pub returns-in-Some-clause-runs : goal.returns-in-Some-clause-runs
returns-in-Some-clause-runs g c = λ readings right.
    let words = c.args.words.now in
    let same : texts_of c.deref.result.now ≡ words =
    ap texts_of c.deref.ensures.value ∙ c.in_ok-texts.ensures in
    let asked : Some (asked_of c.in-Some.asked) ≡ command_words words =
    (rw c.in-Some.is at c.in_ok-asked.ensures.asked) ∙ ap command_words same in
    words_run c.args.limits.now readings words _ _ _ (asked_of c.in-Some.asked) asked
    (c.run_files.ensures.runs readings
    (subst (λ asked. ShapesAreReadBy c.args.limits.now readings asked (g.H.Inputs.state c.args.host.now).text)
    (sym asked) right))

pub returns-in-Some-clause-patterns : goal.returns-in-Some-clause-patterns
returns-in-Some-clause-patterns g c =
    let words = c.args.words.now in
    let same : texts_of c.deref.result.now ≡ words =
    ap texts_of c.deref.ensures.value ∙ c.in_ok-texts.ensures in
    let asked : Some (asked_of c.in-Some.asked) ≡ command_words words =
    (rw c.in-Some.is at c.in_ok-asked.ensures.asked) ∙ ap command_words same in
    rw (← asked) c.run_files.ensures.patterns

pub run_files-requires-clause-loads : goal.run_files-requires-clause-loads
run_files-requires-clause-loads g c =
    let words = c.args.words.now in
    let same : texts_of c.deref.result.now ≡ words =
    ap texts_of c.deref.ensures.value ∙ c.in_ok-texts.ensures in
    let asked : Some (asked_of c.in-Some.asked) ≡ command_words words =
    (rw c.in-Some.is at c.in_ok-asked.ensures.asked) ∙ ap command_words same in
    let host = c.args.host.now in
    subst (λ a. LoadsAreAdmitted c.args.limits.now a (g.H.Inputs.state host).text (g.H.Inputs.admits host)
    (g.P.PatternHost.admits c.args.patterns.now)) (sym asked) c.requires.loads

pub returns-in-Some-clause-read_to_end : goal.returns-in-Some-clause-read_to_end
returns-in-Some-clause-read_to_end g c =
    let words = c.args.words.now in
    let same : texts_of c.deref.result.now ≡ words =
    ap texts_of c.deref.ensures.value ∙ c.in_ok-texts.ensures in
    let asked : Some (asked_of c.in-Some.asked) ≡ command_words words =
    (rw c.in-Some.is at c.in_ok-asked.ensures.asked) ∙ ap command_words same in
    rw (← asked) c.run_files.ensures.read_to_end

pub returns-in-None-clause-runs : goal.returns-in-None-clause-runs
returns-in-None-clause-runs g c = λ readings right.
    let words = c.args.words.now in
    let same : texts_of c.deref.result.now ≡ words =
    ap texts_of c.deref.ensures.value ∙ c.in_ok-texts.ensures in
    let none : None ≡ command_words words =
    (rw c.in-None.is at c.in_ok-asked.ensures.asked) ∙ ap command_words same in
    let before = outside (g.H.Inputs.state c.args.host.now) (g.O.Sink.state c.args.out.now)
    (g.P.PatternHost.state c.args.patterns.now) c.args.nested.now c.args.steps.now in
    let after = record before { sink = g.O.Sink.state c.refuse_words.new.out } in
    let inputs = before.inputs in
    let status = end_status c.refuse_words.result in
    inl (subst (RunsAsked c.args.limits.now readings words before after status) none (record {
      verdict = stops (recurs 0);
      judged = tt;
      patterns = λ refuses. absurd (cc);
      refused = tt;
      says = λ data_right lines. record {
        by = record {
          told = [];
          right = refl;
          run_ends = λ rest. c.refuse_words.ensures.ends before;
          patterns = refl;
          stops = λ failed. absurd (c.refuse_words.ensures.output failed);
        };
        opened = record {
          data_text = λ opened. absurd (not_opened (inputs.opens Data) opened);
          script = λ opened. absurd (not_opened (inputs.opens Script) opened);
        };
      };
    }))

pub returns-in-None-clause-causes : goal.returns-in-None-clause-causes
returns-in-None-clause-causes g c =
    let before = outside (g.H.Inputs.state c.args.host.now) (g.O.Sink.state c.args.out.now)
    (g.P.PatternHost.state c.args.patterns.now) c.args.nested.now c.args.steps.now in
    Ends-told None _ _ before (record before { sink = g.O.Sink.state c.refuse_words.new.out }) tt
    (c.refuse_words.ensures.ends before)

pub returns-in-None-clause-patterns : goal.returns-in-None-clause-patterns
returns-in-None-clause-patterns g c = inl (inl refl)

pub returns-in-None-clause-read : goal.returns-in-None-clause-read
returns-in-None-clause-read g c = λ answered.
    let words = c.args.words.now in
    let same : texts_of c.deref.result.now ≡ words =
    ap texts_of c.deref.ensures.value ∙ c.in_ok-texts.ensures in
    let none : None ≡ command_words words =
    (rw c.in-None.is at c.in_ok-asked.ensures.asked) ∙ ap command_words same in
    record {
      readings = record { shapes = Long; data_text = Long; lines = λ line. Err no_memory };
      shapes = rw (← none) tt;
      verdict = stops (recurs 0);
      judged = rw (← none) tt;
      data_text = rw (← none) tt;
      lines = λ calm. rw (← none) (λ document end plan is. absurd (cc));
    }

pub returns-in-None-clause-opened : goal.returns-in-None-clause-opened
returns-in-None-clause-opened g c = OpensInTurn-still (g.H.Inputs.state c.args.host.now) _

pub returns-in-None-clause-within : goal.returns-in-None-clause-within
returns-in-None-clause-within g c = StaysWithin-still c.args.limits.now (g.H.Inputs.state c.args.host.now)
