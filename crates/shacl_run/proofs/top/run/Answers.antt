use Rattle.shacl_run.specs.Outside.{outside}
use Rattle.shacl_run.specs.inner.Stops.{stop_status}
use Rattle.shacl_run.proofs.RunLemmas.{IsRun-ended}
use Rattle.shacl_run.proofs.top.run.Goals as goal

pub returns-in-Ok : goal.returns-in-Ok
returns-in-Ok g c =
    let run = c.in-Ok.ensures in
    let before = outside (g.H.Inputs.state c.args.host.now) (g.O.Sink.state c.args.out.now)
    (g.P.PatternHost.state c.args.patterns.now) c.args.nested.now c.args.steps.now in
    let after = outside (g.H.Inputs.state c.run_words.new.host) (g.O.Sink.state c.run_words.new.out)
    (g.P.PatternHost.state c.run_words.new.patterns) c.run_words.new.nested c.run_words.new.steps in
    IsRun-ended c.args.limits.now c.args.words.now before after c.in-Ok.status
    run.runs run.causes run.patterns run.read run.read_to_end run.opened run.within

pub returns-in-Err : goal.returns-in-Err
returns-in-Err g c =
    let run = c.in-Err.ensures in
    let before = outside (g.H.Inputs.state c.args.host.now) (g.O.Sink.state c.args.out.now)
    (g.P.PatternHost.state c.args.patterns.now) c.args.nested.now c.args.steps.now in
    let after = outside (g.H.Inputs.state c.run_words.new.host) (g.O.Sink.state c.run_words.new.out)
    (g.P.PatternHost.state c.run_words.new.patterns) c.run_words.new.nested c.run_words.new.steps in
    rw c.status_of_stop.ensures
    (IsRun-ended c.args.limits.now c.args.words.now before after (stop_status c.in-Err.stop)
    run.runs run.causes run.patterns run.read run.read_to_end run.opened run.within)
