use Rattle.std.proofs.Common.{rules}
use Rattle.std.proofs.lemmas.Bool.{false≢true}
use Rattle.shx_outside.specs.declared.role.Role.TheVariants.{Script}
use Rattle.text_input.specs.declared.script_reader.Line.TheVariants.{End, PastLimit}
use Rattle.text_input.proofs.CountLemmas.{GoesOn-part}
use Rattle.text_input.proofs.LinePartLemmas.{Gathers-part, line-ended, line-cut, line-last, line-none}
use Rattle.text_input.proofs.ReadLineLemmas.{HasGathered-filled, IsLineRead-failed, IsLineRead-memory}
use Rattle.text_input.proofs.ReadLineLemmas.{IsLineRead-line}
use Rattle.text_input.proofs.script_reader.ScriptReader.next_line.Goals as goal

pub returns-in_err-fill : goal.returns-in_err-fill
returns-in_err-fill g c =
    let fill = c.fill.ensures in
    IsLineRead-failed c.loop-line.invariant fill.took fill.budget fill.goes_on fill.admitted
    c.from_residual.result c.in_err-fill.ensures.failed c.in_err-fill.ensures.cause.failed
    (λ ended. false≢true (c.in_err-fill.ensures.ended ended)) c.from_residual.ensures.1

pub returns-then-nothing : goal.returns-then-nothing
returns-then-nothing g c =
    let fill = c.fill.ensures in
    let has = HasGathered-filled c.loop-line.invariant fill.took fill.budget fill.goes_on fill.admitted
    c.in_ok-fill.ensures.cause.quiet in
    let rest = (g.I.Inputs.state c.fill.new.host).rest Script in
    let end = c.in_ok-fill.ensures.end (search rules) in
    IsLineRead-line End has has.goes_on
    (line-none _ rest c.fill.new.self _ _ _ has.gathers end.0 (fill.goes_on.met.told end.1) (search rules))

pub returns-then-not-branch : goal.returns-then-not-branch
returns-then-not-branch g c =
    let fill = c.fill.ensures in
    let has = HasGathered-filled c.loop-line.invariant fill.took fill.budget fill.goes_on fill.admitted
    c.in_ok-fill.ensures.cause.quiet in
    let rest = (g.I.Inputs.state c.fill.new.host).rest Script in
    let end = c.in_ok-fill.ensures.end (search rules) in
    IsLineRead-line c.line_of.result has has.goes_on
    (line-last _ rest c.fill.new.self _ _ _ has.gathers end.0 (fill.goes_on.met.told end.1) end.1
    (search rules) c.line_of.result c.line_of.ensures)

pub returns-in_err-take_part : goal.returns-in_err-take_part
returns-in_err-take_part g c =
    let fill = c.fill.ensures in
    let has = HasGathered-filled c.loop-line.invariant fill.took fill.budget fill.goes_on fill.admitted
    c.in_ok-fill.ensures.cause.quiet in
    IsLineRead-memory c.take_part.new.self c.from_residual-in_err-take_part.result has
    c.in_err-take_part.ensures.failed c.from_residual-in_err-take_part.ensures.1

pub loop-line-preserved : goal.loop-line-preserved
loop-line-preserved g c =
    let fill = c.fill.ensures in
    let has = HasGathered-filled c.loop-line.invariant fill.took fill.budget fill.goes_on fill.admitted
    c.in_ok-fill.ensures.cause.quiet in
    let rest = (g.I.Inputs.state c.fill.new.host).rest Script in
    let part = rw c.in-Inner.is at c.in_ok-take_part.ensures.part in
    record {
      gathers = Gathers-part _ rest c.fill.new.self c.take_part.new.self _ _ _ _ has.gathers part.0;
      goes_on = GoesOn-part c.take_part.new.self _ _ _ _ has.goes_on c.take_part.ensures.ended part.0;
      quiet = has.quiet;
      admitted = has.admitted;
    }

pub returns-in-Last : goal.returns-in-Last
returns-in-Last g c =
    let fill = c.fill.ensures in
    let has = HasGathered-filled c.loop-line.invariant fill.took fill.budget fill.goes_on fill.admitted
    c.in_ok-fill.ensures.cause.quiet in
    let rest = (g.I.Inputs.state c.fill.new.host).rest Script in
    let part = rw c.in-Last.is at c.in_ok-take_part.ensures.part in
    IsLineRead-line c.line_of-in-Last.result has
    (GoesOn-part c.take_part.new.self _ _ _ _ has.goes_on c.take_part.ensures.ended part)
    (line-ended _ rest c.fill.new.self c.take_part.new.self _ _ _ _ has.gathers part
    c.line_of-in-Last.result c.line_of-in-Last.ensures)

pub returns-in-Cut : goal.returns-in-Cut
returns-in-Cut g c =
    let fill = c.fill.ensures in
    let has = HasGathered-filled c.loop-line.invariant fill.took fill.budget fill.goes_on fill.admitted
    c.in_ok-fill.ensures.cause.quiet in
    let rest = (g.I.Inputs.state c.fill.new.host).rest Script in
    let part = rw c.in-Cut.is at c.in_ok-take_part.ensures.part in
    IsLineRead-line PastLimit has
    (rw part.same has.goes_on)
    (line-cut _ rest c.fill.new.self c.take_part.new.self _ _ _ c.take_part.new.line.items has.gathers part)
