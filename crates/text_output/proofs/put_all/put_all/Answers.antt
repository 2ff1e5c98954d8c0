use Rattle.std.proofs.Common.{rules}
use Rattle.text_output.specs.inner.AddedLaws.{Sent-on, FellShort-on}
use Rattle.text_output.proofs.WriterLemmas.{Put-front, FellShort-at_once, Writes-short}
use Rattle.text_output.proofs.put_all.put_all.Goals as goal

pub loop-rest-preserved : goal.loop-rest-preserved
loop-rest-preserved g c =
    let state = g.O.Sink.state in
    let put = c.in_ok-count.ensures in
    Sent-on c.loop-rest.invariant
    (Put-front (state c.loop-rest.out) (state c.put.new.self) c.loop-rest.rest.now
    c.in_ok-count.count put.count.1 put.grew put.fell put.cause.quiet)

pub returns-in_err-count : goal.returns-in_err-count
returns-in_err-count g c =
    let state = g.O.Sink.state in
    let put = c.in_err-count.ensures in
    Writes-short c.from_residual.ensures.0 (FellShort-on c.loop-rest.invariant
    (FellShort-at_once (state c.loop-rest.out) (state c.put.new.self) c.loop-rest.rest.now
    (search rules) put.failed put.used_up put.cause.failed))
