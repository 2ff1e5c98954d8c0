use Rattle.shape_text.proofs.StatedLemmas.{entered_next}
use Rattle.shape_text.proofs.stated_plan.each_once.Goals as goal

pub loop-t-preserved : goal.loop-t-preserved
loop-t-preserved c =
    entered_next c.args.triples.now c.loop-t.t-index _ c.loop-t-test.true c.loop-t.once.keys
    c.insert.new.self.keys c.loop-t.invariant c.in_ok-insert.ensures.keys
