use Rattle.path_eval.proofs.WiderLemmas.{Meets-take_one}
use Rattle.path_eval.proofs.wider.Climb.meet_all.Goals as goal

pub loop-class-preserved : goal.loop-class-preserved
loop-class-preserved c =
    Meets-take_one c.args.known.now.entries c.args.classes.now c.loop-class.class-index _
    c.loop-class-test.true c.args.self.now.wider c.loop-class.self.wider c.meet.new.self.wider
    c.loop-class.invariant c.in_ok-meet.ensures
