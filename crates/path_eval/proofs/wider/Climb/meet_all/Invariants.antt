use Rattle.std.specs.Prelude.{take}
use Rattle.path_eval.specs.inner.Climbed.{Meets}
use Rattle.path_eval.proofs.wider.Climb.meet_all.Given as goal

abbrev pub invariant-loop-class : goal.invariant-loop-class
invariant-loop-class l = Meets l.known.entries (take l.class-index l.classes) l.fn.self.wider l.self.wider
