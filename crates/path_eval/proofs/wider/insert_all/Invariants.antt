use Rattle.std.specs.Prelude.{take}
use Rattle.path_eval.specs.inner.Reached.{Joins}
use Rattle.path_eval.proofs.wider.insert_all.Given as goal

abbrev pub invariant-loop-class : goal.invariant-loop-class
invariant-loop-class l = Joins l.fn.classes.keys (take l.class-index l.others) l.classes.keys
