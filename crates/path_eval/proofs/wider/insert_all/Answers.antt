use Rattle.path_eval.proofs.JoinLemmas.{Joins-take_one}
use Rattle.path_eval.proofs.WiderLemmas.{Joins-class}
use Rattle.path_eval.proofs.wider.insert_all.Goals as goal

pub loop-class-preserved : goal.loop-class-preserved
loop-class-preserved c =
    rw c.in_ok-insert.ensures.keys
    (Joins-take_one c.args.others.now c.loop-class.class-index _ c.loop-class-test.true
    c.loop-class.invariant (Joins-class c.loop-class.classes.keys _))
