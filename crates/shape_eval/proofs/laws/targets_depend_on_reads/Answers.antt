use Rattle.shape_eval.proofs.TargetLemmas.{targets_depend}
use Rattle.shape_eval.proofs.laws.targets_depend_on_reads.Goals as goal

pub returns : goal.returns
returns c =
    targets_depend c.paths_depend_on_their_reads.ensures c.look_ups_agree.ensures.by_predicate
    (λ g p t held. ((c.look_ups_give_what_is_held.ensures.by_predicate g p t).0 held).0)
