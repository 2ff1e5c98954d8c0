use Rattle.shape_eval.proofs.LevelLemmas.{levels}
use Rattle.shape_eval.proofs.laws.levels_do_not_matter.Goals as goal

pub returns : goal.returns
returns c = λ shapes lower.
    levels c.paths_depend_on_their_reads.ensures c.laws.ensures.agreement c.laws.ensures.asks_values shapes
    lower
