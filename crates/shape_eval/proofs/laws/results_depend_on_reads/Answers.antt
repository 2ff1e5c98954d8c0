use Rattle.shape_eval.proofs.LevelLemmas.{depends}
use Rattle.shape_eval.proofs.laws.results_depend_on_reads.Goals as goal

pub returns : goal.returns
returns c = λ shapes lower.
    depends c.paths_depend_on_their_reads.ensures c.laws.ensures.agreement c.laws.ensures.asks_values shapes
    lower
