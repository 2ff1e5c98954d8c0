use Rattle.shape_eval.proofs.OwnLemmas.{own_answer, own_reads_depend, reads_own_or_below}
use Rattle.shape_eval.proofs.laws.reads_are_own_or_below.Goals as goal

pub returns-clause-parts : goal.returns-clause-parts
returns-clause-parts c =
    reads_own_or_below c.paths_depend_on_their_reads.ensures c.laws.ensures.agreement
    c.laws.ensures.asks_values

pub returns-clause-answers : goal.returns-clause-answers
returns-clause-answers c = λ shapes g p d. own_answer shapes g p d

pub returns-clause-depend : goal.returns-clause-depend
returns-clause-depend c = own_reads_depend c.paths_depend_on_their_reads.ensures c.laws.ensures.agreement
