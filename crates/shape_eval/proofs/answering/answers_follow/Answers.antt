use Rattle.shape_eval.proofs.AnswerLemmas.{asks_below, follow}
use Rattle.shape_eval.proofs.answering.answers_follow.Goals as goal

pub returns-clause-follow : goal.returns-clause-follow
returns-clause-follow c =
    follow c.paths_depend_on_their_reads.ensures c.laws.ensures.agreement c.laws.ensures.asks_values

pub returns-clause-asks : goal.returns-clause-asks
returns-clause-asks c = asks_below c.laws.ensures.asks_values
