use Rattle.shx_term.proofs.VocabularyLemmas.{length-vocabulary, vocabulary_stands}
use Rattle.shx_term.proofs.vocabulary.vocabulary_stands.Goals as goal

pub returns-clause-count : goal.returns-clause-count
returns-clause-count c = length-vocabulary

pub returns-clause-terms : goal.returns-clause-terms
returns-clause-terms c = vocabulary_stands
