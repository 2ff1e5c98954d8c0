use Rattle.std.proofs.Common.{refl}
use Rattle.shx_term.specs.Vocabulary.{vocabulary}
use Rattle.shx_term.proofs.vocabulary.vocabulary_rows.Goals as goal

pub returns : goal.returns
unfolding vocabulary
returns c = refl
