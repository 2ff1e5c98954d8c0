use Rattle.std.proofs.Common.{◌≡◌, ap, sym, ◌∙◌, append-nil, arith, length, refl, []}
use Rattle.shx_term.specs.Vocabulary.{vocabulary}
use Rattle.shx_term.proofs.VocabularyLemmas.{length-vocabulary}
use Rattle.shx_term.proofs.pool.Pool.with_vocabulary.Goals as goal

pub from_terms-requires : goal.from_terms-requires
unfolding vocabulary
from_terms-requires c =
    let entered : c.enter_iris.new.terms.keys ≡ vocabulary =
    rw c.with_hasher-terms.ensures.empty at c.in_ok-enter_iris.ensures in
    record {
      within = omega (arith, ap length entered, length-vocabulary);
      vocabulary = record { more = []; begins = entered ∙ sym (append-nil vocabulary) };
    }

pub returns-clause-terms : goal.returns-clause-terms
unfolding vocabulary
returns-clause-terms c =
    let entered : c.enter_iris.new.terms.keys ≡ vocabulary =
    rw c.with_hasher-terms.ensures.empty at c.in_ok-enter_iris.ensures in
    rw c.from_terms.ensures entered

pub returns-clause-limit : goal.returns-clause-limit
returns-clause-limit c = rw c.from_terms.ensures refl
