use Rattle.std.proofs.Common.{subst, sym}
use Rattle.shx_term.specs.Pool.{IsPool}
use Rattle.shx_term.proofs.VocabularyLemmas.{IsPool-take}
use Rattle.shx_term.proofs.pool.Pool.cut.Goals as goal

pub invariant_of-self : goal.invariant_of-self
invariant_of-self c =
    let pool = c.self.inside in
    subst (λ terms. IsPool terms pool.limit) (sym c.truncate.ensures.keys)
    (IsPool-take pool.terms.keys pool.limit c.args.len c.requires.vocabulary c.self.invariant)
