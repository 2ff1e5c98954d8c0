use Rattle.shx_term.specs.inner.TermOrderLaws.{term_cmp_exact}
use Rattle.shx_term.proofs.order.equal_terms_are_one.Goals as goal

pub returns : goal.returns
returns c = term_cmp_exact
