use Rattle.std.proofs.Common.{◌≡◌, map, take}
use Rattle.shx_term.specs.Pool.{with_terms}
use Rattle.shx_term.specs.declared.term.Term.TheVariants.{Iri}
use Rattle.shx_term.proofs.vocabulary.enter_iris.Given as goal

abbrev pub invariant-loop-iri : goal.invariant-loop-iri
invariant-loop-iri l =
    l.terms.keys ≡ with_terms l.fn.terms.keys (map (λ row. Iri row.1.now) (take l.iri-index l.rows))
