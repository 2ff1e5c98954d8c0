use Rattle.std.specs.Prelude.{◌≡◌, ◌++◌, map, take}
use Rattle.shx_term.specs.Pool.{with_terms}
use Rattle.shx_term.specs.TripleTerms.{terms_of}
use Rattle.edit_engine.proofs.stated.new_terms.Given as goal

abbrev pub invariant-loop-stated : goal.invariant-loop-stated
invariant-loop-stated l =
    with_terms l.pool.terms (terms_of (take l.stated-index l.triples))
    ≡ l.pool.terms ++ map (λ term. term.now) l.new.keys
