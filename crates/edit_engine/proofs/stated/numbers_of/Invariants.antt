use Rattle.std.specs.Prelude.{◌≡◌, take}
use Rattle.shx_term.specs.TripleTerms.{numbered_all}
use Rattle.edit_engine.proofs.stated.numbers_of.Given as goal

abbrev pub invariant-loop-stated : goal.invariant-loop-stated
invariant-loop-stated l =
    l.found.items ≡ numbered_all l.pool.terms (take l.stated-index l.triples)
