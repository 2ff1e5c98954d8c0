use Rattle.ttl_meaning.proofs.PlacedLemmas.{with_term-at, position-at}
use Rattle.ttl_meaning.proofs.placed.Placed.into_number.Goals as goal

pub returns-in-Id-clause-entered : goal.returns-in-Id-clause-entered
returns-in-Id-clause-entered c = λ t is.
    with_term-at c.args.pool.now.terms t c.in-Id.id (rw c.in-Id.is at is)

pub returns-in-Id-clause-found : goal.returns-in-Id-clause-found
returns-in-Id-clause-found c = λ t is.
    position-at c.args.pool.now.terms t c.in-Id.id c.len.ensures.distinct (rw c.in-Id.is at is)
