use Rattle.std.proofs.Common.{arith}
use Rattle.edit_engine.proofs.StatedLemmas.{fits_left}
use Rattle.edit_engine.proofs.stated.has_room_for_terms.Goals as goal

pub returns-then-triples-left : goal.returns-then-triples-left
returns-then-triples-left c =
    fits_left c.args.pool.now.terms c.args.triples.now c.args.pool.now.limit
    (omega (arith, c.len.ensures.count, c.len.ensures.within))
    (omega (arith, c.len.ensures.count, c.limit.ensures, c.if-triples-left.true))
