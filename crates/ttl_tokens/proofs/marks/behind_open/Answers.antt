use Rattle.std.specs.Str.{chars}
use Rattle.ttl_tokens.proofs.SquareLemmas.{anon_found, square_found}
use Rattle.ttl_tokens.proofs.marks.behind_open.Goals as goal

pub returns-in-Some : goal.returns-in-Some
returns-in-Some c =
    anon_found (chars c.args.inside.now) _ (chars c.in-Some.rest.now) c.skip_blanks.ensures c.in-Some.ensures

pub returns-in-None : goal.returns-in-None
returns-in-None c =
    square_found (chars c.args.inside.now) _ c.skip_blanks.ensures c.in-None.ensures
