use Rattle.std.specs.Str.{chars}
use Rattle.ttl_tokens.proofs.SquareLemmas.{no_square}
use Rattle.ttl_tokens.proofs.marks.square.Goals as goal

pub returns-in-None : goal.returns-in-None
returns-in-None c = no_square (chars c.args.text.now) c.in-None.ensures
