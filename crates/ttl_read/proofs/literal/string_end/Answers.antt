use Rattle.std.proofs.Common.{refl, rules}
use Rattle.ttl_read.proofs.LiteralLemmas.{plain_at_none}
use Rattle.ttl_read.proofs.literal.string_end.Goals as goal

pub returns-in_ok-plain_string-in-Err-clause-parses :
    goal.returns-in_ok-plain_string-in-Err-clause-parses
returns-in_ok-plain_string-in-Err-clause-parses c =
    plain_at_none _ c.in-Err.field-0 _ _ _ _ c.utf8.text c.requires.stands c.in-Err.is (search rules) refl
