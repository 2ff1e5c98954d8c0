use Rattle.std.proofs.Common.{sym}
use Rattle.ttl_tokens.proofs.EscapeLemmas.{low_digit}
use Rattle.ttl_tokens.proofs.CharLemmas.{walk_on}
use Rattle.ttl_tokens.proofs.escapes.low_plane.Goals as goal

pub returns-then-is_hex : goal.returns-then-is_hex
returns-then-is_hex c =
    walk_on _ (low_digit c.in_ok-first.ensures c.if-first-ne48.true (sym c.if-is_hex.ensures)) c.hex_4.ensures
