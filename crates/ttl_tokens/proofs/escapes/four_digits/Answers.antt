use Rattle.std.proofs.Common.{sym}
use Rattle.ttl_tokens.proofs.EscapeLemmas.{four_d, four_hex}
use Rattle.ttl_tokens.proofs.CharLemmas.{walk_on}
use Rattle.ttl_tokens.proofs.escapes.four_digits.Goals as goal

pub returns-then-is_d : goal.returns-then-is_d
returns-then-is_d c =
    walk_on _ (four_d c.in_ok-first.ensures (sym c.if-is_d.ensures)) c.below_surrogates.ensures

pub returns-then-is_hex : goal.returns-then-is_hex
returns-then-is_hex c =
    walk_on _ (four_hex c.in_ok-first.ensures (sym c.if-is_hex.ensures) (sym c.if-is_d.ensures))
    c.hex_3.ensures
