use Rattle.std.proofs.Common.{refl, rules, sym}
use Rattle.ttl_tokens.specs.Chars.{is_name_char}
use Rattle.ttl_tokens.specs.Form.{Item}
use Rattle.ttl_tokens.proofs.DottedLemmas.{last_no_dot}
use Rattle.ttl_tokens.proofs.FormLemmas.{or_never}
use Rattle.ttl_tokens.proofs.CharLemmas.{char_never, char_only}
use Rattle.ttl_tokens.proofs.name_walks.name_step.Goals as goal

pub returns-then-is_name_char : goal.returns-then-is_name_char
returns-then-is_name_char c =
    last_no_dot (Item is_name_char) refl refl
    (char_only c.in_ok-first.ensures (sym c.if-is_name_char.ensures))

pub returns-else-first-eq46 : goal.returns-else-first-eq46
returns-else-first-eq46 c =
    or_never (char_never c.in_ok-first.ensures (sym c.if-is_name_char.ensures))
    (char_never c.in_ok-first.ensures (search rules))
