use Rattle.ttl_tokens.proofs.CharLemmas.{walk_on}
use Rattle.ttl_tokens.proofs.FormLemmas.{then_never}
use Rattle.ttl_tokens.proofs.StringLemmas.{short_end}
use Rattle.ttl_tokens.proofs.strings.short_string.Goals as goal

pub returns-in_err-inside : goal.returns-in_err-inside
returns-in_err-inside c = rw c.from_residual.ensures (then_never c.in_err-inside.ensures)

pub returns : goal.returns
returns c =
    walk_on _ (short_end c.args.mark c.requires c.in_ok-inside.ensures c.skip_short_chars-behind.ensures)
    c.past_char-2.ensures
