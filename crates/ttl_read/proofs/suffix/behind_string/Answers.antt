use Rattle.ttl_read.proofs.FoundLemmas.{nothing_at_none, nothing_at_other, nothing_at_carets}
use Rattle.ttl_read.proofs.suffix.behind_string.Goals as goal

pub returns-in_default : goal.returns-in_default
returns-in_default c =
    nothing_at_none c.args.text.now c.args.string.now c.utf8.text c.in_default.field-0.at
    c.in_default.ensures.none

pub returns-in-None : goal.returns-in-None
returns-in-None c =
    nothing_at_carets c.args.text.now c.args.string.now c.utf8.text c.in-Ok.next c.in-Ok.ensures.found
    c.in-Carets.is c.in-None.ensures

pub returns-in_default-kind : goal.returns-in_default-kind
returns-in_default-kind c =
    nothing_at_other c.args.text.now c.args.string.now c.utf8.text c.in-Ok.next c.in-Ok.ensures.found
    c.in_default-kind.not-LangTag c.in_default-kind.not-Carets
