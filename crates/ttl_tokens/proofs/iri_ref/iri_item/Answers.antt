use Rattle.std.proofs.Common.{sym}
use Rattle.ttl_tokens.proofs.CharLemmas.{walk_on}
use Rattle.ttl_tokens.proofs.IriRefLemmas.{item_escaped}
use Rattle.ttl_tokens.proofs.iri_ref.iri_item.Goals as goal

pub returns-else-is_iri_char : goal.returns-else-is_iri_char
returns-else-is_iri_char c =
    walk_on _ (item_escaped c.in_ok-first.ensures (sym c.if-is_iri_char.ensures)) c.uchar.ensures
