use Rattle.ttl_tokens.proofs.CharLemmas.{walk_on}
use Rattle.ttl_tokens.proofs.FormLemmas.{then_never}
use Rattle.ttl_tokens.proofs.IriRefLemmas.{behind_items}
use Rattle.ttl_tokens.proofs.iri_ref.in_angles.Goals as goal

pub returns-in_err-inside : goal.returns-in_err-inside
returns-in_err-inside c = rw c.from_residual.ensures (then_never c.in_err-inside.ensures)

pub returns : goal.returns
returns c =
    walk_on _ (behind_items c.in_ok-inside.ensures c.skip_iri_items-behind.ensures) c.past_char-2.ensures
