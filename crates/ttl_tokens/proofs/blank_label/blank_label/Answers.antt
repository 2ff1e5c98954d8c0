use Rattle.ttl_tokens.proofs.LabelLemmas.{label_found, label_not_begun, label_not_marked}
use Rattle.ttl_tokens.proofs.blank_label.blank_label.Goals as goal

pub returns-in_err-named : goal.returns-in_err-named
returns-in_err-named c = rw c.from_residual.ensures (label_not_marked c.in_err-named.ensures)

pub returns-in-Some : goal.returns-in-Some
returns-in-Some c = label_found c.in_ok-named.ensures c.in-Some.ensures c.skip_name_tail.ensures

pub returns-in-None : goal.returns-in-None
returns-in-None c = label_not_begun c.in_ok-named.ensures c.in-None.ensures
