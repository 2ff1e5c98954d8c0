use Rattle.std.proofs.Common.{◌∙◌}
use Rattle.shx_term.proofs.TermEqualityLemmas.{same_parts-is}
use Rattle.shx_term.proofs.order.TermPartialEq.eq.Goals as goal

pub returns : goal.returns
returns c = c.same_parts.ensures ∙ same_parts-is c.args.self.now c.args.other.now
