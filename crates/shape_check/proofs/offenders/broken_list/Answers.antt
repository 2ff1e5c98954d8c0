use Rattle.std.proofs.Common.{◌∙◌}
use Rattle.shape_check.proofs.ListLemmas.{first_broken-told}
use Rattle.shape_check.proofs.offenders.broken_list.Goals as goal

pub returns : goal.returns
returns c = c.first_broken.ensures ∙ first_broken-told c.lists_of.result.now _ c.lists_of.ensures
