use Rattle.std.proofs.Common.{rules}
use Rattle.shape_refs.proofs.TruthLemmas.{boolean_not_wide}
use Rattle.shape_refs.proofs.truth.is_true_literal.Goals as goal

pub value_of-requires : goal.value_of-requires
value_of-requires c = boolean_not_wide c.args.literal.now (search rules)
