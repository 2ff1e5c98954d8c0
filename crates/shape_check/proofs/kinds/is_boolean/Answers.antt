use Rattle.std.proofs.Common.{rules}
use Rattle.shape_check.proofs.KindLemmas.{boolean_is_narrow}
use Rattle.shape_check.proofs.kinds.is_boolean.Goals as goal

pub value_of-requires : goal.value_of-requires
value_of-requires c = boolean_is_narrow c.args.literal.now (search rules)
