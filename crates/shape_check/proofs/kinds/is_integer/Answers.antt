use Rattle.std.proofs.Common.{rules}
use Rattle.shape_check.proofs.KindLemmas.{wide_integer-well_typed}
use Rattle.shape_check.proofs.kinds.is_integer.Goals as goal

pub returns-then-wide : goal.returns-then-wide
returns-then-wide c =
    let typed = wide_integer-well_typed c.args.literal.now (search rules) (search rules) in
    search (rules, typed)
