use Rattle.std.proofs.Common.{rules}
use Rattle.shape_check.proofs.FirstLemmas.{first-filter}
use Rattle.shape_check.proofs.offenders.without_path.Goals as goal

pub returns-then-declared-eq-SH_PROPERTY : goal.returns-then-declared-eq-SH_PROPERTY
returns-then-declared-eq-SH_PROPERTY c = rw (c.if-declared-eq-SH_PROPERTY.true, first-filter) (search rules)
