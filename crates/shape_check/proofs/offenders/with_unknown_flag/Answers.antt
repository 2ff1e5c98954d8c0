use Rattle.std.proofs.Common.{rules}
use Rattle.shape_check.proofs.FirstLemmas.{first-filter}
use Rattle.shape_check.proofs.offenders.with_unknown_flag.Goals as goal

pub returns-then-declared-eq-SH_FLAGS : goal.returns-then-declared-eq-SH_FLAGS
returns-then-declared-eq-SH_FLAGS c = rw (c.if-declared-eq-SH_FLAGS.true, first-filter) (search rules)
