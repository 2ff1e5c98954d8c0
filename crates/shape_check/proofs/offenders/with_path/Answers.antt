use Rattle.std.proofs.Common.{rules}
use Rattle.shape_check.proofs.FirstLemmas.{first-filter}
use Rattle.shape_check.proofs.offenders.with_path.Goals as goal

pub returns-then-declared-eq-SH_NODE : goal.returns-then-declared-eq-SH_NODE
returns-then-declared-eq-SH_NODE c = rw (c.if-declared-eq-SH_NODE.true, first-filter) (search rules)
