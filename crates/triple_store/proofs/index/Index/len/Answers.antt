use Rattle.std.proofs.Common.{subst}
use Rattle.triple_store.proofs.IndexLemmas.{sorted_at}
use Rattle.triple_store.specs.inner.Index.{IsArranged}
use Rattle.triple_store.proofs.index.Index.len.Goals as goal

pub returns-clause-ordered : goal.returns-clause-ordered
returns-clause-ordered c =
    let entries = c.self.inside.entries.keys in
    subst IsArranged c.self.view_is (sorted_at c.self.inside.arrangement entries c.len.ensures.ordered)
