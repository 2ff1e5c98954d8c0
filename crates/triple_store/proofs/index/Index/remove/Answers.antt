use Rattle.std.proofs.lemmas.Map.Views.{All-remove_key}
use Rattle.triple_store.proofs.IndexLemmas.{IsWithout-entry, same_entry, sorted_at, tested_at}
use Rattle.triple_store.specs.inner.Arrangement.{HasNumbers}
use Rattle.triple_store.proofs.index.Index.remove.Goals as goal

pub invariant_of-self : goal.invariant_of-self
invariant_of-self c =
    rw c.remove.ensures.keys
    (All-remove_key (same_entry c.entry.result) HasNumbers c.self.inside.entries.keys c.self.invariant)

pub returns-clause-removed : goal.returns-clause-removed
returns-clause-removed c =
    rw (← c.self.view_is)
    (IsWithout-entry c.self.inside.arrangement c.self.inside.entries.keys c.remove.new.self.keys c.args.t.now
    c.entry.result c.entry.ensures.entry c.remove.ensures.updates.0)

pub returns-clause-held : goal.returns-clause-held
returns-clause-held c =
    rw (← c.self.view_is)
    (tested_at c.self.inside.arrangement c.self.inside.entries.keys c.args.t.now c.entry.result
    c.remove.result c.entry.ensures.entry c.remove.ensures.test)

pub returns-clause-ordered : goal.returns-clause-ordered
returns-clause-ordered c =
    sorted_at c.self.inside.arrangement c.remove.new.self.keys c.remove.ensures.ordered
