use Rattle.std.specs.Prelude.{Contains}
use Rattle.std.proofs.Common.{rules}
use Rattle.std.proofs.lemmas.Map.Views.{All-insert_key}
use Rattle.triple_store.proofs.IndexLemmas.{HasAlso-entered, sorted_at, new_at, absent_at}
use Rattle.triple_store.specs.inner.Arrangement.{HasNumbers, entry_cmp}
use Rattle.triple_store.proofs.index.Index.insert.Goals as goal

pub returns-in_err-new-clause-absent : goal.returns-in_err-new-clause-absent
returns-in_err-new-clause-absent c =
    let a = c.self.inside.arrangement in
    let entries = c.self.inside.entries.keys in
    let absent : Contains c.args.self.now.triples c.args.t → ⊥ =
    rw (← c.self.view_is)
    (absent_at a entries c.args.t c.entry.result c.entry.ensures.entry c.in_err-new.ensures.absent) in
    search rules

pub returns-in_err-new-clause-ordered : goal.returns-in_err-new-clause-ordered
returns-in_err-new-clause-ordered c =
    sorted_at c.self.inside.arrangement c.insert.new.self.keys c.insert.ensures.ordered

pub invariant_of-self-2 : goal.invariant_of-self-2
invariant_of-self-2 c =
    rw c.in_ok-new.ensures.keys
    (All-insert_key entry_cmp c.entry.result HasNumbers c.self.inside.entries.keys c.self.invariant
    c.entry.ensures.numbers)

pub returns-clause-added : goal.returns-clause-added
returns-clause-added c =
    rw (← c.self.view_is)
    (HasAlso-entered c.self.inside.arrangement c.self.inside.entries.keys c.insert.new.self.keys c.args.t
    c.entry.result c.entry.ensures.entry c.in_ok-new.ensures.updates.0)

pub returns-clause-new : goal.returns-clause-new
returns-clause-new c =
    rw (← c.self.view_is)
    (new_at c.self.inside.arrangement c.self.inside.entries.keys c.args.t c.entry.result c.in_ok-new.new
    c.entry.ensures.entry c.in_ok-new.ensures.added)

pub returns-clause-ordered : goal.returns-clause-ordered
returns-clause-ordered c =
    sorted_at c.self.inside.arrangement c.insert.new.self.keys c.insert.ensures.ordered
