use Rattle.std.proofs.lemmas.Map.Views.{All-insert_key}
use Rattle.read_records.proofs.PostingLemmas.{Adds-posting}
use Rattle.read_records.specs.inner.Postings.{HasNumbers, posting_cmp}
use Rattle.read_records.proofs.postings.Postings.insert.Goals as goal

pub invariant_of-self-2 : goal.invariant_of-self-2
invariant_of-self-2 c =
    rw c.in_ok-insert.ensures.keys
    (All-insert_key posting_cmp c.new.result HasNumbers c.self.inside.all.keys c.self.invariant
    c.new.ensures.numbers)

pub returns-clause-added : goal.returns-clause-added
returns-clause-added c =
    rw (← c.self.view_is, ← c.new.ensures.posting)
    (Adds-posting c.self.inside.all.keys c.insert.new.self.keys c.new.result c.in_ok-insert.ensures.updates.0)
