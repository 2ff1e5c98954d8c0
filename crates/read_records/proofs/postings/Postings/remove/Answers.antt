use Rattle.std.proofs.lemmas.Map.Views.{All-remove_key}
use Rattle.read_records.proofs.PostingLemmas.{IsWithout-posting, same_posting}
use Rattle.read_records.specs.inner.Postings.{HasNumbers}
use Rattle.read_records.proofs.postings.Postings.remove.Goals as goal

pub invariant_of-self : goal.invariant_of-self
invariant_of-self c =
    rw c.remove.ensures.keys
    (All-remove_key (same_posting c.new.result) HasNumbers c.self.inside.all.keys c.self.invariant)

pub returns : goal.returns
returns c =
    rw (← c.self.view_is, ← c.new.ensures.posting)
    (IsWithout-posting c.self.inside.all.keys c.remove.new.self.keys c.new.result c.remove.ensures.updates.0)
