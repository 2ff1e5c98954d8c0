use Rattle.read_records.proofs.PostingLemmas.{Adds-pushed}
use Rattle.read_records.specs.inner.Postings.{posting}
use Rattle.read_records.proofs.gathered.PostingList.push.Goals as goal

pub returns-clause-added : goal.returns-clause-added
returns-clause-added c =
    rw (← c.self.view_is, c.in_ok-push.ensures.items, c.new.ensures.posting)
    (Adds-pushed c.self.inside.all.items (posting c.args.place c.args.whom))
