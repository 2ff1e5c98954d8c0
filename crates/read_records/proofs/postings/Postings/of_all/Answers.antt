use Rattle.std.specs.BTreeSet.{IsFromIterResult}
use Rattle.std.proofs.Common.{rules}
use Rattle.std.proofs.lemmas.Iterator.Adapters.{YieldsList-from_vec, fact_from_collect}
use Rattle.std.proofs.lemmas.Result.{IfOk-at_ok}
use Rattle.read_records.proofs.PostingLemmas.{Contains-collected, HasNumbers-collected}
use Rattle.read_records.specs.inner.Postings.{posting_cmp}
use Rattle.read_records.proofs.postings.Postings.of_all.Goals as goal

-- the readings are collected
collected : (c : goal.In_ok-all) → IsFromIterResult posting_cmp c.args.all.items c.in_ok-all.all
collected c =
    IfOk-at_ok (IsFromIterResult posting_cmp c.args.all.items) c.in_ok-all.was
    (fact_from_collect (IsFromIterResult posting_cmp) c.collect.result c.collect.ensures.ran
    (YieldsList-from_vec c.args.all.items c.into_iter.ensures.rest (search rules)))

pub invariant_of-result : goal.invariant_of-result
invariant_of-result c =
    HasNumbers-collected c.args.all.items c.in_ok-all.all (collected c) c.requires

pub returns : goal.returns
returns c = Contains-collected c.args.all.items c.in_ok-all.all (collected c)
