use Rattle.std.specs.Prelude.{All, map}
use Rattle.std.specs.BTreeSet.{IsFromIterResult}
use Rattle.std.proofs.Common.{rules}
use Rattle.std.proofs.lemmas.Iterator.{YieldsList-from_map, YieldsList-from_slice}
use Rattle.std.proofs.lemmas.Iterator.Adapters.{fact_from_collect}
use Rattle.std.proofs.lemmas.Iterator.Consumers.{YieldsList-at}
use Rattle.std.proofs.lemmas.Result.{IfOk-at_ok}
use Rattle.triple_store.proofs.ArrangementLemmas.{HasNumbers-entry}
use Rattle.triple_store.proofs.IndexLemmas.{SameMembers-collected, HasNumbers-collected, sorted_at}
use Rattle.triple_store.specs.inner.Arrangement.{entry_of, entry_cmp, HasNumbers}
use Rattle.triple_store.proofs.index.Index.from_triples.Goals as goal

-- the entries of the triples are collected
collected : (c : goal.In_ok-entries)
    → IsFromIterResult entry_cmp (map (entry_of c.args.arrangement) c.args.triples.now)
    c.in_ok-entries.entries
collected c =
    let a = c.args.arrangement in
    let triples = c.args.triples.now in
    IfOk-at_ok (IsFromIterResult entry_cmp (map (entry_of a) triples)) c.in_ok-entries.was
    (fact_from_collect (IsFromIterResult entry_cmp) c.collect.result c.collect.ensures.ran
    (YieldsList-from_map _ (entry_of a)
    (YieldsList-at c.map.ensures.source (YieldsList-from_slice triples c.iter.ensures.rest))
    c.map.ensures.closure (λ x r q k. search rules)))

pub invariant_of-result : goal.invariant_of-result
invariant_of-result c =
    let a = c.args.arrangement in
    let triples = c.args.triples.now in
    let numbers : All (λ t. HasNumbers (entry_of a t)) triples = λ k d inside.
    HasNumbers-entry a _ (search rules) (search rules) (search rules) in
    HasNumbers-collected a triples c.in_ok-entries.entries (collected c) numbers

pub returns-clause-holds : goal.returns-clause-holds
returns-clause-holds c =
    SameMembers-collected c.args.arrangement c.args.triples.now c.in_ok-entries.entries (collected c)

pub returns-clause-ordered : goal.returns-clause-ordered
returns-clause-ordered c = sorted_at c.args.arrangement c.in_ok-entries.entries.keys (collected c).1
