use Rattle.std.specs.BTreeMap.{IsFromIterResult}
use Rattle.std.specs.Prelude.{map}
use Rattle.std.proofs.Common.{rules}
use Rattle.std.proofs.lemmas.Iterator.{YieldsList-from_map}
use Rattle.std.proofs.lemmas.Iterator.Adapters.{YieldsList-from_vec, fact_from_collect}
use Rattle.std.proofs.lemmas.Iterator.Consumers.{YieldsList-at}
use Rattle.std.proofs.lemmas.Result.{IfOk-at_ok}
use Rattle.read_records.specs.Reader.{reader_cmp}
use Rattle.read_records.proofs.RecallLemmas.{AreFilled-given, kept_given, pair_note}
use Rattle.read_records.proofs.recall.Recall.of_all.Goals as goal

-- the notes are collected
collected : (c : goal.In_ok-of_kept)
    → IsFromIterResult reader_cmp (map pair_note c.args.all.items) c.in_ok-kept.kept
collected c =
    IfOk-at_ok (IsFromIterResult reader_cmp (map pair_note c.args.all.items)) c.in_ok-kept.was
    (fact_from_collect (IsFromIterResult reader_cmp) c.collect.result c.collect.ensures.ran
    (YieldsList-from_map _ pair_note
    (YieldsList-at c.map.ensures.source
    (YieldsList-from_vec c.args.all.items c.into_iter.ensures.rest (search rules)))
    c.map.ensures.closure (λ x r q k. search rules)))

-- and so before they are filed
collected_before : (c : goal.In_ok-kept)
    → IsFromIterResult reader_cmp (map pair_note c.args.all.items) c.in_ok-kept.kept
collected_before c =
    IfOk-at_ok (IsFromIterResult reader_cmp (map pair_note c.args.all.items)) c.in_ok-kept.was
    (fact_from_collect (IsFromIterResult reader_cmp) c.collect.result c.collect.ensures.ran
    (YieldsList-from_map _ pair_note
    (YieldsList-at c.map.ensures.source
    (YieldsList-from_vec c.args.all.items c.into_iter.ensures.rest (search rules)))
    c.map.ensures.closure (λ x r q k. search rules)))

pub returns-clause-kept : goal.returns-clause-kept
returns-clause-kept c =
    rw c.in_ok-of_kept.ensures
    (kept_given c.args.all.items c.in_ok-kept.kept (collected c) c.requires.once)

pub of_kept-requires : goal.of_kept-requires
of_kept-requires c = AreFilled-given c.args.all.items c.in_ok-kept.kept (collected_before c) c.requires.once
