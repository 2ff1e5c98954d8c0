use Rattle.std.specs.BTreeMap.{IsFromIterResult}
use Rattle.std.specs.Prelude.{map}
use Rattle.std.proofs.Common.{rules}
use Rattle.std.proofs.lemmas.Iterator.{YieldsList-from_map}
use Rattle.std.proofs.lemmas.Iterator.Adapters.{YieldsList-from_vec, fact_from_collect}
use Rattle.std.proofs.lemmas.Iterator.Consumers.{YieldsList-at}
use Rattle.std.proofs.lemmas.Result.{IfOk-at_ok}
use Rattle.read_records.specs.Reader.{reader_cmp}
use Rattle.read_records.proofs.GatheredLemmas.{AreFilled-of_all, as_note, recorded_of_all, without_value}
use Rattle.read_records.proofs.records.Records.of_all.Goals as goal

-- the notes are collected
collected : (c : goal.In_ok-of_kept)
    → IsFromIterResult reader_cmp (map (as_note without_value) c.args.all.items) c.in_ok-kept.kept
collected c =
    IfOk-at_ok (IsFromIterResult reader_cmp (map (as_note without_value) c.args.all.items)) c.in_ok-kept.was
    (fact_from_collect (IsFromIterResult reader_cmp) c.collect.result c.collect.ensures.ran
    (YieldsList-from_map _ (as_note without_value)
    (YieldsList-at c.map.ensures.source
    (YieldsList-from_vec c.args.all.items c.into_iter.ensures.rest (search rules)))
    c.map.ensures.closure (λ x r q k. search rules)))

-- and so before they are filed
collected_before : (c : goal.In_ok-kept)
    → IsFromIterResult reader_cmp (map (as_note without_value) c.args.all.items) c.in_ok-kept.kept
collected_before c =
    IfOk-at_ok (IsFromIterResult reader_cmp (map (as_note without_value) c.args.all.items)) c.in_ok-kept.was
    (fact_from_collect (IsFromIterResult reader_cmp) c.collect.result c.collect.ensures.ran
    (YieldsList-from_map _ (as_note without_value)
    (YieldsList-at c.map.ensures.source
    (YieldsList-from_vec c.args.all.items c.into_iter.ensures.rest (search rules)))
    c.map.ensures.closure (λ x r q k. search rules)))

pub returns-clause-recorded : goal.returns-clause-recorded
returns-clause-recorded c =
    rw c.in_ok-of_kept.ensures
    (recorded_of_all c.args.all.items c.in_ok-kept.kept (collected c) c.requires.once)

pub of_kept-requires : goal.of_kept-requires
of_kept-requires c =
    AreFilled-of_all without_value c.args.all.items c.in_ok-kept.kept (collected_before c) c.requires.once
