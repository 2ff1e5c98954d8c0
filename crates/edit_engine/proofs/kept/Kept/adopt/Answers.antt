use Rattle.std.proofs.Common.{rules, ◌≡◌, ◌∙◌, length, vec_len}
use Rattle.edit_engine.proofs.AdoptedLemmas.{IsAdopted-made}
use Rattle.edit_engine.proofs.EntryLemmas.{readers_once}
use Rattle.edit_engine.proofs.kept.Kept.adopt.Goals as goal

pub gather-requires-clause-within : goal.gather-requires-clause-within
gather-requires-clause-within c = rw c.in_ok-results.ensures.shapes c.requires.within

pub of_all-requires : goal.of_all-requires
of_all-requires c =
    rw c.in_ok-all.ensures.gathered
    (record {
      once = readers_once c.args.renewal.targets.items c.args.renewal.evaluated.items
          c.requires.targets_once c.requires.pairs_once;
    })

pub returns-clause-adopted : goal.returns-clause-adopted
returns-clause-adopted c =
    let made = c.in_ok-results.ensures in
    let all = c.in_ok-all.ensures in
    let commit = c.commit.ensures in
    let long : vec_len c.args.renewal.entering ≡ length c.args.renewal.entering.items = search rules in
    IsAdopted-made c.requires c.terms_are_distinct.ensures _ c.in_ok-results.results _ made.nothing
    made.staged all.staged made.shapes (rw all.gathered at c.in_ok-records.ensures.recorded) commit.kept
    commit.shapes (c.len-pairs.ensures ∙ long)
    (record { records = c.in_ok-records.ensures.staged; results = commit.staged })
