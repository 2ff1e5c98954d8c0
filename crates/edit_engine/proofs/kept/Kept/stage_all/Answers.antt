use Rattle.std.proofs.Common.{rules, ◌<◌, ◌+◌, length, arith, ◌≡◌, vec_len}
use Rattle.std.proofs.lemmas.Result.{on_ok_weaker}
use Rattle.comp_core.specs.Pairs.{same_pair}
use Rattle.edit_engine.specs.Renewal.{pairs_evaluated}
use Rattle.edit_engine.proofs.EntryLemmas.{readers_once}
use Rattle.edit_engine.proofs.StagedLemmas.{All-first, All-second, IsDistinct-second, IsStaged-parts}
use Rattle.edit_engine.proofs.kept.Kept.stage_all.Goals as goal

pub stage_leaving-requires-clause-known : goal.stage_leaving-requires-clause-known
stage_leaving-requires-clause-known c =
    All-first (λ p. p.node < length c.args.pool.now.terms) c.args.renewal.leaving.keys
    (pairs_evaluated c.args.renewal.evaluated.items) c.requires.known.known

pub stage_leaving-requires-clause-within : goal.stage_leaving-requires-clause-within
stage_leaving-requires-clause-within c =
    All-first (λ p. p.shape < length c.args.self.now.results.shapes) c.args.renewal.leaving.keys
    (pairs_evaluated c.args.renewal.evaluated.items) c.requires.known.within

pub gather-requires-clause-once : goal.gather-requires-clause-once
gather-requires-clause-once c =
    IsDistinct-second same_pair c.args.renewal.leaving.keys _ c.requires.known.pairs_once

pub gather-requires-clause-known : goal.gather-requires-clause-known
gather-requires-clause-known c =
    All-second (λ p. p.node < length c.args.pool.now.terms) c.args.renewal.leaving.keys
    (pairs_evaluated c.args.renewal.evaluated.items) c.requires.known.known

pub gather-requires-clause-within : goal.gather-requires-clause-within
gather-requires-clause-within c =
    rw c.in_ok-stage_leaving.ensures.places
    (All-second (λ p. p.shape < length c.args.self.now.results.shapes) c.args.renewal.leaving.keys
    (pairs_evaluated c.args.renewal.evaluated.items) c.requires.known.within)

pub stage_gathered-requires : goal.stage_gathered-requires
stage_gathered-requires c =
    rw c.in_ok-all.ensures.gathered
    (record {
      once = readers_once c.args.renewal.targets.items c.args.renewal.evaluated.items
          c.requires.known.targets_once
          (IsDistinct-second same_pair c.args.renewal.leaving.keys _ c.requires.known.pairs_once);
    })

pub returns-clause-staged : goal.returns-clause-staged
returns-clause-staged c =
    let coming = c.in-Some.ensures.1 in
    let few = c.requires.known.few in
    let gone : c.len.result ≡ length c.args.renewal.leaving.keys = c.len.ensures.len in
    let long : vec_len c.args.renewal.entering ≡ length c.args.renewal.entering.items = search rules in
    let new = c.len-2.ensures in
    let count : c.in-Some.coming + length c.args.renewal.leaving.keys
    ≡ c.args.self.now.pairs + length c.args.renewal.entering.items =
    omega (arith, coming, few, gone, long, new) in
    let left = c.in_ok-stage_leaving.ensures in
    on_ok_weaker c.stage_gathered.result
    (λ found. IsStaged-parts c.args.pool.now.terms c.terms_are_distinct.ensures c.args.self.now _
    c.args.renewal c.requires.idle c.requires.known.pairs_once _ left.records left.gone _ left.staged
    c.in_ok-all.ensures.staged c.stage_gathered.ensures.records (rw c.in_ok-all.ensures.gathered at found)
    count)
    c.stage_gathered.ensures.staged
