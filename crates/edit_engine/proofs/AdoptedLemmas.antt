-- A renewal that is adopted is one that was staged where nothing was, and made.
use Rattle.std.specs.Prelude.{◌≡◌, ℕ, List, [], ◌++◌, length}
use Rattle.std.specs.List.{IsDistinct}
use Rattle.std.specs.Map.{lookup}
use Rattle.std.specs.Ordering.{eq_by_cmp}
use Rattle.std.proofs.Common.{refl, sym, ap, subst, arith}
use Rattle.shx_term.specs.TermOrder.{same_term}
use Rattle.shx_term.specs.declared.term.Term.{Term}
use Rattle.comp_core.specs.Pairs.{same_pair}
use Rattle.read_records.specs.declared.reader.Reader.{Reader}
use Rattle.read_records.specs.declared.reader.Reader.TheVariants.{OfPair}
use Rattle.read_records.specs.Reader.{reader_cmp}
use Rattle.read_records.specs.Records.{change_of, reads_of}
use Rattle.pair_results.specs.PairResults.{Commits as CommitsRows, HasNothing, Kept as KeptResults}
use Rattle.edit_engine.specs.declared.renewal.Renewal.{Renewal}
use Rattle.edit_engine.specs.Renewal.{pairs_evaluated}
use Rattle.edit_engine.specs.declared.kept.Kept.{Kept}
use Rattle.edit_engine.specs.inner.Kept.{IsIdle}
use Rattle.edit_engine.specs.inner.Put.{Entry, HaveRows, IsPut, answer_rows, entries_of, no_reads, no_rows}
use Rattle.edit_engine.specs.inner.Staged.{IsAdopted, IsStaged, MayBeAdopted, pairs_renewed}
use Rattle.edit_engine.proofs.EntryLemmas.{Commits-only_staged, IsPut-only_staged, only_staged, readers_once}
use Rattle.edit_engine.proofs.PutLemmas.{IsPut-none}
use Rattle.edit_engine.proofs.StagedLemmas.{HaveRows-none, IsStaged-parts, SameRecords-itself}

module _ {terms : List Term} {shapes : ℕ} {renewal : Renewal} (may : MayBeAdopted terms shapes renewal)
    (distinct : IsDistinct same_term terms) (new : Kept) (first mid : KeptResults)
    (nothing : HasNothing first) (idle : first.staged ≡ [])
    (found : HaveRows (λ found. found.pair) answer_rows terms renewal.evaluated.items first mid) where
  abbrev all : List Entry
  all = entries_of renewal.targets.items renewal.evaluated.items

  abbrev empty_kept : Kept
  empty_kept = record {
    records = only_staged [];
    results = first;
    recall = record { kept = []; staged = [] };
    pairs = 0;
    coming = 0;
  }

  abbrev staged_kept : Kept
  staged_kept = record {
    records = only_staged all;
    results = mid;
    recall = record { kept = []; staged = [] };
    pairs = 0;
    coming = length renewal.entering.items;
  }

  pairs_once : IsDistinct same_pair (pairs_renewed renewal)
  pairs_once =
      subst (λ ps. IsDistinct same_pair (ps ++ pairs_evaluated renewal.evaluated.items)) (sym may.none)
      may.pairs_once

  none_left : IsPut OfPair no_reads renewal.leaving.keys (change_of (only_staged []))
      (change_of (only_staged []))
  none_left =
      subst (λ ps. IsPut OfPair no_reads ps (change_of (only_staged [])) (change_of (only_staged [])))
      (sym may.none) (IsPut-none OfPair no_reads (change_of (only_staged [])))

  no_rows_left : HaveRows (λ p. p) no_rows terms renewal.leaving.keys first first
  no_rows_left =
      subst (λ ps. HaveRows (λ p. p) no_rows terms ps first first) (sym may.none)
      (HaveRows-none (λ p. p) no_rows terms first)

  is_staged : IsStaged terms empty_kept staged_kept renewal
  is_staged =
      IsStaged-parts terms distinct empty_kept staged_kept renewal
      (record { records = refl; results = idle }) pairs_once (only_staged [])
      (SameRecords-itself (only_staged [])) none_left first no_rows_left found
      (record { each = λ reader. refl })
      (IsPut-only_staged all (readers_once renewal.targets.items renewal.evaluated.items may.targets_once
      may.pairs_once))
      (let none = ap length may.none in omega arith)

  pub IsAdopted-made : length first.shapes ≡ shapes
      → ((reader : Reader) → reads_of new.records reader ≡ lookup (eq_by_cmp reader_cmp reader) all)
      → CommitsRows mid new.results → length new.results.shapes ≡ length mid.shapes
      → new.pairs ≡ length renewal.entering.items → IsIdle new → IsAdopted terms shapes renewal new
  IsAdopted-made room recorded rows places pairs idle' = record {
    old = empty_kept;
    nothing = record {
      records = λ reader. refl;
      rows = nothing;
      pairs = refl;
      idle = record { records = refl; results = idle };
    };
    room = room;
    mid = staged_kept;
    staged = is_staged;
    records = Commits-only_staged all new.records recorded;
    rows = rows;
    places = places;
    pairs = pairs;
    idle = idle';
  }
