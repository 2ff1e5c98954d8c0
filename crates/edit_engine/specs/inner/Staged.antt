-- A renewal that is staged.
use Rattle.std.specs.Prelude.{◌≡◌, ℕ, ◌+◌, ◌<◌, ◌≤◌, nat_eq, List, [], ◌++◌, Some, None, length, slice_get}
use Rattle.std.specs.Prelude.{All, Contains}
use Rattle.std.specs.List.{IsDistinct}
use Rattle.shx_term.specs.declared.term.Term.{Term}
use Rattle.comp_core.specs.declared.pair.Pair.{Pair}
use Rattle.comp_core.specs.Pairs.{same_pair}
use Rattle.shape_eval.specs.Report.{at_shape}
use Rattle.read_records.specs.declared.reader.Reader.TheVariants.{OfPair, OfTarget}
use Rattle.read_records.specs.Records.{Commits, SameRecords, change_of}
use Rattle.pair_results.specs.PairResults.{Commits as CommitsRows, SameRows, rows_after, rows_at}
use Rattle.edit_engine.specs.declared.renewal.Evaluated.{Evaluated}
use Rattle.edit_engine.specs.declared.renewal.Renewal.{Renewal}
use Rattle.edit_engine.specs.declared.renewal.TargetReads.{TargetReads}
use Rattle.edit_engine.specs.Renewal.{pairs_evaluated, shapes_renewed}
use Rattle.edit_engine.specs.declared.kept.Kept.{Kept}
use Rattle.edit_engine.specs.inner.Kept.{IsIdle, KeepsNothing}

-- the pairs of a renewal: those that leave, and those that were evaluated
abbrev pub pairs_renewed : Renewal → List Pair
pairs_renewed renewal = renewal.leaving.keys ++ pairs_evaluated renewal.evaluated.items

-- all pairs in it may be put in place
pub record MayBeStaged (terms : List Term) (kept : Kept) (renewal : Renewal) : Type 0 where
  pub targets_once : IsDistinct nat_eq (shapes_renewed renewal.targets.items)
  pub pairs_once : IsDistinct same_pair (pairs_renewed renewal)
  pub known : All (λ p. p.node < length terms) (pairs_renewed renewal)
  pub within : All (λ p. p.shape < length kept.results.shapes) (pairs_renewed renewal)
  pub few : length renewal.leaving.keys ≤ kept.pairs

-- it may be put in place where there is nothing, of so many shapes
pub record MayBeAdopted (terms : List Term) (shapes : ℕ) (renewal : Renewal) : Type 0 where
  pub targets_once : IsDistinct nat_eq (shapes_renewed renewal.targets.items)
  pub pairs_once : IsDistinct same_pair (pairs_evaluated renewal.evaluated.items)
  pub known : All (λ p. p.node < length terms) (pairs_evaluated renewal.evaluated.items)
  pub within : All (λ p. p.shape < shapes) (pairs_evaluated renewal.evaluated.items)
  pub none : renewal.leaving.keys ≡ []

-- no pair of the renewal is at this shape and node
abbrev pub IsBesideRenewal : List Term → Renewal → ℕ → Term → Type 0
IsBesideRenewal terms renewal n node =
    (id : ℕ) → slice_get terms id ≡ Some node → Contains (pairs_renewed renewal) (at_shape n id) → ⊥

-- the renewal is staged, and nothing beside it
pub record IsStaged (terms : List Term) (old new : Kept) (renewal : Renewal) : Type 0 where
  pub records : SameRecords old.records new.records
  pub rows : SameRows old.results new.results
  pub places : length new.results.shapes ≡ length old.results.shapes
  pub targets : (t : TargetReads) → Contains renewal.targets.items t
      → change_of new.records (OfTarget t.shape) ≡ Some (Some t.reads)
  pub other_targets : (n : ℕ) → (Contains (shapes_renewed renewal.targets.items) n → ⊥)
      → change_of new.records (OfTarget n) ≡ None
  pub leaving : (p : Pair) → Contains renewal.leaving.keys p
      → change_of new.records (OfPair p) ≡ Some None
  pub leaving_rows : (p : Pair) (node : Term) → Contains renewal.leaving.keys p
      → slice_get terms p.node ≡ Some node → rows_after new.results p.shape node ≡ []
  pub evaluated : (found : Evaluated) → Contains renewal.evaluated.items found
      → change_of new.records (OfPair found.pair) ≡ Some (Some found.answer.reads)
  pub evaluated_rows : (found : Evaluated) (node : Term) → Contains renewal.evaluated.items found
      → slice_get terms found.pair.node ≡ Some node
      → rows_after new.results found.pair.shape node ≡ found.answer.rows.items
  pub other_pairs : (p : Pair) → (Contains (pairs_renewed renewal) p → ⊥)
      → change_of new.records (OfPair p) ≡ None
  pub other_rows : (n : ℕ) (node : Term) → IsBesideRenewal terms renewal n node
      → rows_after new.results n node ≡ rows_at old.results n node
  pub count : new.coming + length renewal.leaving.keys ≡ old.pairs + length renewal.entering.items

-- the renewal was staged where nothing was kept, of so many shapes, and then made
pub record IsAdopted (terms : List Term) (shapes : ℕ) (renewal : Renewal) (new : Kept) : Type 0 where
  pub old : Kept
  pub nothing : KeepsNothing old
  pub room : length old.results.shapes ≡ shapes
  pub mid : Kept
  pub staged : IsStaged terms old mid renewal
  pub records : Commits mid.records new.records
  pub rows : CommitsRows mid.results new.results
  pub places : length new.results.shapes ≡ length mid.results.shapes
  pub pairs : new.pairs ≡ mid.coming
  pub idle : IsIdle new
