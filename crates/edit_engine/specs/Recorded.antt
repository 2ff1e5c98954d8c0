-- What is recorded of some shapes: what was read for their targets, and for their pairs.
use Rattle.std.specs.Prelude.{◌≡◌, ℕ, List, Some, None, Contains}
use Rattle.shx_term.specs.Members.{SameMembers}
use Rattle.graph_view.specs.declared.key.Key.{Key}
use Rattle.graph_view.specs.Graph.{Graph}
use Rattle.comp_core.specs.declared.pair.Pair.{Pair}
use Rattle.shape_eval.specs.declared.shape.PlanShape.{PlanShape}
use Rattle.shape_eval.specs.Own.{own_reads}
use Rattle.shape_eval.specs.Targets.{target_reads}
use Rattle.read_records.specs.declared.reader.Reader.{Reader}
use Rattle.read_records.specs.declared.reader.Reader.TheVariants.{OfPair, OfTarget}
use Rattle.read_records.specs.Records.{Recorded, reads_of}
use Rattle.edit_engine.specs.Pairs.{pairs_of}

-- these keys are recorded for a reader
pub record Holds (state : Recorded) (reader : Reader) (keys : List Key) : Type 0 where
  pub reads : List Key
  pub recorded : reads_of state reader ≡ Some reads
  pub same : SameMembers reads keys

-- what was read for these targets, and for their pairs themselves, is recorded, and nothing else
pub record AreRecorded (shapes : List PlanShape) (ns : List ℕ) (g : Graph) (state : Recorded) : Type 0 where
  pub targets : (n : ℕ) → Contains ns n → Holds state (OfTarget n) (target_reads shapes g n)
  pub pairs : (p : Pair) → Contains (pairs_of shapes ns g) p → Holds state (OfPair p) (own_reads shapes g p)
  pub no_target : (n : ℕ) → (Contains ns n → ⊥) → reads_of state (OfTarget n) ≡ None
  pub no_pair : (p : Pair) → (Contains (pairs_of shapes ns g) p → ⊥) → reads_of state (OfPair p) ≡ None
