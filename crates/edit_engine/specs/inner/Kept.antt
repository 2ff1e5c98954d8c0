-- What is kept of some shapes: what was read for their targets and pairs, the results of the pairs, and what
-- is nested in them.
use Rattle.std.specs.Prelude.{◌≡◌, ℕ, List, [], Some, None, length, slice_get, Contains}
use Rattle.shx_term.specs.declared.term.Term.{Term}
use Rattle.graph_view.specs.Graph.{Graph}
use Rattle.comp_core.specs.declared.pair.Pair.{Pair}
use Rattle.shape_eval.specs.declared.shape.PlanShape.{PlanShape}
use Rattle.shape_eval.specs.Report.{at_shape}
use Rattle.shape_eval.specs.Results.{results}
use Rattle.read_records.specs.declared.reader.Reader.{Reader}
use Rattle.read_records.specs.Recall.{KeepsSame, kept_of}
use Rattle.read_records.specs.Records.{SameRecords, reads_of}
use Rattle.pair_results.specs.PairResults.{HasNothing, Kept as KeptResults, SameRows, rows_at}
use Rattle.edit_engine.specs.Pairs.{pairs_of}
use Rattle.edit_engine.specs.Recorded.{AreRecorded}
use Rattle.edit_engine.specs.declared.kept.Kept.{Kept}
use Rattle.edit_engine.specs.inner.Recall.{RemembersNested}

-- the results of these pairs are kept, and no others
pub record AreResults (shapes : List PlanShape) (ns : List ℕ) (g : Graph) (kept : KeptResults) : Type 0 where
  pub pairs : (p : Pair) (node : Term) → Contains (pairs_of shapes ns g) p
      → slice_get g.terms p.node ≡ Some node → rows_at kept p.shape node ≡ results shapes g p
  pub others : (n : ℕ) (node : Term) → ((id : ℕ) → slice_get g.terms id ≡ Some node
      → Contains (pairs_of shapes ns g) (at_shape n id) → ⊥) → rows_at kept n node ≡ []

-- nothing is staged of records and results
pub record IsIdle (kept : Kept) : Type 0 where
  pub records : kept.records.staged ≡ []
  pub results : kept.results.staged ≡ []

-- the same is kept, and nothing is staged
pub record SameKept (old new : Kept) : Type 0 where
  pub records : SameRecords old.records new.records
  pub rows : SameRows old.results new.results
  pub recall : KeepsSame old.recall new.recall
  pub settled : new.recall.staged ≡ []
  pub places : length new.results.shapes ≡ length old.results.shapes
  pub pairs : new.pairs ≡ old.pairs
  pub idle : IsIdle new

-- nothing is kept, and nothing is staged
pub record KeepsNothing (kept : Kept) : Type 0 where
  pub records : (reader : Reader) → reads_of kept.records reader ≡ None
  pub rows : HasNothing kept.results
  pub pairs : kept.pairs ≡ 0
  pub idle : IsIdle kept

-- all of this is kept of these shapes, and nothing else
pub record IsKeptOf (shapes : List PlanShape) (ns : List ℕ) (g : Graph) (kept : Kept) : Type 0 where
  pub records : AreRecorded shapes ns g kept.records
  pub results : AreResults shapes ns g kept.results
  pub count : kept.pairs ≡ length (pairs_of shapes ns g)
  pub places : length kept.results.shapes ≡ length shapes
  pub idle : IsIdle kept
  pub recall : RemembersNested shapes g (pairs_of shapes ns g) (kept_of kept.recall)
  pub settled : kept.recall.staged ≡ []
