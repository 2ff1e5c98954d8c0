-- What stands under keys, and items that are put there in turn.
use Rattle.std.specs.Prelude.{◌≡◌, ℕ, List, [], ◌++◌, Option, Some, None, map, length, slice_get, Contains}
use Rattle.shx_term.specs.declared.term.Term.{Term}
use Rattle.graph_view.specs.declared.key.Key.{Key}
use Rattle.comp_core.specs.declared.pair.Pair.{Pair}
use Rattle.comp_core.specs.declared.row.ResultRow.{ResultRow}
use Rattle.read_records.specs.declared.reader.Reader.{Reader}
use Rattle.read_records.specs.declared.reader.Reader.TheVariants.{OfPair, OfTarget}
use Rattle.pair_results.specs.PairResults.{Kept, SameRows, rows_after}
use Rattle.edit_engine.specs.declared.renewal.Evaluated.{Evaluated}
use Rattle.edit_engine.specs.declared.renewal.TargetReads.{TargetReads}

-- each item stands under its key, and under all other keys what stood there
pub record IsPut {I K V : Type 0} (key : I → K) (value : I → V) (items : List I) (old new : K → V)
    : Type 0 where
  pub each : (item : I) → Contains items item → new (key item) ≡ value item
  pub others : (k : K) → (Contains (map key items) k → ⊥) → new k ≡ old k

-- ---- what is recorded for readers

abbrev pub Entry : Type 0
Entry = Reader × List Key

abbrev pub target_entry : TargetReads → Entry
target_entry target = (OfTarget target.shape, target.reads)

abbrev pub pair_entry : Evaluated → Entry
pair_entry found = (OfPair found.pair, found.answer.reads)

-- of targets and of pairs
abbrev pub entries_of : List TargetReads → List Evaluated → List Entry
entries_of targets evaluated = map target_entry targets ++ map pair_entry evaluated

-- who it is for, and what is staged for it
abbrev pub entry_reader : Entry → Reader
entry_reader e = e.0

abbrev pub entry_change : Entry → Option (Option (List Key))
entry_change e = Some (Some e.1)

-- of a pair that leaves
abbrev pub no_reads : Pair → Option (Option (List Key))
no_reads p = Some None

-- ---- what is staged for shapes at nodes

-- the number of a shape, and the term of a node, if it has one
abbrev pub ShapeAt : Type 0
ShapeAt = ℕ × Option Term

abbrev pub shape_at : ℕ → Term → ShapeAt
shape_at n node = (n, Some node)

abbrev pub place_in : List Term → Pair → ShapeAt
place_in terms p = (p.shape, slice_get terms p.node)

abbrev pub rows_if_at : Kept → ℕ → Option Term → List ResultRow
rows_if_at kept n None = []
rows_if_at kept n (Some node) = rows_after kept n node

abbrev pub rows_to_come : Kept → ShapeAt → List ResultRow
rows_to_come kept at = rows_if_at kept at.0 at.1

abbrev pub no_rows : Pair → List ResultRow
no_rows p = []

abbrev pub answer_rows : Evaluated → List ResultRow
answer_rows found = found.answer.rows.items

-- the results of these pairs are staged, and no others
pub record HaveRows {I : Type 0} (pair : I → Pair) (value : I → List ResultRow) (terms : List Term)
    (items : List I) (k l : Kept) : Type 0 where
  pub rows : SameRows k l
  pub places : length l.shapes ≡ length k.shapes
  pub results : IsPut (λ item. place_in terms (pair item)) value items (rows_to_come k) (rows_to_come l)
