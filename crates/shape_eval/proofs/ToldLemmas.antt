-- What is told of pairs by what is remembered: their results, and that a shape which is passed over has none.
use Rattle.std.specs.Prelude.{◌≡◌, ℕ, zero, suc, Bool, true, false, not, List, [], ◌++◌, Option, Some, None}
use Rattle.std.specs.Prelude.{IsSome, length, slice_get, if◌then◌else◌}
use Rattle.std.proofs.Common.{refl, sym, ap, ◌∙◌, true≢false}
use Rattle.graph_view.specs.declared.key.Key.{Key}
use Rattle.graph_view.specs.Graph.{Graph}
use Rattle.comp_core.specs.Memo.{Remembered}
use Rattle.comp_core.specs.declared.pair.Pair.{Pair}
use Rattle.comp_core.specs.declared.row.ResultRow.{ResultRow}
use Rattle.shape_eval.specs.declared.shape.PlanShape.{PlanShape}
use Rattle.shape_eval.specs.Nested.{is_evaluated, is_evaluated_at}
use Rattle.shape_eval.specs.Recalled.{AreRight}
use Rattle.shape_eval.specs.Results.{at_of, hits_of_each, reads_of_each, reads_within, results}
use Rattle.shape_eval.specs.Results.{results_within, shape_reads, shape_results, value_nodes, value_reads}
use Rattle.shape_eval.specs.inner.Told.{IsHeld, rows_if_any, rows_told, told_of}

-- a shape that is passed over has no results, and reads nothing
off_at : (g : Graph) (m : Pair → List ResultRow) (r : Pair → List Key) (p : Pair) (o : Option PlanShape)
    → is_evaluated o ≡ false → (shape_results g m o p ≡ []) × (shape_reads g r o p ≡ [])
off_at g m r p None off = (refl, refl)
off_at g m r p (Some sh) off = by sh.deactivated refl
  where
    by : (b : Bool) → sh.deactivated ≡ b
        → (shape_results g m (Some sh) p ≡ []) × (shape_reads g r (Some sh) p ≡ [])
    by true is =
        let vs = value_nodes g sh.path p.node in (
          ap (λ b. if b then [] else hits_of_each g m sh.constraints.items (at_of p) vs) is,
          ap (λ b. if b then [] else value_reads g sh.path p.node
              ++ reads_of_each g r sh.constraints.items (at_of p) vs) is,
        )
    by false is = absurd (true≢false (sym (ap not is) ∙ off))

pub off_within : (k : ℕ) (shapes : List PlanShape) (g : Graph) (p : Pair) → is_evaluated_at shapes p ≡ false
    → (results_within k shapes g p ≡ []) × (reads_within k shapes g p ≡ [])
off_within zero shapes g p off = (refl, refl)
off_within (suc k) shapes g p off =
    off_at g (results_within k shapes g) (reads_within k shapes g) p (slice_get shapes p.shape) off

module _ {N : Type 0} (shapes : List PlanShape) (state : Pair → Option (Remembered N)) (p : Pair) where
  told_on : is_evaluated_at shapes p ≡ true → told_of shapes state p ≡ state p
  told_on on = ap (λ b. if b then state p else None) on

  told_off : is_evaluated_at shapes p ≡ false → told_of shapes state p ≡ None
  told_off off = ap (λ b. if b then state p else None) off

  -- what is told of a pair that is held is what is defined
  pub told_same : (has : N → List Key → Type 0) (g : Graph) → AreRight has shapes g state
      → IsHeld shapes state p → rows_told shapes state p ≡ results shapes g p
  told_same has g right held = by (is_evaluated_at shapes p) refl
    where
      answered : (o : Option (Remembered N)) → state p ≡ o → IsSome o → is_evaluated_at shapes p ≡ true
          → rows_told shapes state p ≡ results shapes g p
      answered None e there on = absurd (true≢false (sym there))
      answered (Some a) e there on = ap rows_if_any (told_on on ∙ e) ∙ (right.each p a e).rows

      by : (b : Bool) → is_evaluated_at shapes p ≡ b → rows_told shapes state p ≡ results shapes g p
      by true on = answered (state p) refl (held.held on) on
      by false off = ap rows_if_any (told_off off) ∙ sym (off_within (length shapes) shapes g p off).0
