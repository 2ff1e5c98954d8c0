-- Renewals: what is to be kept from now on in the place of what is.
use Rattle.std.specs.Prelude.{◌≡◌, ℕ, Bool, nat_eq, List, [], map, All, Contains, ◌↔◌}
use Rattle.std.specs.List.{IsDistinct}
use Rattle.shx_term.specs.Members.{SameMembers}
use Rattle.shx_term.specs.declared.triple.Triple.{Triple}
use Rattle.graph_view.specs.Graph.{Graph}
use Rattle.comp_core.specs.declared.pair.Pair.{Pair}
use Rattle.comp_core.specs.Pairs.{same_pair}
use Rattle.shape_eval.specs.declared.shape.PlanShape.{PlanShape}
use Rattle.shape_eval.specs.Plan.{Planned}
use Rattle.shape_eval.specs.Report.{pairs}
use Rattle.shape_eval.specs.Own.{own_reads}
use Rattle.shape_eval.specs.Results.{results}
use Rattle.shape_eval.specs.Targets.{target_reads}
use Rattle.edit_engine.specs.declared.renewal.Evaluated.{Evaluated}
use Rattle.edit_engine.specs.declared.renewal.Renewal.{Renewal}
use Rattle.edit_engine.specs.declared.renewal.TargetReads.{TargetReads}
use Rattle.edit_engine.specs.Pairs.{pairs_of}
use Rattle.edit_engine.specs.Touched.{touched_pairs}

-- these elements, each once, are those of the first list that are not in the second
pub record IsDifference {X : Type 0} (same : X → X → Bool) (xs ys found : List X) : Type 0 where
  pub once : IsDistinct same found
  pub each : (x : X) → Contains found x ↔ (Contains xs x × (Contains ys x → ⊥))

-- what was found of a pair is what it comes to
pub record IsRight (shapes : List PlanShape) (g : Graph) (found : Evaluated) : Type 0 where
  pub rows : found.answer.rows.items ≡ results shapes g found.pair
  pub reads : SameMembers found.answer.reads (own_reads shapes g found.pair)

-- what is read for a target now
pub record IsReadNow (shapes : List PlanShape) (g : Graph) (target : TargetReads) : Type 0 where
  pub reads : SameMembers target.reads (target_reads shapes g target.shape)

abbrev pub pairs_evaluated : List Evaluated → List Pair
pairs_evaluated all = map (λ found. found.pair) all

abbrev pub shapes_renewed : List TargetReads → List ℕ
shapes_renewed targets = map (λ target. target.shape) targets

-- from one graph to another, which has the changed triples more or less: the targets that are not renewed
-- read the same, and exactly the pairs that the change touches were evaluated, on the new graph
pub record IsRenewal (plan : Planned) (g h : Graph) (changed : List Triple) (renewal : Renewal) : Type 0 where
  pub targets : All (λ target. Contains plan.targeted target.shape) renewal.targets.items
  pub targets_once : IsDistinct nat_eq (shapes_renewed renewal.targets.items)
  pub reads : All (IsReadNow plan.shapes h) renewal.targets.items
  pub other_targets : (n : ℕ) → Contains plan.targeted n
      → (Contains (shapes_renewed renewal.targets.items) n → ⊥)
      → SameMembers (target_reads plan.shapes g n) (target_reads plan.shapes h n)
  pub entering : IsDifference same_pair (pairs plan h) (pairs plan g) renewal.entering.items
  pub leaving : IsDifference same_pair (pairs plan g) (pairs plan h) renewal.leaving.keys
  pub pairs : SameMembers (pairs_evaluated renewal.evaluated.items) (touched_pairs plan g h changed)
  pub pairs_once : IsDistinct same_pair (pairs_evaluated renewal.evaluated.items)
  pub right : All (IsRight plan.shapes h) renewal.evaluated.items

-- from nothing: all pairs of these shapes enter and were evaluated
pub record IsOpening (shapes : List PlanShape) (g : Graph) (ns : List ℕ) (renewal : Renewal) : Type 0 where
  pub targets : shapes_renewed renewal.targets.items ≡ ns
  pub reads : All (IsReadNow shapes g) renewal.targets.items
  pub entering : renewal.entering.items ≡ pairs_of shapes ns g
  pub leaving : renewal.leaving.keys ≡ []
  pub pairs : pairs_evaluated renewal.evaluated.items ≡ pairs_of shapes ns g
  pub right : All (IsRight shapes g) renewal.evaluated.items
