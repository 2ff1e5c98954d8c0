-- What a shape finds where its number is another one: alike shapes find the same but for that.
use Rattle.std.specs.Prelude.{◌≡◌, ℕ, List, Contains, map, slice_get}
use Rattle.std.specs.Option.{option_and_then, unwrap_or}
use Rattle.shx_term.specs.Members.{SameMembers}
use Rattle.graph_view.specs.declared.key.Key.{Key}
use Rattle.graph_view.specs.declared.key.Key.TheVariants.{Out, In, Subject, Predicate, Answer}
use Rattle.graph_view.specs.Graph.{Graph}
use Rattle.comp_core.specs.declared.detail.DetailRow.{DetailRow}
use Rattle.comp_core.specs.declared.pair.Pair.{Pair}
use Rattle.comp_core.specs.declared.row.ResultRow.{ResultRow}
use Rattle.shape_eval.specs.declared.shape.PlanShape.{PlanShape}
use Rattle.shape_eval.specs.Nested.{nested_in}
use Rattle.shape_eval.specs.Own.{own_reads}
use Rattle.shape_eval.specs.Plan.{IsNumbered, nodes_of, number_of}
use Rattle.shape_eval.specs.Report.{at_shape}
use Rattle.shape_eval.specs.Results.{pair_reads, results}
use Rattle.plan_swap.specs.Alike.{AreAlike}

-- the number that an old shape has in the new plan, by its node; 0 where it is not there
abbrev pub new_number : List PlanShape → List PlanShape → ℕ → ℕ
new_number old new m = unwrap_or (option_and_then (number_of new) (slice_get (nodes_of old) m)) 0

-- the same result of another shape
abbrev pub detail_renumbered : (ℕ → ℕ) → DetailRow → DetailRow
detail_renumbered f row = record row { shape = f row.shape }

abbrev pub row_renumbered : (ℕ → ℕ) → ResultRow → ResultRow
row_renumbered f row =
    record row { shape = f row.shape; details = map (detail_renumbered f) row.details }

abbrev pub rows_renumbered : (ℕ → ℕ) → List ResultRow → List ResultRow
rows_renumbered f rows = map (row_renumbered f) rows

-- the same part of a graph, or what was found of the pair of another shape
abbrev pub key_renumbered : (ℕ → ℕ) → Key → Key
key_renumbered f (Out s p) = Out s p
key_renumbered f (In p o) = In p o
key_renumbered f (Subject s) = Subject s
key_renumbered f (Predicate p) = Predicate p
key_renumbered f (Answer shape node) = Answer (f shape) node

-- the new shape has the results of the old one at the node, under new numbers, which were read from the same
-- keys in the same order; and for it itself the same was read, under new numbers
pub record FindsAlike (old new : List PlanShape) (g : Graph) (m n node : ℕ) : Type 0 where
  pub rows : results new g (at_shape n node)
      ≡ rows_renumbered (new_number old new) (results old g (at_shape m node))
  pub reads : pair_reads new g (at_shape n node) ≡ pair_reads old g (at_shape m node)
  pub own : SameMembers (own_reads new g (at_shape n node))
      (map (key_renumbered (new_number old new)) (own_reads old g (at_shape m node)))

abbrev pub AlikeShapesFindAlike : Type 0
AlikeShapesFindAlike =
    (old new : List PlanShape) → IsNumbered old → IsNumbered new
    → (g : Graph) (m n : ℕ) → AreAlike old new m n → (node : ℕ) → FindsAlike old new g m n node

-- ---- nested pairs

-- the pair of another shape at the same node
abbrev pub pair_renumbered : (ℕ → ℕ) → Pair → Pair
pair_renumbered f p = at_shape (f p.shape) p.node

-- nested in the pair of the new shape are those that are nested in that of the old one, under new numbers;
-- and the shapes of these are alike
pub record NestsAlike (old new : List PlanShape) (g : Graph) (m n node : ℕ) : Type 0 where
  pub pairs : nested_in new g (at_shape n node)
      ≡ map (pair_renumbered (new_number old new)) (nested_in old g (at_shape m node))
  pub alike : (d : Pair) → Contains (nested_in old g (at_shape m node)) d
      → AreAlike old new d.shape (new_number old new d.shape)

abbrev pub AlikeShapesNestAlike : Type 0
AlikeShapesNestAlike =
    (old new : List PlanShape) → IsNumbered old → IsNumbered new
    → (g : Graph) (m n : ℕ) → AreAlike old new m n → (node : ℕ) → NestsAlike old new g m n node
