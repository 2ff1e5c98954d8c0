-- What is remembered while a change is evaluated beside the graph.
use Rattle.std.specs.Prelude.{◌≡◌, ℕ, ◌<◌, false, List, [], Option, length, Contains}
use Rattle.shx_term.specs.Members.{SameMembers}
use Rattle.shx_term.specs.declared.triple.Triple.{Triple}
use Rattle.graph_view.specs.declared.key.Key.{Key}
use Rattle.graph_view.specs.Agree.{Agree}
use Rattle.graph_view.specs.Graph.{Graph, AllKnown}
use Rattle.graph_view.specs.Key.{Touches}
use Rattle.comp_core.specs.declared.pair.Pair.{Pair}
use Rattle.shape_eval.specs.declared.shape.PlanShape.{PlanShape}
use Rattle.shape_eval.specs.Nested.{nested_in}
use Rattle.shape_eval.specs.Plan.{IsKnownPlan, Planned, RefersLower}
use Rattle.shape_eval.specs.Recalled.{AreRecalled, BringsNested as Brought, IsRecallOf}
use Rattle.shape_eval.specs.Recalled.{RemembersNested as Remembers}
use Rattle.shape_eval.specs.Report.{pairs}
use Rattle.shape_eval.specs.Results.{pair_reads}
use Rattle.read_records.specs.Recall.{Answer, KeepsSame, MasksAtMost, MasksReached, RecallState, recalled}
use Rattle.edit_engine.specs.Remembered.{AreAllRecalled, BringsFresh, staying}
use Rattle.edit_engine.specs.Touched.{is_any_touched}

-- what is remembered is right of the graph, and all that is nested in these pairs is remembered
abbrev pub RemembersNested : List PlanShape → Graph → List Pair → (Pair → Option Answer) → Type 0
RemembersNested shapes g ps recalled = Remembers SameMembers shapes g ps recalled

-- several pairs were evaluated in turn: all that is nested in them is remembered, and counted
abbrev pub BringsNested : List PlanShape → Graph → (Pair → Option Answer) → (Pair → Option Answer)
    → List Pair → ℕ → ℕ → Type 0
BringsNested shapes g old new ps before after = Brought SameMembers shapes g old new ps before after

-- a change was evaluated: what is remembered is that of the changed graph
pub record RenewsRecall (plan : Planned) (g h : Graph) (changed : List Triple)
    (old new : Pair → Option Answer) (before after : ℕ) : Type 0 where
  pub remembers : RemembersNested plan.shapes h (pairs plan h) new
  pub brings : BringsFresh plan g h changed old new before after

-- ---- what is true of any change

-- where the triples of two graphs over the same terms differ by these alone
abbrev pub DifferBy : Graph → Graph → List Triple → Type 0
DifferBy g h changed =
    (keys : List Key)
    → ((key : Key) → Contains keys key → (t : Triple) → Contains changed t → Touches t key → ⊥)
    → Agree g h (Contains keys)

-- what is remembered beside a graph, and what is masked of it for a change
pub record IsChange (shapes : List PlanShape) (g h : Graph) (changed : List Triple) (first now : RecallState)
    : Type 0 where
  pub lower : RefersLower shapes
  pub before : AllKnown g
  pub after : AllKnown h
  pub plan : IsKnownPlan g.terms shapes
  pub terms : h.terms ≡ g.terms
  pub differ : DifferBy g h changed
  pub settled : first.staged ≡ []
  pub kept : KeepsSame first now
  pub at_most : MasksAtMost first now changed
  pub masked : MasksReached first now changed
  pub recall : IsRecallOf SameMembers shapes g (recalled first)

-- what is still remembered is right of the new graph, and closed: it is what stays
pub record Remains (shapes : List PlanShape) (g h : Graph) (changed : List Triple) (first now : RecallState)
    : Type 0 where
  pub recall : IsRecallOf SameMembers shapes h (recalled now)
  pub stays : (kept : List Pair) → AreAllRecalled (recalled first) kept
      → AreAllRecalled (recalled now) (staying shapes g changed kept)
  pub nested : (q : Pair) → q.node < length g.terms
      → is_any_touched changed (pair_reads shapes g q) ≡ false
      → AreRecalled (recalled first) (nested_in shapes g q)
      → AreRecalled (recalled now) (nested_in shapes h q)

abbrev pub ChangesLeaveWhatStays : Type 0
ChangesLeaveWhatStays =
    (shapes : List PlanShape) (g h : Graph) (changed : List Triple) (first now : RecallState)
    → IsChange shapes g h changed first now → Remains shapes g h changed first now
