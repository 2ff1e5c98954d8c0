-- What a change makes of an engine.
use Rattle.std.specs.Prelude.{◌≡◌, ℕ, true, false, All, Contains, List, ◌++◌, length}
use Rattle.shx_term.specs.declared.term.Term.{Term}
use Rattle.graph_view.specs.Graph.{Graph}
use Rattle.graph_view.specs.SameGraph.{SameGraph}
use Rattle.shx_term.specs.TripleTerms.{terms_of}
use Rattle.edit_history.specs.declared.net.Net.{Net}
use Rattle.edit_engine.specs.declared.edit.Change.{Change}
use Rattle.edit_engine.specs.declared.edit.EditFault.{EditFault}
use Rattle.edit_engine.specs.declared.edit.EditFault.TheVariants.{TooManyTriples, TooManyTerms, Memory}
use Rattle.edit_engine.specs.EngineState.{EngineState}
use Rattle.edit_engine.specs.Nets.{Outcome, NoEffect, PastTriples, PastTerms, Effect}
use Rattle.edit_engine.specs.Nets.{changed_by, graph_after, outcome}
use Rattle.edit_engine.specs.Remembered.{BringsFresh, answer_of}
use Rattle.edit_engine.specs.Touched.{touched_pairs}

abbrev pub outcome_of : EngineState → Net → Outcome
outcome_of state net = outcome state.triple_limit state.term_limit state.graph net

-- the same triples, over the same terms and perhaps some of these more
pub record HasMoreTerms (due : List Term) (old new : Graph) : Type 0 where
  pub more : List Term
  pub among : All (Contains due) more
  pub terms : new.terms ≡ old.terms ++ more
  pub triples : new.triples ≡ old.triples

-- the plan and the limits stay
pub record SamePlan (old new : EngineState) : Type 0 where
  pub plan : new.plan ≡ old.plan
  pub term_limit : new.term_limit ≡ old.term_limit
  pub triple_limit : new.triple_limit ≡ old.triple_limit

-- from one state to another, by a change: exactly the nested pairs that are fresh were counted, and they are
-- remembered beside those that stay
abbrev pub BringsFreshBy : EngineState → Net → EngineState → ℕ → ℕ → Type 0
BringsFreshBy old net new before after =
    BringsFresh old.plan old.graph (graph_after old.graph net) (changed_by old.graph net)
    (answer_of old.remembered) (answer_of new.remembered) before after

-- the graph is the changed one, and as many pairs were evaluated as the change touches
pub record IsChanged (old : EngineState) (net : Net) (change : Change) (new : EngineState)
    (before after : ℕ) : Type 0 where
  pub changed : change.changed ≡ true
  pub graph : SameGraph (graph_after old.graph net) new.graph
  pub evaluated : change.evaluated
      ≡ length (touched_pairs old.plan old.graph (graph_after old.graph net) (changed_by old.graph net))
  pub nested : BringsFreshBy old net new before after

-- nothing changed, and no pair was evaluated
pub record IsUnchanged (old : EngineState) (change : Change) (new : EngineState) (before after : ℕ) : Type 0
  where
    pub changed : change.changed ≡ false
    pub evaluated : change.evaluated ≡ 0
    pub same : new ≡ old
    pub nested : after ≡ before

-- a change that came through, by what comes of it, with where the counter of nested evaluations stood before
-- and stands after
abbrev pub applied_as : EngineState → Net → Change → EngineState → ℕ → ℕ → Outcome → Type 0
applied_as old net change new before after NoEffect = IsUnchanged old change new before after
applied_as old net change new before after PastTriples = ⊥
applied_as old net change new before after PastTerms = ⊥
applied_as old net change new before after Effect = IsChanged old net change new before after

abbrev pub Applies : EngineState → Net → Change → EngineState → ℕ → ℕ → Type 0
Applies old net change new before after = applied_as old net change new before after (outcome_of old net)

-- where two counters stand, that of evaluations and that of nested ones
pub record Counted : Type 0 where
  pub evaluated : ℕ
  pub nested : ℕ

abbrev pub counted_at : ℕ → ℕ → Counted
counted_at evaluated nested = record { evaluated = evaluated; nested = nested }

-- nothing changed, and nothing was counted, since this is what comes of the change
pub record IsRefused (old : EngineState) (net : Net) (cause : Outcome) (new : EngineState)
    (before after : Counted) : Type 0 where
  pub cause_is : outcome_of old net ≡ cause
  pub same : new ≡ old
  pub counted : after ≡ before

-- nothing changed but that terms of what was to be added may have been entered, behind those that are
-- settled, and what was evaluated may have been counted
pub record WantsMemory (old : EngineState) (net : Net) (new : EngineState) : Type 0 where
  pub graph : HasMoreTerms (terms_of net.added) old.graph new.graph
  pub remembered : new.remembered ≡ old.remembered
  pub settled : new.settled ≡ old.settled

-- a change that was refused, by its fault
abbrev pub Refuses : EngineState → Net → EditFault → EngineState → Counted → Counted → Type 0
Refuses old net TooManyTriples new before after = IsRefused old net PastTriples new before after
Refuses old net TooManyTerms new before after = IsRefused old net PastTerms new before after
Refuses old net Memory new before after = WantsMemory old net new
