-- What a validation is opened of: a plan that targets its own shapes, and a text that is read; and why a data
-- text is refused.
use Rattle.std.specs.Prelude.{◌≡◌, ℕ, ◌<◌, nat_eq, List, All, length}
use Rattle.std.specs.List.{IsDistinct}
use Rattle.shx_outside.specs.declared.role.Role.TheVariants.{Data as of_data}
use Rattle.shx_term.specs.declared.limits.Limits.{Limits}
use Rattle.shx_term.specs.declared.term.Scope.TheVariants.{Data}
use Rattle.shx_term.specs.declared.term.Term.{Term}
use Rattle.graph_view.specs.Graph.{Graph}
use Rattle.ttl_meaning.specs.State.{State}
use Rattle.shape_eval.specs.Plan.{Planned}
use Rattle.text_output.specs.declared.format.Format.{Format}
use Rattle.shape_text.specs.declared.refusal.Refusal.TheVariants.{Text}
use Rattle.shape_text.specs.declared.unopened.Unopened.{Unopened}
use Rattle.shape_text.specs.declared.unopened.Unopened.TheVariants as unopened
use Rattle.shape_text.specs.Refusal.{RefusesAs}
use Rattle.shape_text.specs.TextReadings.{TextReading, States, IsReadAs, stated_graph}
use Rattle.script_run.specs.declared.validation.Validation.{Validation}
use Rattle.script_run.specs.ScriptState.{start_state}
use Rattle.script_run.specs.Stored.{IsValidation}

-- a plan targets shapes of its own, each once
pub record TargetsItsOwn (plan : Planned) : Type 0 where
  pub within : All (λ n. n < length plan.shapes) plan.targeted
  pub once : IsDistinct nat_eq plan.targeted

-- the text is read as a document, and the validation stores its graph
pub record OpensFor (limits : Limits) (format : Format) (plan : Planned) (reading : TextReading)
    (validation : Validation) : Type 0 where
  pub document : Graph
  pub end : State
  pub is : reading ≡ States document end
  pub stored : IsValidation limits format (start_state (stated_graph document) end plan) validation

-- the data text is read as what this validation is opened for, where these terms are held
abbrev pub Opens : Limits → Format → List ℕ → List Term → Planned → List ℕ → Validation → Type 0
Opens limits format base held plan text validation =
    (reading : TextReading) × IsReadAs limits base Data held text reading
    × OpensFor limits format plan reading validation

abbrev pub RefusesData : Limits → List ℕ → List Term → List ℕ → Unopened → Type 0
RefusesData limits base held text (unopened.Told answer pool) =
    RefusesAs of_data (IsReadAs limits base Data held text) (Text answer)
RefusesData limits base held text (unopened.Cut stop) = Unit {0}
