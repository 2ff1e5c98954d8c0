-- What preparing a run gives, whatever its script is.
use Rattle.std.specs.Prelude.{◌≡◌, ℕ, ◌+◌, ◌≤◌, ◌⊎◌, false, List, Option, IfSome, OnOk, Result, Ok, Err}
use Rattle.shx_outside.specs.declared.role.Role.{Role}
use Rattle.shx_outside.specs.declared.role.Role.TheVariants.{Shapes, Data, Script}
use Rattle.shx_outside.specs.Outside.{InputState, PatternState}
use Rattle.shx_outside.specs.Told.{IsAtEnd}
use Rattle.shx_term.specs.declared.fault_codes.TheConstants.{PATTERN_REFUSED}
use Rattle.shx_term.specs.declared.limits.Limits.{Limits}
use Rattle.text_input.specs.TextRead.{TakesWithin}
use Rattle.report_write.specs.declared.answer.Answer.TheVariants.{OfShape}
use Rattle.text_output.specs.declared.format.Format.{Format}
use Rattle.shape_text.specs.declared.unopened.Unopened.{Unopened}
use Rattle.shape_text.specs.declared.unopened.Unopened.TheVariants.{Told, Cut}
use Rattle.script_run.specs.declared.validation.Validation.{Validation}
use Rattle.graph_view.specs.Graph.{Graph}
use Rattle.ttl_meaning.specs.State.{State}
use Rattle.shape_eval.specs.Plan.{Planned}
use Rattle.shape_text.specs.Names.{HasNamesOf}
use Rattle.shacl_run.specs.Run.{texts_opening, refused}
use Rattle.shacl_run.specs.Run.Opening.{ends, opens}
use Rattle.shacl_run.specs.Readings.{Readings, DataIsRead}
use Rattle.shape_text.specs.TextReadings.{TextReading, States}
use Rattle.shape_text.specs.ShapesReadings.{AreJudged, HavePlan, IsRefusedIn, ShapesAreRead}
use Rattle.shacl_run.specs.RunClauses.{IsOpened, IsOpenedBy}
use Rattle.script_run.specs.Hosts.{TakesShapesWithin}
use Rattle.script_run.specs.ScriptState.{ScriptState}
use Rattle.shape_text.specs.Verdict.{RoseWhere, Verdict, plans, refuses_pattern}
use Rattle.script_run.specs.Stored.{IsValidation}

-- the validation is what the two texts open, behind a notice
pub record Opened (limits : Limits) (format : Format) (readings : Readings) (verdict : Verdict)
    (shapes data_text : Option (List ℕ)) (validation : Validation) : Type 0 where
  pub state : ScriptState
  pub stored : IsValidation limits format state validation
  pub due : IfSome (texts_opening format readings verdict shapes data_text)
      (λ opening. opening ≡ opens validation.passed_over state)

-- the validation stores some state
pub record Stores (limits : Limits) (format : Format) (validation : Validation) : Type 0 where
  pub state : ScriptState
  pub stored : IsValidation limits format state validation

-- what the texts come to by a verdict is opened, or refused as it is to be
abbrev pub Prepares : Limits → Format → Readings → Verdict → Option (List ℕ) → Option (List ℕ)
    → Result Validation Unopened → Type 0
Prepares limits format readings verdict shapes data_text (Ok validation) =
    Opened limits format readings verdict shapes data_text validation
Prepares limits format readings verdict shapes data_text (Err (Told answer pool)) =
    IfSome (texts_opening format readings verdict shapes data_text)
    (λ opening. opening ≡ ends (refused format pool.terms answer))
Prepares limits format readings verdict shapes data_text (Err (Cut stop)) = Unit

-- the run was cut short
abbrev pub IsCut : {T : Type 0} → Result T Unopened → Type 0
IsCut (Ok value) = ⊥
IsCut (Err (Told answer pool)) = ⊥
IsCut (Err (Cut stop)) = Unit {0}

-- where the data text is read so behind a plan, its names are those of the validation; where none was opened
-- it is no document
abbrev pub HasNamesRead : TextReading → Verdict → Result Validation Unopened → Type 0
HasNamesRead reading verdict (Ok validation) =
    (document : Graph) (end : State) → reading ≡ States document end → HasNamesOf end validation.document
HasNamesRead reading verdict (Err (Told answer pool)) =
    (document : Graph) (end : State) (plan : Planned) → verdict ≡ plans plan
    → reading ≡ States document end → ⊥
HasNamesRead reading verdict (Err (Cut stop)) = Unit

-- the two texts have a reading, and the shapes a verdict
pub record AreRead (limits : Limits) (base : List ℕ) (shapes data_text : Option (List ℕ))
    (prepared : Result Validation Unopened) : Type 0 where
  pub readings : Readings
  pub shapes_read : ShapesAreRead limits base readings.shapes shapes
  pub verdict : Verdict
  pub judged : AreJudged limits readings.shapes shapes verdict
  pub data_read : DataIsRead limits base readings verdict data_text
  pub names_read : HasNamesRead readings.data_text verdict prepared

-- what the two texts come to by a verdict was prepared, and the data text was opened only for a plan; where a
-- validation is opened, no pattern was refused
pub record PreparesBy (limits : Limits) (format : Format) (base : List ℕ) (readings : Readings)
    (shapes data_text : Option (List ℕ)) (DataIsOpened : Type 0) (prepared : Result Validation Unopened)
    (verdict : Verdict) : Type 0 where
  pub due : DataIsRead limits base readings verdict data_text
      → Prepares limits format readings verdict shapes data_text prepared
  pub planned : DataIsOpened → IfSome shapes (λ text. HavePlan readings.shapes verdict)
  pub built : OnOk prepared (refuses_pattern verdict ≡ false)

-- the shapes come to one verdict, by which all is said; and the pattern host's count rose where the verdict
-- is that a pattern was refused, which is then the last that the host refused
pub record JudgedBy (limits : Limits) (shapes : TextReading) (text : Option (List ℕ))
    (before after : PatternState) (Says : Verdict → Type 0) : Type 0 where
  pub verdict : Verdict
  pub judged : AreJudged limits shapes text verdict
  pub patterns : RoseWhere (refuses_pattern verdict) before.faults after.faults
  pub refused : IfSome text (λ bytes. IsRefusedIn limits shapes verdict after.refused)
  pub says : Says verdict

-- unless it was cut short, the run opens what the two texts come to, or refuses them as they are to be
pub record IsPrepared (limits : Limits) (format : Format) (base : List ℕ) (shapes data_text : Option (List ℕ))
    (before after : PatternState) (DataIsOpened : Type 0) (prepared : Result Validation Unopened)
    : Type 0 where
  pub due : (IsCut prepared → ⊥) → (readings : Readings) → ShapesAreRead limits base readings.shapes shapes
      → JudgedBy limits readings.shapes shapes before after
      (PreparesBy limits format base readings shapes data_text DataIsOpened prepared)
  pub read : (IsCut prepared → ⊥) → AreRead limits base shapes data_text prepared

-- the count of refused patterns stays, or it is told that one was refused
abbrev pub HostStays : ℕ → ℕ → Result Validation Unopened → Type 0
HostStays before now (Ok validation) = now ≡ before
HostStays before now (Err (Told answer pool)) =
    (now ≡ before) ⊎ ((shape : ℕ) × (answer ≡ OfShape PATTERN_REFUSED shape))
HostStays before now (Err (Cut stop)) = Unit

-- both texts were opened, and read to their ends
pub record AreReadToEnd (before after : InputState) : Type 0 where
  pub shapes_opened : IsOpened before after Shapes
  pub data_opened : IsOpened before after Data
  pub shapes_end : IsAtEnd (after.rest Shapes)
  pub data_end : IsAtEnd (after.rest Data)

-- each text is opened at most once, the data text behind the shapes text, and no script; and no more is taken
-- of either than one byte past its limit
pub record PreparesWithin (limit : ℕ) (before after : InputState) : Type 0 where
  pub once : (role : Role) → after.opens role ≤ before.opens role + 1
  pub in_turn : IsOpenedBy before after Data → IsOpened before after Shapes
  pub no_script : after.opens Script ≡ before.opens Script
  pub shapes_within : TakesShapesWithin limit after
  pub data_within : IsOpenedBy before after Data → TakesWithin (after.whole Data) (after.rest Data) limit
