-- How the parts of a run end.
use Rattle.std.specs.Prelude.{◌≡◌, ◌≢◌, ℕ, Bool, List, [], ◌++◌, ◌⊎◌, Option, Some, length, IfSome}
use Rattle.shx_outside.specs.Counted.{Rose}
use Rattle.shx_outside.specs.Outside.{SinkState}
use Rattle.shx_outside.specs.Told.{Grew, Fell}
use Rattle.shx_term.specs.declared.fault_codes.TheConstants.{PATTERN_REFUSED}
use Rattle.shx_term.specs.declared.term.Term.{Term}
use Rattle.report_write.specs.declared.answer.Answer.TheVariants.{OfShape}
use Rattle.text_output.specs.declared.format.Format.{Format}
use Rattle.text_output.specs.Writes.{Put}
use Rattle.shacl_run.specs.declared.status.Status.{Status}
use Rattle.shacl_run.specs.declared.status.Status.TheVariants.{InputFault, WriteFault}
use Rattle.shacl_run.specs.Outside.{Outside, counts}
use Rattle.shape_text.specs.Verdict.{RoseWhere}
use Rattle.shacl_run.specs.Run.{Output, behind, refused}
use Rattle.shacl_run.specs.Status.{IsAnswered, IsCutShort, IsReported}
use Rattle.script_run.specs.Load.{Load}
use Rattle.script_run.specs.Work.{NoneFell, and_then, no_work}

-- the bytes put, the status and the work are those that are due, where these are told; no counter falls
pub record PutsWhole (due : Option Output) (status : Status) (before after : Outside) : Type 0 where
  pub written : List ℕ
  pub put : Put before.sink after.sink written
  pub risen : IsReported status → NoneFell (counts before) (counts after)
  pub defined : IfSome due (λ output. (status ≡ output.status) × (written ≡ output.text)
      × (IsReported status → counts after ≡ and_then (counts before) output.work))

-- the bytes put are a front of the text that is due, where it is told: a proper one where the sink failed
pub record PutsFront (due : Option Output) (status : Status) (before after : SinkState) : Type 0 where
  pub written : List ℕ
  pub grew : Grew before.held after.held written
  pub fell : Fell before.room after.room (length written)
  pub begins : IfSome due (λ output.
      (rest : List ℕ) × (output.text ≡ written ++ rest) × (status ≡ WriteFault → rest ≢ []))

-- a failure comes only where its count rose, and otherwise no count rose
pub record EndCauses (status : Status) (before after : Outside) : Type 0 where
  pub input_fault : status ≡ InputFault → Rose before.inputs.faults after.inputs.faults
  pub write_fault : status ≡ WriteFault → Rose before.sink.faults after.sink.faults
  pub used_up : status ≡ WriteFault → (room : ℕ) → before.sink.room ≡ Some room → after.sink.room ≡ Some 0
  pub quiet_inputs : status ≢ InputFault → after.inputs.faults ≡ before.inputs.faults
  pub quiet_sink : status ≢ WriteFault → after.sink.faults ≡ before.sink.faults

-- how a part of a run ends, from a moment on at which this output is due
pub record Ends (due : Option Output) (status : Status) (before after : Outside) : Type 0 where
  pub whole : IsAnswered status → PutsWhole due status before after
  pub front : IsCutShort status → PutsFront due status before.sink after.sink
  pub causes : EndCauses status before after

-- the count of refused patterns stays, or the run ends with the line that tells of one, behind what it wrote
-- before
abbrev pub EndsByPattern : Format → Status → Outside → Outside → Type 0
EndsByPattern format status before after =
    (after.patterns.faults ≡ before.patterns.faults)
    ⊎ ((front : List ℕ) × (terms : List Term) × (shape : ℕ)
    × Ends (Some (behind front no_work (refused format terms (OfShape PATTERN_REFUSED shape)))) status before
    after)

-- a part of a run ends as is due, whatever comes of the texts that are loaded behind its end: `told` is what
-- came of those before, of which all is right. Where an input failed, it stops as it is to. The pattern
-- host's count rose where one of them was refused for a pattern, and only there
pub record EndsBy (Due : List Load → Option Output) (Right Stops : List Load → Type 0)
    (is_refused : List Load → Bool) (status : Status) (before after : Outside) : Type 0 where
  pub told : List Load
  pub right : Right told
  pub run_ends : (rest : List Load) → Ends (Due (told ++ rest)) status before after
  pub patterns : RoseWhere (is_refused told) before.patterns.faults after.patterns.faults
  pub stops : status ≡ InputFault → Stops told
