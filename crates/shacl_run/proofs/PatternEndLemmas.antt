-- A part of a run ends with the line that tells of a refused pattern.
use Rattle.std.proofs.Common.{◌≡◌, ℕ, List, ◌++◌, Some, refl, sym, ◌∙◌, subst, append_assoc, arith, inl, inr}
use Rattle.std.specs.Prelude.{◌⊎◌}
use Rattle.shx_outside.specs.Outside.{InputState, PatternState}
use Rattle.shx_term.specs.declared.fault_codes.TheConstants.{PATTERN_REFUSED}
use Rattle.report_write.specs.declared.answer.Answer.TheVariants.{OfShape}
use Rattle.text_output.specs.declared.format.Format.{Format}
use Rattle.text_output.specs.Writes.{Put}
use Rattle.shacl_run.specs.declared.status.Status.{Status}
use Rattle.shacl_run.specs.inner.Ends.{Ends, EndsByPattern}
use Rattle.shacl_run.specs.Outside.{Outside, counts}
use Rattle.shacl_run.specs.Run.{Output, behind, refused}
use Rattle.shacl_run.specs.Status.{IsCutShort, IsReported}
use Rattle.script_run.specs.Work.{and_then, no_work}
use Rattle.shacl_run.proofs.EndLemmas.{Ends-after, Ends-beside, Ends-from_still}
use Rattle.shacl_run.proofs.ServedLemmas.{reported_answered}
use Rattle.script_run.proofs.WorkLemmas.{NoneFell-itself, and_then-no_work, same_work}

-- what ends without a report behind one text ends so behind two
pub Ends-behind : (text front : List ℕ) (output : Output) (status : Status) (before within after : Outside)
    → Put before.sink within.sink text → within.inputs.faults ≡ before.inputs.faults
    → (IsReported output.status → ⊥) → Ends (Some (behind front no_work output)) status within after
    → Ends (Some (behind (text ++ front) no_work output)) status before after
Ends-behind text front output status before within after put quiet unreported ends =
    let start = record within { sink = before.sink; inputs = before.inputs } in
    let later = behind front no_work output in
    let whole = behind (text ++ front) no_work output in
    Ends-from_still (Some whole) status before start after (record { sink = refl; inputs = refl })
    (λ reported.
    unreported (subst IsReported ((ends.whole (reported_answered status reported)).defined.0) reported))
    (Ends-after text no_work status start within after
    (record { put = put; inputs = quiet; risen = NoneFell-itself (counts within) }) (Some whole) (Some later)
    (record {
      rest = later;
      is = refl;
      whole = λ i. record {
        text = append_assoc text front output.text i;
        status = output.status;
        work = same_work (and_then no_work output.work) (and_then no_work (and_then no_work output.work))
            (omega arith) (omega arith) i;
      };
    }) (sym (and_then-no_work (counts within))) ends)

-- and so what ends with such a line, or leaves the count of refused patterns, does so behind a text
pub EndsByPattern-behind : (format : Format) (text : List ℕ) (status : Status) (before within after : Outside)
    → Put before.sink within.sink text → within.inputs.faults ≡ before.inputs.faults
    → within.patterns.faults ≡ before.patterns.faults
    → EndsByPattern format status within after ⊎ IsCutShort status
    → EndsByPattern format status before after ⊎ IsCutShort status
EndsByPattern-behind format text status before within after put quiet same by = elim by [
  | inl by_pattern ↦ elim by_pattern [
    | inl stays ↦ inl (inl (stays ∙ same))
    | inr told ↦
        let (front, terms, shape, ends) = told in
        inl (inr (
          text ++ front,
          terms,
          shape,
          Ends-behind text front (refused format terms (OfShape PATTERN_REFUSED shape)) status before within
              after put quiet (λ no. no) ends,
        ))
  ]
  | inr cut ↦ inr cut
]

-- the same of other inputs that failed as often, and of a host that refused as many patterns
pub EndsByPattern-beside : (format : Format) (status : Status) (before after : Outside) (inputs : InputState)
    (patterns : PatternState) → inputs.faults ≡ before.inputs.faults
    → patterns.faults ≡ before.patterns.faults
    → EndsByPattern format status (record before { inputs = inputs; patterns = patterns }) after
    ⊎ IsCutShort status → EndsByPattern format status before after ⊎ IsCutShort status
EndsByPattern-beside format status before after inputs patterns same same' by = elim by [
  | inl by_pattern ↦ elim by_pattern [
    | inl stays ↦ inl (inl (stays ∙ same'))
    | inr told ↦
        let (front, terms, shape, ends) = told in
        inl (inr (
          front,
          terms,
          shape,
          Ends-beside (Some (behind front no_work (refused format terms (OfShape PATTERN_REFUSED shape))))
              status before after inputs after.inputs patterns after.patterns same refl ends,
        ))
  ]
  | inr cut ↦ inr cut
]
