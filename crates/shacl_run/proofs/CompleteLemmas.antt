-- A run where nothing outside fails.
use Rattle.std.proofs.Common.{◌≡◌, ◌≢◌, ℕ, ◌≤◌, Bool, true, false, List, [], ◌∷◌, Option, None, Some, length}
use Rattle.std.proofs.Common.{refl, sym, ap, subst, inl, inr, append-nil, length-append, ◌∙◌, arith}
use Rattle.std.proofs.Common.{if◌then◌else◌}
use Rattle.std.specs.Prelude.{IfSome, ◌⊎◌}
use Rattle.std.proofs.lemmas.Option.{same_Some}
use Rattle.shx_outside.specs.Counted.{Rose}
use Rattle.shx_outside.specs.OpenTexts.{OpenTexts, texts_told}
use Rattle.shx_term.specs.declared.limits.Limits.{Limits}
use Rattle.graph_view.specs.Graph.{Graph}
use Rattle.shape_decl.specs.Declarations.{Declaration, declarations}
use Rattle.shape_compile.specs.Patterns.{StatesPattern}
use Rattle.ttl_meaning.specs.State.{State}
use Rattle.command_words.specs.Words.{command_words}
use Rattle.shacl_run.specs.declared.status.Status.{Status}
use Rattle.shacl_run.specs.declared.status.Status.TheVariants.{Conforms, Violates, BadWords, Refused}
use Rattle.shacl_run.specs.declared.status.Status.TheVariants.{InputFault, WriteFault, Memory, LinesRefused}
use Rattle.shacl_run.specs.Complete.{HasNoPattern, HasRoom, HasRoomByAny, IsCalm, IsComplete, IsDue}
use Rattle.shacl_run.specs.Complete.{IsUndisturbed, NothingFailed, WritesDefined}
use Rattle.script_run.specs.Replies.{is_any_refused}
use Rattle.shacl_run.specs.Loads.{AreLoaded, is_refused_by}
use Rattle.shacl_run.specs.Outside.{Outside}
use Rattle.shape_text.specs.ShapesReadings.{AreJudged, ComeTo}
use Rattle.shacl_run.specs.Readings.{Readings}
use Rattle.shape_text.specs.TextReadings.{TextReading, States, Faulty, Long, stated_graph}
use Rattle.shacl_run.specs.Run.{Output, run_output}
use Rattle.shacl_run.specs.RunClauses.{ByVerdict, DataIsReadBy, HasCauses, IsRun, LinesAreReadBy}
use Rattle.shape_text.specs.Verdict.{RoseWhere, Verdict, IsVerdict, plans, stops, refuses_pattern}
use Rattle.shacl_run.specs.RunClauses.{ShapesAreReadBy, WritesBy, WritesDue, WritesFront}
use Rattle.shacl_run.specs.RunClauses.{WritesWhole, words_shapes}
use Rattle.shacl_run.proofs.MissingLemmas.{loaded_weaker}
use Rattle.shacl_run.proofs.NoPatternLemmas.{no_load_refused}
use Rattle.shacl_run.specs.Status.{IsAnswered, IsCutShort}
use Rattle.shape_text.specs.Verdict.Obstacle.{breaks, recurs, reaches_far, misspells, is_refused}

-- a count that stayed, and could have risen, did not rise
calm_is_not_risen : (before now : ℕ) → IsCalm before now → Rose before now → ⊥
calm_is_not_risen before now calm rose = elim (rose.more) [
  | inl more ↦ absurd (omega (arith, calm.same, more))
  | inr last ↦ calm.can_rise (sym calm.same ∙ last)
]

-- ---- complete

-- neither the inputs nor the sink failed: memory was wanted, or the run answered
served : (status : Status) → status ≢ InputFault → status ≢ WriteFault → (status ≡ Memory) ⊎ IsAnswered status
served Conforms inputs sink = inr tt
served Violates inputs sink = inr tt
served BadWords inputs sink = inr tt
served Refused inputs sink = inr tt
served InputFault inputs sink = absurd (inputs refl)
served WriteFault inputs sink = absurd (sink refl)
served Memory inputs sink = inl refl
served LinesRefused inputs sink = inr tt

cut_is_not_answered : (status : Status) → IsAnswered status → IsCutShort status → ⊥
cut_is_not_answered Conforms answered cut = cut
cut_is_not_answered Violates answered cut = cut
cut_is_not_answered BadWords answered cut = cut
cut_is_not_answered Refused answered cut = cut
cut_is_not_answered InputFault answered cut = answered
cut_is_not_answered WriteFault answered cut = answered
cut_is_not_answered Memory answered cut = answered
cut_is_not_answered LinesRefused answered cut = cut

-- where the host's count did not rise, no pattern was refused
not_refused : (b : Bool) (before now : ℕ) → IsCalm before now → (b ≡ true → Rose before now) → b ≡ false
not_refused true before now calm rose = absurd (calm_is_not_risen before now calm (rose refl))
not_refused false before now calm rose = refl

rose_where : (b : Bool) (before now : ℕ) → RoseWhere b before now → b ≡ true → Rose before now
rose_where true before now rose is = rose
rose_where false before now same is = absurd (cc)

none_of_both : (first later : Bool) → first ≡ false → (if first then true else later) ≡ false → later ≡ false
none_of_both true later built is = absurd (cc)
none_of_both false later built is = is

module _ (limits : Limits) (words : List (List ℕ)) (before after : Outside) (status : Status) where
  defined_written : (due : Option Output) (output : Output) → IfSome due (λ defined. output ≡ defined)
      → WritesWhole output before after status
      → IfSome due (λ defined. WritesWhole defined before after status)
  defined_written None output is whole = tt
  defined_written (Some defined) output is whole =
      subst (λ o. WritesWhole o before after status) is whole

  -- what is written does not depend on what comes of texts that are not loaded
  pub writes_alone : {readings : Readings} {verdict : Verdict}
      → (due : WritesDue limits readings verdict words before after status)
      → WritesBy limits readings verdict due.told words before after status
  writes_alone {readings = readings} {verdict = verdict} due =
      subst (λ loads. WritesBy limits readings verdict loads words before after status)
      (append-nil due.told) (due.writes [])

  -- of a run that answered all is told
  pub all_told : {readings : Readings} {verdict : Verdict} → IsAnswered status
      → (due : WritesDue limits readings verdict words before after status)
      → AreLoaded ⊥ limits readings verdict after.patterns.refused words before.inputs.text due.told
  all_told {readings = readings} {verdict = verdict} answered due =
      loaded_weaker (cut_is_not_answered status answered) limits readings verdict after.patterns.refused words
      before.inputs.text due.told due.right

  due_by : (readings : Readings) → NothingFailed before after → IsAnswered status
      → ByVerdict limits readings.shapes (words_shapes before.inputs.text (command_words words))
      before.patterns after.patterns (λ verdict.
      DataIsReadBy limits readings verdict (command_words words) before.inputs.text
      → LinesAreReadBy limits readings verdict (command_words words) before.inputs.text
      → WritesDue limits readings verdict words before after status)
      → IsDue limits readings words before after status
  due_by readings nothing answered by =
      let patterns = nothing.patterns in
      let built = not_refused (refuses_pattern by.verdict) before.patterns.faults after.patterns.faults
      patterns by.patterns in record {
        verdict = by.verdict;
        judged = by.judged;
        built = built;
        written = λ data_text lines.
            let due = by.says data_text lines in
            let writes = writes_alone due in
            let refused = is_refused_by by.verdict due.told in record {
              loads = due.told;
              right = all_told answered due;
              all_built = none_of_both (refuses_pattern by.verdict) (is_any_refused due.told) built
                  (not_refused refused before.patterns.faults after.patterns.faults patterns
                  (rose_where refused before.patterns.faults after.patterns.faults due.patterns));
              whole = defined_written
                  (run_output limits readings by.verdict due.told words before.inputs.text) writes.output
                  writes.due (writes.exact answered);
            };
      }

  pub complete : IsRun limits words before after status → NothingFailed before after
      → IsComplete limits words before after status
  complete runs nothing = λ readings shapes.
      let inputs : status ≢ InputFault = λ is. calm_is_not_risen before.inputs.faults after.inputs.faults
      nothing.inputs (runs.causes.input_fault is) in
      let sink : status ≢ WriteFault = λ is. calm_is_not_risen before.sink.faults after.sink.faults
      nothing.sink (runs.causes.write_fault is) in
      elim (served status inputs sink) [
        | inl memory ↦ inl memory
        | inr answered ↦ inr (elim (runs.writes readings shapes) [
          | inl by ↦ due_by readings nothing answered by
          | inr early ↦ absurd (cut_is_not_answered status answered early.cut)
        ])
      ]

-- ---- honest inputs

pub no_input_fault : (limits : Limits) (words : List (List ℕ)) (before after : Outside) (status : Status)
    (texts texts' : OpenTexts) → before.inputs ≡ texts_told 0 texts → after.inputs ≡ texts_told 0 texts'
    → IsRun limits words before after status → status ≢ InputFault
no_input_fault limits words before after status texts texts' is is' runs failed =
    let rose = runs.causes.input_fault failed in
    let first = ap (λ inputs. inputs.faults) is in
    let last = ap (λ inputs. inputs.faults) is' in
    calm_is_not_risen 0 0 (record { same = refl; can_rise = λ none. cc })
    (subst (λ n. Rose n 0) first (subst (Rose before.inputs.faults) last rose))

-- ---- no pattern

no_refusal : (limits : Limits) (document : Graph) (verdict : Verdict)
    → ((d : Declaration) (value : ℕ)
    → StatesPattern (declarations limits (stated_graph document)) d value → ⊥)
    → IsVerdict limits (stated_graph document) verdict → refuses_pattern verdict ≡ false
no_refusal limits document (plans plan) none is = refl
no_refusal limits document (stops (breaks fault)) none is = refl
no_refusal limits document (stops (recurs shape)) none is = refl
no_refusal limits document (stops (reaches_far shape)) none is = refl
no_refusal limits document (stops (misspells shape)) none is = refl
no_refusal limits document (stops (is_refused shape)) none is =
    let at = is.1 in
    absurd (none at.decl at.value at.states)

no_refusal_by : (limits : Limits) (reading : TextReading) (verdict : Verdict)
    → ((document : Graph) (end : State) → reading ≡ States document end → (d : Declaration) (value : ℕ)
    → StatesPattern (declarations limits (stated_graph document)) d value → ⊥)
    → ComeTo limits reading verdict → refuses_pattern verdict ≡ false
no_refusal_by limits (States document end) verdict none come =
    no_refusal limits document verdict (none document end refl) come
no_refusal_by limits (Faulty code at) verdict none come = come
no_refusal_by limits Long verdict none come = come

pub no_pattern_refused : (limits : Limits) (words : List (List ℕ)) (before : Outside) (readings : Readings)
    → HasNoPattern limits readings words before → (verdict : Verdict)
    → AreJudged limits readings.shapes (words_shapes before.inputs.text (command_words words)) verdict
    → refuses_pattern verdict ≡ false
no_pattern_refused limits words before readings has verdict judged =
    let come = subst (λ text. AreJudged limits readings.shapes text verdict) has.told judged in
    no_refusal_by limits readings.shapes verdict has.none come

-- ---- room

no_length : (xs : List ℕ) → length xs ≡ 0 → xs ≡ []
no_length [] none = refl
no_length (x ∷ xs) none = absurd (cc)

module _ (limits : Limits) (readings : Readings) (words : List (List ℕ)) (before after : Outside) where
  -- of an output that has room no proper front uses the room up
  fits_whole : (output : Output) (room : ℕ) → before.sink.room ≡ Some room → length output.text ≤ room
      → (front : WritesFront output before.sink after.sink WriteFault)
      → ((room' : ℕ) → before.sink.room ≡ Some room' → after.sink.room ≡ Some 0) → ⊥
  fits_whole output room is fits front used_up =
      let left = front.fell.told room is in
      let none = same_Some left.0 0 (sym left.1 ∙ used_up room is) in
      let whole = ap length front.whole ∙ length-append front.front front.rest in
      front.proper refl (no_length front.rest (omega (arith, left.2, none, whole, fits)))

  written_by : (verdict : Verdict) → HasRoom limits readings words before verdict
      → WritesDue limits readings verdict words before after WriteFault
      → HasCauses words before after WriteFault → ⊥
  written_by verdict has due causes =
      let writes = writes_alone limits words before after WriteFault due in
      let fits = has.room due.told after.patterns.refused due.right in
      let is = subst (λ told. IfSome told (λ defined. writes.output ≡ defined)) fits.is writes.due in
      let front = subst (λ output. WritesFront output before.sink after.sink WriteFault) is
      (writes.prefix tt) in
      fits_whole fits.output fits.room fits.has fits.fits front (causes.used_up refl)

  no_fault : ShapesAreReadBy limits readings (command_words words) before.inputs.text
      → HasRoomByAny limits readings words before → IsRun limits words before after WriteFault → ⊥
  no_fault shapes has runs = elim (runs.writes readings shapes) [
    | inl by ↦
        let room = has by.verdict by.judged in
        written_by by.verdict room (by.says room.data_text room.lines) runs.causes
    | inr early ↦ early.no_write_fault refl
  ]

  pub no_write_fault : (status : Status)
      → ShapesAreReadBy limits readings (command_words words) before.inputs.text
      → HasRoomByAny limits readings words before → IsRun limits words before after status
      → status ≢ WriteFault
  no_write_fault status shapes has runs = λ is.
      no_fault shapes has (subst (IsRun limits words before after) is runs)

-- ---- nothing disturbs

module _ (limits : Limits) (readings : Readings) (words : List (List ℕ)) (before after : Outside)
    (status : Status) (runs : IsRun limits words before after status)
    (calm : IsUndisturbed limits readings words before after) where
  defined_by : IsAnswered status → (verdict : Verdict)
      → AreJudged limits readings.shapes (words_shapes before.inputs.text (command_words words)) verdict
      → HasRoom limits readings words before verdict
      → WritesDue limits readings verdict words before after status
      → WritesDefined limits readings words before after status
  defined_by answered verdict judged room due =
      let writes = writes_alone limits words before after status due in
      let right = all_told limits words before after status answered due in
      let last = after.patterns.refused in
      let fits = room.room due.told last (loaded_weaker (λ none. tt) limits readings verdict last words
      before.inputs.text due.told right) in record {
        verdict = verdict;
        judged = judged;
        built = no_pattern_refused limits words before readings calm.no_pattern verdict judged;
        loads = due.told;
        right = right;
        all_built = no_load_refused limits words before readings calm.no_pattern verdict last due.told
            room.lines fits.output fits.is right;
        output = fits.output;
        defined = fits.is;
        written =
            let is = subst (λ told. IfSome told (λ defined. writes.output ≡ defined)) fits.is writes.due in
            subst (λ output. WritesWhole output before after status) is (writes.exact answered);
      }

  pub undisturbed : (status ≡ Memory) ⊎ WritesDefined limits readings words before after status
  undisturbed =
      let inputs = no_input_fault limits words before after status calm.texts calm.texts_left calm.told
      calm.honest runs in
      let sink = no_write_fault limits readings words before after status calm.shapes calm.room runs in
      elim (served status inputs sink) [
        | inl memory ↦ inl memory
        | inr answered ↦ elim (runs.writes readings calm.shapes) [
          | inl by ↦
              let room = calm.room by.verdict by.judged in
              inr (defined_by answered by.verdict by.judged room (by.says room.data_text room.lines))
          | inr early ↦ absurd (cut_is_not_answered status answered early.cut)
        ]
      ]
