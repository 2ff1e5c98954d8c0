-- How a run ends, by what was put.
use Rattle.std.proofs.Common.{◌≡◌, ◌≢◌, ℕ, List, [], ◌∷◌, ◌++◌, Option, None, Some, Result, Ok, Err}
use Rattle.std.proofs.Common.{refl, sym, ap, ◌∙◌, subst, append-nil, append_assoc}
use Rattle.std.proofs.Common.{length-append}
use Rattle.std.specs.Prelude.{IfSome, IsErrAnd}
use Rattle.std.proofs.lemmas.Option.{none-some, same_Some}
use Rattle.shx_outside.specs.Counted.{Rose}
use Rattle.shx_outside.specs.Outside.{InputState, PatternState, SinkState}
use Rattle.shx_outside.proofs.ToldLemmas.{Grew-none, Grew-then, Fell-none, Fell-then}
use Rattle.text_output.specs.Writes.{Put, FellShort}
use Rattle.text_output.specs.inner.AddedLaws.{Put-then}
use Rattle.shacl_run.specs.declared.status.Status.{Status}
use Rattle.shacl_run.specs.declared.status.Status.TheVariants.{InputFault, WriteFault, Memory as no_memory}
use Rattle.shape_text.specs.declared.stop.Stop.{Stop}
use Rattle.shape_text.specs.declared.stop.Stop.TheVariants.{Input, Write, Memory}
use Rattle.shacl_run.specs.inner.Ends.{PutsFront, Ends}
use Rattle.shacl_run.specs.Outside.{Outside, counts}
use Rattle.shacl_run.specs.Run.{Output}
use Rattle.shacl_run.specs.inner.Serving.{Prefixed}
use Rattle.shacl_run.specs.Status.{IsAnswered, IsCutShort, IsReported}
use Rattle.script_run.specs.Work.{NoneFell, Work, and_then}
use Rattle.shacl_run.specs.inner.Stops.{stop_status}
use Rattle.script_run.proofs.WorkLemmas.{NoneFell-by, NoneFell-then, work_then}

-- where two lists together are empty, each of them is
pub append_none : (xs ys : List ℕ) → xs ++ ys ≡ [] → (xs ≡ []) × (ys ≡ [])
append_none [] ys none = (refl, none)
append_none (x ∷ xs) ys none = absurd (cc)

nothing_due : (due : Option Output) (status : Status) → status ≢ WriteFault
    → IfSome due (λ output. (rest : List ℕ) × (output.text ≡ [] ++ rest) × (status ≡ WriteFault → rest ≢ []))
nothing_due None status other = tt
nothing_due (Some output) status other = (output.text, refl, λ is. absurd (other is))

PutsFront-nothing : (due : Option Output) (status : Status) (s s' : SinkState) → s' ≡ s → status ≢ WriteFault
    → PutsFront due status s s'
PutsFront-nothing due status s s' same other = rw same (record {
  written = [];
  grew = Grew-none s.held;
  fell = Fell-none s.room;
  begins = nothing_due due status other;
})

-- of two moments, nothing was put and no input failed
pub record IsStill (before after : Outside) : Type 0 where
  pub sink : after.sink ≡ before.sink
  pub inputs : after.inputs.faults ≡ before.inputs.faults

pub IsStill-itself : (at : Outside) → IsStill at at
IsStill-itself at = record { sink = refl; inputs = refl }

-- an input failed, and nothing was put
pub Ends-input : (due : Option Output) (before after : Outside) → after.sink ≡ before.sink
    → Rose before.inputs.faults after.inputs.faults → Ends due InputFault before after
Ends-input due before after same rose = record {
  whole = λ answered. absurd answered;
  front = λ _. PutsFront-nothing due InputFault before.sink after.sink same (λ is. cc);
  causes = record {
    input_fault = λ _. rose;
    write_fault = λ is. cc;
    used_up = λ is. cc;
    quiet_inputs = λ other. absurd (other refl);
    quiet_sink = λ _. ap (λ (s : SinkState). s.faults) same;
  };
}

-- memory was wanted, and nothing was put
pub Ends-memory : (due : Option Output) (before after : Outside) → IsStill before after
    → Ends due no_memory before after
Ends-memory due before after still = record {
  whole = λ answered. absurd answered;
  front = λ _. PutsFront-nothing due no_memory before.sink after.sink still.sink (λ is. cc);
  causes = record {
    input_fault = λ is. cc;
    write_fault = λ is. cc;
    used_up = λ is. cc;
    quiet_inputs = λ _. still.inputs;
    quiet_sink = λ _. ap (λ (s : SinkState). s.faults) still.sink;
  };
}

pub answered_apart : (status other : Status) → IsAnswered status → (IsAnswered other → ⊥) → status ≡ other → ⊥
answered_apart status other answered not_answered is = not_answered (subst IsAnswered is answered)

pub cut_or_answered : (status : Status) → IsAnswered status → IsCutShort status → ⊥
cut_or_answered InputFault answered cut = absurd answered
cut_or_answered WriteFault answered cut = absurd answered
cut_or_answered no_memory answered cut = absurd answered
cut_or_answered _ answered cut = absurd cut

-- of two moments, no input failed, and where reports were given to the end, so much work was done
pub record IsWorked (work : Work) (status : Status) (before after : Outside) : Type 0 where
  pub inputs : after.inputs.faults ≡ before.inputs.faults
  pub counted : IsReported status → counts after ≡ and_then (counts before) work

-- what is due was put
pub Ends-whole : (due : Option Output) (output : Output) (before after : Outside)
    → IfSome due (λ told. told ≡ output) → IsAnswered output.status
    → IsWorked output.work output.status before after → Put before.sink after.sink output.text
    → Ends due output.status before after
Ends-whole due output before after told answered worked put = record {
  whole = λ _. record {
    written = output.text;
    put = put;
    risen = λ reported.
        NoneFell-by (counts before) (counts after) output.work (worked.counted reported);
    defined = defined due told;
  };
  front = λ cut. absurd (cut_or_answered output.status answered cut);
  causes = record {
    input_fault = λ is. absurd (answered_apart output.status InputFault answered (λ no. no) is);
    write_fault = λ is. absurd (answered_apart output.status WriteFault answered (λ no. no) is);
    used_up = λ is. absurd (answered_apart output.status WriteFault answered (λ no. no) is);
    quiet_inputs = λ _. worked.inputs;
    quiet_sink = λ _. put.quiet;
  };
} where
  defined : (due : Option Output) → IfSome due (λ told. told ≡ output)
      → IfSome due (λ told. (output.status ≡ told.status) × (output.text ≡ told.text)
      × (IsReported output.status → counts after ≡ and_then (counts before) told.work))
  defined None told = tt
  defined (Some other) told = (
    sym (ap (λ (o : Output). o.status) told),
    sym (ap (λ (o : Output). o.text) told),
    λ reported. worked.counted reported
        ∙ sym (ap (λ (o : Output). and_then (counts before) o.work) told),
  )

-- the sink failed within what is due
pub Ends-short : (due : Option Output) (text : List ℕ) (before after : Outside)
    → IfSome due (λ told. (rest : List ℕ) × (told.text ≡ text ++ rest))
    → after.inputs.faults ≡ before.inputs.faults → FellShort before.sink after.sink text
    → Ends due WriteFault before after
Ends-short due text before after begins quiet short = record {
  whole = λ answered. absurd answered;
  front = λ _. record {
    written = short.front;
    grew = short.grew;
    fell = short.fell;
    begins = front_of due begins;
  };
  causes = record {
    input_fault = λ is. cc;
    write_fault = λ _. short.rose;
    used_up = λ _. short.used_up;
    quiet_inputs = λ _. quiet;
    quiet_sink = λ other. absurd (other refl);
  };
} where
  front_of : (due : Option Output) → IfSome due (λ told. (rest : List ℕ) × (told.text ≡ text ++ rest))
      → IfSome due (λ told.
      (rest : List ℕ) × (told.text ≡ short.front ++ rest) × (WriteFault ≡ WriteFault → rest ≢ []))
  front_of None begins = tt
  front_of (Some told) (rest, is) = (
    short.rest ++ rest,
    is ∙ ap (λ bytes. bytes ++ rest) short.whole ∙ append_assoc short.front short.rest rest,
    λ _ none. short.proper ((append_none short.rest rest none).0),
  )

-- one answer is all that is due, and it was put
pub Ends-answer : (output : Output) (before after : Outside) → IsAnswered output.status
    → (IsReported output.status → ⊥) → after.inputs.faults ≡ before.inputs.faults
    → Put before.sink after.sink output.text → Ends (Some output) output.status before after
Ends-answer output before after answered unreported quiet put =
    Ends-whole (Some output) output before after refl answered
    (record { inputs = quiet; counted = λ reported. absurd (unreported reported) }) put

-- ... or the sink failed within it
pub Ends-answer_short : (output : Output) (before after : Outside)
    → after.inputs.faults ≡ before.inputs.faults → FellShort before.sink after.sink output.text
    → Ends (Some output) WriteFault before after
Ends-answer_short output before after quiet short =
    Ends-short (Some output) output.text before after ([], sym (append-nil output.text)) quiet short

-- a text was put, no input failed, and no count fell
pub record PutsFirst (text : List ℕ) (before after : Outside) : Type 0 where
  pub put : Put before.sink after.sink text
  pub inputs : after.inputs.faults ≡ before.inputs.faults
  pub risen : NoneFell (counts before) (counts after)

-- ... and then the run ended with what is due after it
module _ (text : List ℕ) (work : Work) (status : Status) (before within after : Outside) where
  -- where something is due, so much work was done for the text
  abbrev pub IsWorkedFor : Option Output → Type 0
  IsWorkedFor due = IfSome due (λ told. counts within ≡ and_then (counts before) work)

  defined : (due later : Option Output) (written : List ℕ) → IfSome due (Prefixed text work later)
      → IsWorkedFor due
      → IfSome later (λ told. (status ≡ told.status) × (written ≡ told.text)
      × (IsReported status → counts after ≡ and_then (counts within) told.work))
      → IfSome due (λ told. (status ≡ told.status) × (text ++ written ≡ told.text)
      × (IsReported status → counts after ≡ and_then (counts before) told.work))
  defined None later written prefixed worked d = tt
  defined (Some told) None written prefixed worked d = absurd (none-some prefixed.rest prefixed.is)
  defined (Some told) (Some rest) written prefixed worked d =
      let is : rest ≡ prefixed.rest = same_Some rest prefixed.rest prefixed.is in (
        d.0 ∙ ap (λ (o : Output). o.status) is ∙ sym (ap (λ (o : Output). o.status) prefixed.whole),
        ap (λ bytes. text ++ bytes) (d.1 ∙ ap (λ (o : Output). o.text) is)
            ∙ sym (ap (λ (o : Output). o.text) prefixed.whole),
        λ reported.
            work_then (counts before) (counts within) (counts after) work rest.work worked (d.2 reported)
            ∙ ap (λ (o : Output). and_then (counts before) (and_then work o.work)) is
            ∙ sym (ap (λ (o : Output). and_then (counts before) o.work) prefixed.whole),
      )

  begins : (due later : Option Output) (written : List ℕ) → IfSome due (Prefixed text work later)
      → IfSome later (λ told. (rest : List ℕ) × (told.text ≡ written ++ rest)
      × (status ≡ WriteFault → rest ≢ []))
      → IfSome due (λ told.
      (rest : List ℕ) × (told.text ≡ (text ++ written) ++ rest) × (status ≡ WriteFault → rest ≢ []))
  begins None later written prefixed d = tt
  begins (Some told) None written prefixed d = absurd (none-some prefixed.rest prefixed.is)
  begins (Some told) (Some after) written prefixed (rest, is, proper) =
      let same : after ≡ prefixed.rest = same_Some after prefixed.rest prefixed.is in (
        rest,
        ap (λ (o : Output). o.text) prefixed.whole
            ∙ ap (λ bytes. text ++ bytes) (sym (ap (λ (o : Output). o.text) same) ∙ is)
            ∙ sym (append_assoc text written rest),
        proper,
      )

  pub Ends-after : PutsFirst text before within → (due later : Option Output)
      → IfSome due (Prefixed text work later) → IsWorkedFor due
      → Ends later status within after → Ends due status before after
  Ends-after first due later prefixed worked ends = record {
    whole = λ answered. let a = ends.whole answered in record {
      written = text ++ a.written;
      put = Put-then first.put a.put;
      risen = λ reported. NoneFell-then first.risen (a.risen reported);
      defined = defined due later a.written prefixed worked a.defined;
    };
    front = λ cut. let a = ends.front cut in record {
      written = text ++ a.written;
      grew = Grew-then first.put.grew a.grew;
      fell = rw (length-append text a.written) (Fell-then first.put.fell a.fell);
      begins = begins due later a.written prefixed a.begins;
    };
    causes = let a = ends.causes in record {
      input_fault = λ is. subst (λ n. Rose n after.inputs.faults) first.inputs (a.input_fault is);
      write_fault = λ is. subst (λ n. Rose n after.sink.faults) first.put.quiet (a.write_fault is);
      used_up = λ is room told. let left = first.put.fell.told room told in a.used_up is left.0 left.1;
      quiet_inputs = λ other. a.quiet_inputs other ∙ first.inputs;
      quiet_sink = λ other. a.quiet_sink other ∙ first.put.quiet;
    };
  }

-- what is due where it is told is due
pub Ends-told : (due later : Option Output) (status : Status) (before after : Outside)
    → IfSome due (λ told. later ≡ Some told) → Ends later status before after → Ends due status before after
Ends-told None later status before after told ends = record {
  whole = λ answered.
      let a = ends.whole answered in
      record { written = a.written; put = a.put; risen = a.risen; defined = tt };
  front = λ cut.
      let a = ends.front cut in record { written = a.written; grew = a.grew; fell = a.fell; begins = tt };
  causes = ends.causes;
}
Ends-told (Some output) later status before after told ends =
    subst (λ (due : Option Output). Ends due status before after) told ends

-- of the inputs it tells of their faults alone, and nothing of the patterns
pub Ends-beside : (due : Option Output) (status : Status) (before after : Outside)
    (inputs inputs' : InputState) (patterns patterns' : PatternState) → inputs.faults ≡ before.inputs.faults
    → inputs'.faults ≡ after.inputs.faults
    → Ends due status (record before { inputs = inputs; patterns = patterns })
    (record after { inputs = inputs'; patterns = patterns' })
    → Ends due status before after
Ends-beside due status before after inputs inputs' patterns patterns' same same' ends = record {
  whole = λ answered.
      let a = ends.whole answered in
      record { written = a.written; put = a.put; risen = a.risen; defined = a.defined };
  front = ends.front;
  causes = let a = ends.causes in record {
    input_fault = λ is. subst (λ n. Rose n after.inputs.faults) same
        (subst (Rose inputs.faults) same' (a.input_fault is));
    write_fault = a.write_fault;
    used_up = a.used_up;
    quiet_inputs = λ other. sym same' ∙ a.quiet_inputs other ∙ same;
    quiet_sink = a.quiet_sink;
  };
}

-- what ends without a report ends so from a moment on behind which nothing was put
pub Ends-from_still : (due : Option Output) (status : Status) (before within after : Outside)
    → IsStill before within → (IsReported status → ⊥) → Ends due status within after
    → Ends due status before after
Ends-from_still due status before within after still unreported ends = record {
  whole = λ answered. let a = ends.whole answered in record {
    written = a.written;
    put = subst (λ sink. Put sink after.sink a.written) still.sink a.put;
    risen = λ reported. absurd (unreported reported);
    defined = defined due a.written a.defined;
  };
  front = λ cut. subst (λ sink. PutsFront due status sink after.sink) still.sink (ends.front cut);
  causes = let a = ends.causes in record {
    input_fault = λ is. subst (λ n. Rose n after.inputs.faults) still.inputs (a.input_fault is);
    write_fault = λ is. subst (λ (s : SinkState). Rose s.faults after.sink.faults) still.sink
        (a.write_fault is);
    used_up = λ is room told. a.used_up is room (ap (λ (s : SinkState). s.room) still.sink ∙ told);
    quiet_inputs = λ other. a.quiet_inputs other ∙ still.inputs;
    quiet_sink = λ other. a.quiet_sink other ∙ ap (λ (s : SinkState). s.faults) still.sink;
  };
} where
  defined : (due : Option Output) (written : List ℕ)
      → IfSome due (λ told. (status ≡ told.status) × (written ≡ told.text)
      × (IsReported status → counts after ≡ and_then (counts within) told.work))
      → IfSome due (λ told. (status ≡ told.status) × (written ≡ told.text)
      × (IsReported status → counts after ≡ and_then (counts before) told.work))
  defined None written d = tt
  defined (Some told) written d = (d.0, d.1, λ reported. absurd (unreported reported))

-- a part of a run stopped where the part in it did
pub passed_on : {T E : Type 0} (r : Result T E) (stop : E) → IsErrAnd r (λ e. e ≡ stop) → r ≡ Err stop
passed_on (Ok x) stop is = absurd is
passed_on (Err e) stop is = ap Err is

pub input_stop : (stop : Stop) → stop_status stop ≡ InputFault → stop ≡ Input
input_stop Input is = refl
input_stop Write is = absurd (cc)
input_stop Memory is = absurd (cc)
