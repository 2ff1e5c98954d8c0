-- What comes of a text that a line loads is what the line is told.
use Rattle.std.specs.Prelude.{◌<◌, ◌≡◌, ℕ, ◌⊎◌, ◌||◌, Bool, true, false, List, [], ◌∷◌, Option, Some, None}
use Rattle.std.specs.Prelude.{Result, All, Ok, Err, IfOk, IfErr, IfSome, OnErr, OnOk, length}
use Rattle.std.proofs.Common.{refl, sym, ap, ◌∙◌, subst, inr}
use Rattle.std.proofs.lemmas.Result.{IfOk-weaker, on_ok_weaker}
use Rattle.shx_outside.specs.Counted.{next_count}
use Rattle.shx_outside.specs.declared.flags.Flags.{Flags}
use Rattle.shx_outside.specs.declared.role.Role.TheVariants.{Shapes as of_shapes}
use Rattle.shx_outside.specs.Outside.{FlaggedText, InputState}
use Rattle.shx_outside.specs.Told.{OthersStay, SameTexts}
use Rattle.shx_term.specs.declared.fault_codes.TheConstants.{GROUP_OPEN}
use Rattle.shx_term.specs.declared.limits.Limits.{Limits}
use Rattle.shx_term.specs.Vocabulary.{vocabulary}
use Rattle.shx_term.specs.declared.edit.Edit.{Edit}
use Rattle.shx_term.specs.declared.term.Scope.TheVariants.{Shapes as shapes_scope}
use Rattle.shx_term.specs.declared.term.Term.{Term}
use Rattle.shx_term.specs.declared.triple.Triple.{Triple}
use Rattle.shx_term.specs.declared.triple.TermTriple.{TermTriple}
use Rattle.shx_term.specs.ValidTriples.{IsValidTermTriple}
use Rattle.graph_view.specs.Graph.{Graph}
use Rattle.graph_view.specs.Valid.{IsValidTriple}
use Rattle.ttl_meaning.specs.State.{State}
use Rattle.text_input.specs.TextRead.{IsTooLong, TakesWithin}
use Rattle.report_write.specs.declared.answer.Answer.{Answer}
use Rattle.report_write.specs.declared.answer.Answer.TheVariants.{TooLong}
use Rattle.shape_compile.specs.Patterns.{AreAdmitted}
use Rattle.shape_decl.specs.Declarations.{declarations}
use Rattle.script_lines.specs.declared.command.Command.TheVariants.{Shapes}
use Rattle.shape_text.specs.declared.refusal.Refusal.{Refusal}
use Rattle.shape_text.specs.declared.refusal.Refusal.TheVariants.{Text, Cut}
use Rattle.shape_text.specs.declared.stop.Stop.{Stop}
use Rattle.shape_text.specs.declared.stop.Stop.TheVariants.{Input, Write, Memory}
use Rattle.shape_text.specs.Refusal.{IsRefusalOf, RefusalCause, RefusesAs}
use Rattle.shape_text.specs.Stops.{StopCause}
use Rattle.shape_text.specs.TextReadings.{TextReading, States, Faulty, Long, IsReadAs, numbered_from}
use Rattle.shape_text.specs.TextReadings.{stated_graph}
use Rattle.script_run.specs.declared.reply.Reply.{Reply}
use Rattle.script_run.specs.declared.script_run.ScriptRun.{ScriptRun}
use Rattle.script_run.specs.Admitted.{MayBeBuilt}
use Rattle.script_run.specs.Hosts.{LoadsWithin, ReadsShapesOut, TellsRefusal}
use Rattle.script_run.specs.Load.{Judgement, Load, StatesValid, unjudged}
use Rattle.script_run.specs.Loaded.{IsJudged, IsNextOutside, Library}
use Rattle.script_run.specs.Manner.{Manner}
use Rattle.script_run.specs.Replies.{MovesOn, Obeys, Replies}
use Rattle.script_run.specs.Script.{refusal, shapes_step, text_step}
use Rattle.script_run.specs.ScriptState.{ScriptState, with_loads}
use Rattle.script_run.specs.Stored.{IsScriptRun, MayGoOn}
use Rattle.script_run.specs.Work.{Work}
use Rattle.script_run.specs.inner.Loading.{ComesOf, Loads, RefusesBy, RefusesText, stated_triples, told_code}
use Rattle.script_run.proofs.EnteredLemmas.{valid_stated}
use Rattle.script_run.proofs.LoadsLemmas.{leaving_text}
use Rattle.script_run.proofs.ObeysLemmas.{MovesOn-answered, TellsRefusal-none}

-- ---- the line obeys

-- what is judged is so whatever comes of later texts
judged_leaving : (limits : Limits) (last : Option FlaggedText) (loads : List Load) (s : ScriptState)
    (reading : TextReading) (judgement : Judgement) → IsJudged limits last s reading judgement
    → IsJudged limits last (with_loads loads s) reading judgement
judged_leaving limits last loads s Long judgement is = is
judged_leaving limits last loads s (Faulty code at) judgement is = is
judged_leaving limits last loads s (States document end) judgement is =
    record { fits = is.fits; has_no_room = is.has_no_room }

any_one : (b : Bool) → (b || false) ≡ b
any_one true = refl
any_one false = refl

module _ (manner : Manner) (library : Library) (s : ScriptState) (name : List ℕ) (reply : Reply)
    (script : ScriptRun) (last : Option FlaggedText) (before after : Work) where
  -- where no group is open
  pub Obeys-loads : s.group ≡ None
      → Loads manner library.base (library.text name) s reply script last before after
      → Obeys manner library s (Ok (Shapes name)) reply script last before after
  Obeys-loads none loads =
      let judgement = loads.comes.judgement in
      let load : Load = record { reading = loads.reading; judgement = judgement } in
      let step = text_step manner.limits s loads.reading judgement in
      record {
        told = load ∷ [];
        step = step;
        is = λ rest. ap (shapes_step manner.limits (with_loads (load ∷ rest) s)) none
            ∙ leaving_text manner.limits rest s loads.reading judgement;
        right = λ rest refused ended.
            let now = with_loads (load ∷ rest) s in
            subst (IsNextOutside ⊥ manner.limits library refused now name) (sym none) (record {
              read = loads.read;
              valid = loads.valid;
              judged = judged_leaving manner.limits refused (load ∷ rest) s loads.reading judgement
                  (loads.comes.right refused ended);
            });
        halts = any_one _ ∙ loads.comes.halts;
        replies = loads.comes.replies;
      }

  -- within one nothing is loaded
  pub Obeys-grouped : (waiting : List Edit) → s.group ≡ Some waiting → s.halted ≡ false
      → Replies manner (refusal s GROUP_OPEN None) reply script before after
      → Obeys manner library s (Ok (Shapes name)) reply script last before after
  Obeys-grouped waiting grouped running replies = record {
    told = [];
    step = refusal s GROUP_OPEN None;
    is = λ rest. ap (shapes_step manner.limits (with_loads rest s)) grouped;
    right = λ rest refused ended.
        subst (IsNextOutside ⊥ manner.limits library refused (with_loads rest s) name) (sym grouped) tt;
    halts = sym running;
    replies = replies;
  }

-- ---- texts that are not taken

-- a text is read within the limits of the manner
read_within_limits : (manner : Manner) (limits : Limits) (base text : List ℕ) (held : List Term)
    (reading : TextReading) → manner.limits ≡ limits → held ≡ vocabulary
    → IsReadAs limits base shapes_scope held text reading
    → IsReadAs manner.limits base shapes_scope vocabulary text reading
read_within_limits manner limits base text held reading same fresh read =
    subst (λ (l : Limits). IsReadAs l base shapes_scope vocabulary text reading) (sym same)
    (subst (λ (ts : List Term). IsReadAs limits base shapes_scope ts text reading) fresh read)

-- a text is refused by what it is read as
ComesOf-refused : (manner : Manner) (s : ScriptState) (old new : ScriptRun) (reading : TextReading)
    (answer : Answer) (reply : Reply) (last : Option FlaggedText) (work : Work)
    → IsScriptRun manner.limits manner.format s old → old.halted ≡ false
    → IsRefusalOf of_shapes reading answer → RefusesBy (told_code answer) old new reply
    → ComesOf manner s reading reply new last work work
ComesOf-refused manner s old new (States document end) answer reply last work is running told refuses =
    absurd told
ComesOf-refused manner s old new (Faulty code at) answer reply last work is running told refuses = record {
  judgement = unjudged;
  right = λ refused ended. refl;
  halts = sym (sym is.halted_is ∙ running);
  replies = subst (λ code. Replies manner (refusal s code None) reply new work work) (ap told_code told)
      (refuses.replies manner s work is);
}
ComesOf-refused manner s old new Long answer reply last work is running told refuses = record {
  judgement = unjudged;
  right = λ refused ended. refl;
  halts = sym (sym is.halted_is ∙ running);
  replies = subst (λ code. Replies manner (refusal s code None) reply new work work) (ap told_code told)
      (refuses.replies manner s work is);
}

-- the text has a fault
pub Loads-refused : (manner : Manner) (limits : Limits) (base text : List ℕ) (s : ScriptState)
    (held : List Term) (old new : ScriptRun) (refusal : Refusal) (result : Result Reply Stop)
    (last : Option FlaggedText) (work : Work) → manner.limits ≡ limits
    → IsScriptRun manner.limits manner.format s old → old.halted ≡ false → held ≡ vocabulary
    → RefusesAs of_shapes (IsReadAs limits base shapes_scope held text) refusal
    → RefusesText refusal old new result
    → IfOk result (λ reply. Loads manner base (Some text) s reply new last work work)
Loads-refused manner limits base text s held old new (Text answer) (Ok reply) last work same is running fresh
    as_read refuses =
    record {
      reading = as_read.0;
      read = read_within_limits manner limits base text held as_read.0 same fresh as_read.1;
      valid = valid as_read.0 as_read.2;
      comes = ComesOf-refused manner s old new as_read.0 answer reply last work is running as_read.2 refuses;
    }
  where
    valid : (reading : TextReading) → IsRefusalOf of_shapes reading answer → StatesValid reading
    valid (States document end) told = absurd told
    valid (Faulty code at) told = tt
    valid Long told = tt
Loads-refused manner limits base text s held old new (Text answer) (Err stop) last work same is running fresh
    as_read refuses = absurd refuses
Loads-refused manner limits base text s held old new (Cut stop) (Ok reply) last work same is running fresh
    as_read refuses = absurd (cc)
Loads-refused manner limits base text s held old new (Cut stop) (Err e) last work same is running fresh
    as_read refuses = tt

-- the text is too long
pub Loads-long : (manner : Manner) (limits : Limits) (base : List ℕ) (text : Option (List ℕ))
    (s : ScriptState) (old new : ScriptRun) (refusal : Refusal) (result : Result Reply Stop)
    (last : Option FlaggedText) (work : Work) → manner.limits ≡ limits
    → IsScriptRun manner.limits manner.format s old → old.halted ≡ false
    → ((answer : Answer) → refusal ≡ Text answer
    → (answer ≡ TooLong of_shapes) × IsTooLong text limits.text)
    → RefusesText refusal old new result
    → IfOk result (λ reply. Loads manner base text s reply new last work work)
Loads-long manner limits base text s old new (Text answer) (Ok reply) last work same is running too_long
    refuses =
    let long = too_long answer refl in
    record {
      reading = Long;
      read = longer text long.1;
      valid = tt;
      comes = ComesOf-refused manner s old new Long answer reply last work is running long.0 refuses;
    }
  where
    longer : (told : Option (List ℕ)) → IsTooLong told limits.text
        → IfSome told (λ bytes. IsReadAs manner.limits base shapes_scope vocabulary bytes Long)
    longer None long = tt
    longer (Some bytes) long =
        subst (λ (l : Limits). l.text < length bytes) (sym same) (long.longer bytes refl)
Loads-long manner limits base text s old new (Text answer) (Err stop) last work same is running too_long
    refuses = absurd refuses
Loads-long manner limits base text s old new (Cut stop) (Ok reply) last work same is running too_long
    refuses = absurd (cc)
Loads-long manner limits base text s old new (Cut stop) (Err e) last work same is running too_long refuses =
    tt

-- what else is said of these
module _ (old new : ScriptRun) where
  pub MovesOn-refused : (refusal : Refusal) (result : Result Reply Stop) → RefusesText refusal old new result
      → MayGoOn old → (work : Work) → MovesOn result old new work work
  MovesOn-refused (Text answer) (Ok reply) refuses may work =
      MovesOn-answered reply old new work work (refuses.moves may work)
  MovesOn-refused (Text answer) (Err stop) refuses may work = absurd refuses
  MovesOn-refused (Cut stop) (Ok reply) refuses may work = absurd (cc)
  MovesOn-refused (Cut stop) (Err e) refuses may work = record {
    names = ap (λ (script : ScriptRun). script.document) refuses.1;
    base = ap (λ (script : ScriptRun). script.base) refuses.1;
    format = ap (λ (script : ScriptRun). script.format) refuses.1;
    goes_on = tt;
    line = tt;
    risen = tt;
  }

  -- no pattern was refused
  pub still_refused : (refusal : Refusal) (result : Result Reply Stop) → RefusesText refusal old new result
      → old.halted ≡ false → (faults : ℕ) → IfOk result (TellsRefusal faults faults new.halted)
  still_refused (Text answer) (Ok reply) refuses running faults =
      TellsRefusal-none faults new.halted reply (refuses.running ∙ running)
  still_refused (Text answer) (Err stop) refuses running faults = absurd refuses
  still_refused (Cut stop) (Ok reply) refuses running faults = absurd (cc)
  still_refused (Cut stop) (Err e) refuses running faults = tt

-- ---- inputs

-- what is so is so of each result
pub on_each : {T E : Type 0} {P : Type 0} (result : Result T E) → P → OnOk result P
on_each (Ok value) p = p
on_each (Err e) p = tt

pub on_each_err : {T E : Type 0} {P : Type 0} (result : Result T E) → P → OnErr result P
on_each_err (Ok value) p = tt
on_each_err (Err e) p = p

pub each_err : {T E : Type 0} (P : E → Type 0) (result : Result T E) → ((e : E) → P e) → IfErr result P
each_err P (Ok value) each = tt
each_err P (Err e) each = each e

-- a text was opened, and read
pub LoadsWithin-read : {T E : Type 0} (most : ℕ) (old new : InputState) (result : Result T E)
    → (new.opens of_shapes ≡ old.opens of_shapes) ⊎ (new.opens of_shapes ≡ next_count (old.opens of_shapes))
    → (new.opened of_shapes ≡ true → TakesWithin (new.whole of_shapes) (new.rest of_shapes) most)
    → OnOk result (ReadsShapesOut most new) → OthersStay of_shapes old new → SameTexts old new
    → LoadsWithin most old new result
LoadsWithin-read most old new result opens within out others texts = record {
  opens = opens;
  within = λ before. within;
  read_out = on_ok_weaker result (λ now before. now) out;
  others = others;
  texts = texts;
}

-- one was, and it is too long
pub long_out : (old new : ScriptRun) (refusal : Refusal) (result : Result Reply Stop) (most : ℕ)
    (told : Option (List ℕ)) (inputs : InputState) → RefusesText refusal old new result
    → ((answer : Answer) → refusal ≡ Text answer → (answer ≡ TooLong of_shapes) × IsTooLong told most)
    → ((answer : Answer) → refusal ≡ Text answer → inputs.opened of_shapes ≡ true)
    → (inputs.opened of_shapes ≡ true → inputs.whole of_shapes ≡ told)
    → OnOk result (ReadsShapesOut most inputs)
long_out old new (Text answer) (Ok reply) most told inputs refuses long stays whole =
    inr (subst (λ text. IsTooLong text most) (sym (whole (stays answer refl))) (long answer refl).1)
long_out old new (Text answer) (Err stop) most told inputs refuses long stays whole = absurd refuses
long_out old new (Cut stop) (Ok reply) most told inputs refuses long stays whole = absurd (cc)
long_out old new (Cut stop) (Err e) most told inputs refuses long stays whole = tt

-- ---- why runs are cut short

-- by want of memory alone
pub quiet_cause : {T : Type 0} (result : Result T Stop) (before now : ℕ)
    → IfErr result (λ stop. stop ≡ Memory) → now ≡ before → StopCause before now result
quiet_cause (Ok value) before now memory same = same
quiet_cause {T = T} (Err stop) before now memory same =
    subst (λ (e : Stop). StopCause {T = T} before now (Err e)) (sym memory) same

cause_as : (T U : Type 0) (stop : Stop) (before now : ℕ) → StopCause {T = T} before now (Err stop)
    → StopCause {T = U} before now (Err stop)
cause_as T U Input before now cause = cause
cause_as T U Write before now cause = absurd cause
cause_as T U Memory before now cause = cause

-- as the text was
pub cut_cause : (T : Type 0) (old new : ScriptRun) (refusal : Refusal) (result : Result Reply Stop)
    (before now : ℕ) → RefusesText refusal old new result
    → RefusalCause {T = T} before now (Err refusal) → StopCause before now result
cut_cause T old new (Text answer) (Ok reply) before now refuses cause = cause
cut_cause T old new (Text answer) (Err stop) before now refuses cause = absurd refuses
cut_cause T old new (Cut stop) (Ok reply) before now refuses cause = absurd (cc)
cut_cause T old new (Cut stop) (Err e) before now refuses cause =
    let same : e ≡ stop = cc in
    subst (λ (x : Stop). StopCause {T = Reply} before now (Err x)) (sym same)
    (cause_as T Reply stop before now cause)

-- ---- patterns

-- where the script goes on none was refused
pub told_running : {E : Type 0} (result : Result Reply E) (before now : ℕ) (script : ScriptRun)
    → script.halted ≡ false → now ≡ before → IfOk result (TellsRefusal before now script.halted)
told_running (Ok reply) before now script running still =
    subst (λ b. TellsRefusal before now b reply) (sym running) still
told_running (Err e) before now script running still = tt

-- what the library tells of a text is what was read
pub built_there : (limits : Limits) (base : List ℕ) (builds : Flags → List ℕ → Type 0)
    (told : Option (List ℕ)) (bytes : List ℕ) → ((text : List ℕ) → told ≡ Some text → bytes ≡ text)
    → MayBeBuilt limits base builds told → MayBeBuilt limits base builds (Some bytes)
built_there limits base builds None bytes whole built =
    λ document end read held. record { each = λ d value states. built _ _ }
built_there limits base builds (Some text) bytes whole built =
    subst (λ (bs : List ℕ). MayBeBuilt limits base builds (Some bs)) (sym (whole text refl)) built

-- and so it is read as that
read_there : (limits : Limits) (base : List ℕ) (told : Option (List ℕ)) (bytes : List ℕ)
    (reading : TextReading) → ((text : List ℕ) → told ≡ Some text → bytes ≡ text)
    → IsReadAs limits base shapes_scope vocabulary bytes reading
    → IfSome told (λ text. IsReadAs limits base shapes_scope vocabulary text reading)
read_there limits base None bytes reading whole is = tt
read_there limits base (Some text) bytes reading whole is =
    subst (λ (bs : List ℕ). IsReadAs limits base shapes_scope vocabulary bs reading) (whole text refl) is

pub Loads-told : (manner : Manner) (base : List ℕ) (told : Option (List ℕ)) (bytes : List ℕ) (s : ScriptState)
    (result : Result Reply Stop) (script : ScriptRun) (last : Option FlaggedText) (before after : Work)
    → ((text : List ℕ) → told ≡ Some text → bytes ≡ text)
    → IfOk result (λ reply. Loads manner base (Some bytes) s reply script last before after)
    → IfOk result (λ reply. Loads manner base told s reply script last before after)
Loads-told manner base told bytes s result script last before after whole loads =
    IfOk-weaker result _ _ (λ reply loads. record {
      reading = loads.reading;
      read = read_there manner.limits base told bytes loads.reading whole loads.read;
      valid = loads.valid;
      comes = loads.comes;
    }) loads

-- ---- documents

-- of the same triples the document is the same
pub read_over : (limits : Limits) (base text : List ℕ) (held terms : List Term) (us vs : List Triple)
    (end : State) → us ≡ vs
    → IsReadAs limits base shapes_scope held text (States (record { terms = terms; triples = vs }) end)
    → IsReadAs limits base shapes_scope held text (States (record { terms = terms; triples = us }) end)
read_over limits base text held terms us vs end same read =
    subst (λ (ts : List Triple). IsReadAs limits base shapes_scope held text
    (States (record { terms = terms; triples = ts }) end)) (sym same) read

-- a text that states a document, with what comes of its shapes
pub Loads-read : (manner : Manner) (limits : Limits) (base text : List ℕ) (s : ScriptState)
    (held terms : List Term) (us : List Triple) (end : State) (result : Result Reply Stop)
    (script : ScriptRun) (last : Option FlaggedText) (before after : Work) → manner.limits ≡ limits
    → held ≡ vocabulary
    → IsReadAs limits base shapes_scope held text (States (record { terms = terms; triples = us }) end)
    → All (IsValidTriple terms) us → end.triples ≡ stated_triples terms us
    → IfOk result (λ reply. ComesOf manner s (States (record { terms = terms; triples = us }) end) reply
    script last before after)
    → IfOk result (λ reply. Loads manner base (Some text) s reply script last before after)
Loads-read manner limits base text s held terms us end result script last before after same fresh read valid
    ends comes =
    let reading = States (record { terms = terms; triples = us }) end in
    IfOk-weaker result _ _ (λ reply of. record {
      reading = reading;
      read = read_within_limits manner limits base text held reading same fresh read;
      valid = subst (All IsValidTermTriple) (sym ends) (valid_stated terms us valid);
      comes = of;
    }) comes

-- its patterns may be built over whatever terms are held
pub built_over : (limits : Limits) (base : List ℕ) (builds : Flags → List ℕ → Type 0) (text : List ℕ)
    (held terms : List Term) (us : List Triple) (end : State) → held ≡ vocabulary
    → IsReadAs limits base shapes_scope held text (States (record { terms = terms; triples = us }) end)
    → end.triples ≡ stated_triples terms us → MayBeBuilt limits base builds (Some text) → (before : List Term)
    → AreAdmitted builds (numbered_from before (stated_triples terms us)).terms
    (declarations limits (stated_graph (numbered_from before (stated_triples terms us))))
built_over limits base builds text held terms us end fresh read ends built before =
    let document : Graph = record { terms = terms; triples = us } in
    let reading = States document end in
    let from = subst (λ (ts : List Term). IsReadAs limits base shapes_scope ts text reading) fresh read in
    subst (λ (ts : List TermTriple). AreAdmitted builds (numbered_from before ts).terms
    (declarations limits (stated_graph (numbered_from before ts)))) ends (built document end from before)
