-- How far a script has come: what was put, and what is due from there.
use Rattle.std.proofs.Common.{◌≡◌, ◌≢◌, ℕ, ◌≤◌, Bool, true, false, List, [], ◌∷◌, ◌++◌, ◌||◌}
use Rattle.std.proofs.Common.{Option, None, Some, Err, refl, sym, ap, ◌∙◌, subst, append_assoc, arith}
use Rattle.std.specs.Prelude.{IfSome}
use Rattle.std.proofs.lemmas.List.Folds.{list_any-append}
use Rattle.std.proofs.lemmas.Option.{IfSome_then, none-some}
use Rattle.shx_outside.specs.declared.role.Role.TheVariants.{Script}
use Rattle.shx_outside.specs.Outside.{FlaggedText}
use Rattle.text_input.specs.Lines.{script_lines}
use Rattle.text_input.specs.ScriptReader.{ReaderState, TookEnd, new_reader, left_of}
use Rattle.text_output.specs.Writes.{Put, FellShort}
use Rattle.text_output.specs.inner.AddedLaws.{Put-none, Put-then}
use Rattle.shape_text.specs.declared.stop.Stop.{Stop}
use Rattle.shape_text.specs.declared.stop.Stop.TheVariants.{Input, Write, Memory}
use Rattle.shape_text.specs.Stops.{StopCause}
use Rattle.shape_text.specs.TextReadings.{Long}
use Rattle.shape_text.specs.Verdict.{RoseWhere, is_refused}
use Rattle.script_run.specs.declared.reply.Reply.{Reply}
use Rattle.script_run.specs.declared.script_run.ScriptRun.{ScriptRun}
use Rattle.script_run.specs.Hosts.{TellsRefusal}
use Rattle.script_run.specs.Load.{Load, is_pattern_refused, refuses}
use Rattle.script_run.specs.Loaded.{Library}
use Rattle.script_run.specs.Manner.{Manner}
use Rattle.script_run.specs.Replies.{is_any_refused, reply_text}
use Rattle.script_run.specs.Script.{step_text}
use Rattle.script_run.specs.ScriptState.{ScriptState, with_loads}
use Rattle.script_run.specs.Stored.{IsScriptRun}
use Rattle.script_run.specs.Work.{NoneFell, and_then, no_work}
use Rattle.script_run.proofs.WorkLemmas.{NoneFell-by, NoneFell-itself, NoneFell-then, still_work}
use Rattle.shacl_run.specs.declared.status.Status.{Status}
use Rattle.shacl_run.specs.declared.status.Status.TheVariants.{InputFault, Refused, WriteFault}
use Rattle.shacl_run.specs.declared.take_line.Taken.{Taken}
use Rattle.shacl_run.specs.inner.Ends.{Ends, EndsBy}
use Rattle.shacl_run.specs.inner.Serving.{AnswersLine, AreLoadedAt, due_at, LinesAreReadAt}
use Rattle.shacl_run.specs.inner.Serving.{ServesScript}
use Rattle.shacl_run.specs.inner.Stops.{stop_status}
use Rattle.shacl_run.specs.Outside.{Outside, counts}
use Rattle.shacl_run.specs.Run.{Output, behind, end_of_line, end_of_script, fed_text}
use Rattle.shacl_run.specs.RunClauses.{StopsFed}
use Rattle.shacl_run.specs.Status.{IsCutShort, IsReported}
use Rattle.shacl_run.proofs.EndLemmas.{Ends-after, Ends-from_still, Ends-short, Ends-whole, IsStill}
use Rattle.shacl_run.proofs.EndLemmas.{PutsFirst, input_stop}
use Rattle.shacl_run.proofs.GoesOnLemmas.{Rose-then}
use Rattle.shacl_run.proofs.HaltedLemmas.{halted_due, halted_loaded, not_both}
use Rattle.shacl_run.proofs.LoadedLinesLemmas.{lines_missing}
use Rattle.shacl_run.proofs.ServedLemmas.{Ends-last, Ends-stopped}
use Rattle.shacl_run.proofs.ServingLemmas.{HasMore, end_due, end_loaded, fed_on, left_of-start, line_due}
use Rattle.shacl_run.proofs.ServingLemmas.{line_loaded, line_reads_on, line_some}

-- ---- what was put, whatever is due

-- this was put
pub record PutsOn (start at : Outside) : Type 0 where
  pub text : List ℕ
  pub first : PutsFirst text start at

pub PutsOn-start : (at : Outside) → PutsOn at at
PutsOn-start at = record {
  text = [];
  first = record { put = Put-none at.sink; inputs = refl; risen = NoneFell-itself (counts at) };
}

pub PutsOn-step : (start at next : Outside) (text : List ℕ) → PutsOn start at → PutsFirst text at next
    → PutsOn start next
PutsOn-step start at next text puts first = record {
  text = puts.text ++ text;
  first = record {
    put = Put-then puts.first.put first.put;
    inputs = first.inputs ∙ puts.first.inputs;
    risen = NoneFell-then puts.first.risen first.risen;
  };
}

-- a line was taken at which nothing is put
pub PutsOn-still : (start at next : Outside) → PutsOn start at → IsStill at next
    → NoneFell (counts at) (counts next) → PutsOn start next
PutsOn-still start at next puts still risen = PutsOn-step start at next [] puts (record {
  put = subst (λ sink. Put at.sink sink []) (sym still.sink) (Put-none at.sink);
  inputs = still.inputs;
  risen = risen;
})

pub PutsOn-ends : (start at : Outside) (status : Status) (after : Outside) → PutsOn start at
    → Ends None status at after → Ends None status start after
PutsOn-ends start at status after puts ends =
    Ends-after puts.text no_work status start at after puts.first None None tt tt ends

pub PutsOn-short : (start at next : Outside) (text : List ℕ) → PutsOn start at
    → next.inputs.faults ≡ at.inputs.faults → FellShort at.sink next.sink text
    → Ends None WriteFault start next
PutsOn-short start at next text puts quiet short =
    PutsOn-ends start at WriteFault next puts (Ends-short None text at next tt quiet short)

-- what ends a run without a report ends it behind what was put
pub PutsOn-answer : (start at : Outside) (output : Output) (status : Status) (after : Outside)
    (puts : PutsOn start at) → (IsReported status → ⊥) → Ends (Some output) status at after
    → Ends (Some (behind puts.text no_work output)) status start after
PutsOn-answer start at output status after puts unreported ends =
    let due = Some (behind puts.text no_work output) in
    let counted : Outside = record start { nested = at.nested; steps = at.steps } in
    Ends-from_still due status start counted after (record { sink = refl; inputs = refl }) unreported
    (Ends-after puts.text no_work status counted at after (record {
      put = puts.first.put;
      inputs = puts.first.inputs;
      risen = NoneFell-itself (counts at);
    }) due (Some output) (record { rest = output; is = refl; whole = refl })
    (still_work (counts at) (counts at) refl) ends)

-- what is due where a script is told, and in any case
pub by_told : (script : Option (List ℕ)) (P : Option (List ℕ) → Type 0) → P None
    → ((bytes : List ℕ) → script ≡ Some bytes → P script) → P script
by_told None P untold told = untold
by_told (Some bytes) P untold told = told bytes refl

-- ---- how a script is answered from a state on

-- of which this is left
abbrev pub ServesFrom : Manner → Library → ScriptState → ℕ → Option (List ℕ) → Status → Outside → Outside
    → Type 0
ServesFrom manner library s budget left status before after =
    EndsBy (λ told. due_at manner (with_loads told s) budget left)
    (λ told. AreLoadedAt (IsCutShort status) manner library after.patterns.refused (with_loads told s) budget
    left)
    (λ told. StopsFed (fed_text manner (with_loads told s)) left (after.inputs.rest Script) before.sink
    after.sink)
    is_any_refused status before after

-- of the texts that the rest loads nothing may be told where that may be so
rest_missing : (Missing : Type 0) → Missing → (manner : Manner) (library : Library)
    (last : Option FlaggedText) (s : ScriptState) → s.loads ≡ [] → (budget : ℕ) (left : Option (List ℕ))
    → AreLoadedAt Missing manner library last s budget left
rest_missing Missing missing manner library last s untold budget None = tt
rest_missing Missing missing manner library last s untold budget (Some bytes) =
    lines_missing Missing missing manner library last s untold (script_lines budget bytes)

-- what may have come of texts where a pattern was refused, or none was
abbrev pub any_told : Bool → List Load
any_told true = record { reading = Long; judgement = refuses (is_refused 0) } ∷ []
any_told false = []

any_told_refused : (b : Bool) → is_any_refused (any_told b) ≡ b
any_told_refused true = refl
any_told_refused false = refl

-- where the script is not told, all is right of which the pattern host tells
pub serves_untold : (b : Bool) (manner : Manner) (library : Library) (s : ScriptState) (budget : ℕ)
    (status : Status) (before after : Outside) → RoseWhere b before.patterns.faults after.patterns.faults
    → Ends None status before after → ServesFrom manner library s budget None status before after
serves_untold b manner library s budget status before after rose ends = record {
  told = any_told b;
  right = tt;
  run_ends = λ rest. ends;
  patterns = subst (λ b. RoseWhere b before.patterns.faults after.patterns.faults) (sym (any_told_refused b))
      rose;
  stops = λ failed. record { told = λ bytes is. absurd (none-some bytes is) };
}

-- the text of a line could not be read, or no further line
pub serves_stopped : (stop : Stop) (manner : Manner) (library : Library) (s : ScriptState) (budget : ℕ)
    (left : Option (List ℕ)) (before after : Outside) → after.sink ≡ before.sink
    → StopCause {T = Taken} before.inputs.faults after.inputs.faults (Err stop)
    → after.patterns.faults ≡ before.patterns.faults
    → (stop ≡ Input → StopsFed (fed_text manner (with_loads [] s)) left (after.inputs.rest Script) before.sink
    after.sink) → ServesFrom manner library s budget left (stop_status stop) before after
serves_stopped stop manner library s budget left before after same cause quiet stops = record {
  told = [];
  right = rest_missing (IsCutShort (stop_status stop)) (stop_cut stop) manner library after.patterns.refused
      (with_loads [] s) refl budget left;
  run_ends = λ rest.
      Ends-stopped Taken (due_at manner (with_loads rest s) budget left) stop before after same cause;
  patterns = quiet;
  stops = λ failed. stops (input_stop stop failed);
} where
  stop_cut : (stop : Stop) → IsCutShort (stop_status stop)
  stop_cut Input = tt
  stop_cut Write = tt
  stop_cut Memory = tt

-- no line was left
pub serves_last : (manner : Manner) (library : Library) (s : ScriptState) (budget : ℕ)
    (left left' : Option (List ℕ)) (past : Bool) (status : Status) (before within after : Outside)
    → TookEnd left left' budget past → s.halted ≡ false → IsStill before within
    → counts within ≡ counts before → after.patterns.faults ≡ before.patterns.faults → status ≢ InputFault
    → ((rest : List Load)
    → Ends (Some (end_of_script manner.format past (with_loads rest s))) status within after)
    → ServesFrom manner library s budget left status before after
serves_last manner library s budget left left' past status before within after took running still same quiet
    other ends = record {
      told = [];
      right = end_loaded manner s budget left' past (IsCutShort status) library after.patterns.refused left
          took;
      run_ends = λ rest. let here = with_loads rest s in
          Ends-last (due_at manner here budget left) (end_of_script manner.format past here) status before
          within after (end_due manner here budget left' past running left took) still same (ends rest);
      patterns = quiet;
      stops = λ failed. absurd (other failed);
    }

-- the line before was the last that is answered
pub serves_halted : (manner : Manner) (library : Library) (s : ScriptState) (budget : ℕ)
    (left : Option (List ℕ)) (at : Outside) → s.halted ≡ true
    → ServesFrom manner library s budget left Refused at at
serves_halted manner library s budget left at halted = record {
  told = [];
  right = halted_loaded manner (with_loads [] s) ⊥ library at.patterns.refused halted refl budget left;
  run_ends = λ rest. let due = due_at manner (with_loads rest s) budget left in
      Ends-whole due end_of_line at at (halted_due manner (with_loads rest s) halted budget left) tt
      (record { inputs = refl; counted = λ reported. absurd reported }) (Put-none at.sink);
  patterns = refl;
  stops = λ failed. cc;
}

-- ---- a line that was answered

-- the host's count rose where the script ends with the line
pub told_rose : (halted : Bool) (x y : ℕ) (reply : Reply) → TellsRefusal x y halted reply
    → RoseWhere halted x y
told_rose true x y reply tells = tells.0
told_rose false x y reply tells = tells

-- and it never falls
pub told_later : (halted : Bool) (x y z : ℕ) (reply : Reply) → y ≡ x → TellsRefusal y z halted reply → x ≤ z
told_later true x y z reply same tells = omega (arith, same, tells.0.later)
told_later false x y z reply same tells = omega (arith, same, tells)

-- patterns of the one part or of the other were refused
RoseWhere-then : (a b : Bool) (x y z : ℕ) → RoseWhere a x y → RoseWhere b y z → RoseWhere (a || b) x z
RoseWhere-then true true x y z first next = Rose-then first next
RoseWhere-then true false x y z first next = rw next first
RoseWhere-then false true x y z first next = rw (← first) next
RoseWhere-then false false x y z first next = next ∙ first

module _ (manner : Manner) (library : Library) (s : ScriptState) (reader reader' : ReaderState)
    (script' : ScriptRun) (reply : Reply) (at next : Outside) (left left' : Option (List ℕ))
    (line : AnswersLine manner library s reply script' next.patterns.refused (counts at) (counts next) reader
    reader' left left') (quiet : next.inputs.faults ≡ at.inputs.faults)
    (rose : RoseWhere line.step.state.halted at.patterns.faults next.patterns.faults) where
  abbrev pub written : List ℕ
  written = reply_text manner.format script'.engine.plan script'.engine.graph reply

  abbrev last : Option FlaggedText
  last = next.patterns.refused

  -- so much work was done, where something is due
  worked : (due : Option Output)
      → IfSome due (λ told. counts next ≡ and_then (counts at) line.step.work)
  worked None = tt
  worked (Some told) = line.replies.work

  refused_both : (later : List Load) (z : ℕ) → RoseWhere (is_any_refused later) next.patterns.faults z
      → RoseWhere (is_any_refused (line.told ++ later)) at.patterns.faults z
  refused_both later z more =
      subst (λ b. RoseWhere b at.patterns.faults z)
      (ap (λ b. b || is_any_refused later) (sym line.halts)
      ∙ sym (list_any-append (λ (load : Load). is_pattern_refused load.judgement) line.told later))
      (RoseWhere-then line.step.state.halted (is_any_refused later) at.patterns.faults next.patterns.faults z
      rose more)

  -- its text is put, and then what is put behind it
  pub serves_on : (status : Status) (after : Outside) → Put at.sink next.sink written
      → (line.step.state.halted ≡ true → after.patterns.refused ≡ last)
      → (status ≡ InputFault → HasMore reader'.ended left')
      → ServesFrom manner library line.step.state reader'.budget left' status next after
      → ServesFrom manner library s reader.budget left status at after
  serves_on status after put' ends more later =
      let put : Put at.sink next.sink (step_text manner.format line.step) =
      subst (Put at.sink next.sink) (sym line.replies.text) put' in
      record {
        told = line.told ++ later.told;
        right = line_loaded manner library s line.told line.step last reader.budget reader'.budget
            reader'.ended left' later.told (IsCutShort status) after.patterns.refused ends left line.took
            later.right;
        run_ends = λ rest.
            let loads = later.told ++ rest in
            let due = due_at manner (with_loads (line.told ++ loads) s) reader.budget left in
            subst (λ loads. Ends (due_at manner (with_loads loads s) reader.budget left) status at after)
            (sym (append_assoc line.told later.told rest))
            (Ends-after (step_text manner.format line.step) line.step.work status at next after (record {
              put = put;
              inputs = quiet;
              risen = NoneFell-by (counts at) (counts next) line.step.work line.replies.work;
            }) due (due_at manner (with_loads loads line.step.state) reader'.budget left')
            (line_due manner library s line.told line.step last reader.budget reader'.budget reader'.ended
            left' loads left line.took) (worked due) (later.run_ends rest));
        patterns = refused_both later.told after.patterns.faults later.patterns;
        stops = λ failed. fed_on manner library s line.told line.step last reader.budget reader'.budget
            reader'.ended left' left line.took later.told at.sink next.sink after.sink
            (after.inputs.rest Script) put (more failed) (later.stops failed);
      }

  -- the sink fails in it
  pub serves_short : FellShort at.sink next.sink written
      → ServesFrom manner library s reader.budget left WriteFault at next
  serves_short short' =
      let short : FellShort at.sink next.sink (step_text manner.format line.step) =
      subst (FellShort at.sink next.sink) (sym line.replies.text) short' in
      record {
        told = line.told ++ [];
        right = line_loaded manner library s line.told line.step last reader.budget reader'.budget
            reader'.ended left' [] (IsCutShort WriteFault) last (λ halted. refl) left line.took
            (rest_missing (IsCutShort WriteFault) tt manner library last (with_loads [] line.step.state) refl
            reader'.budget left');
        run_ends = λ rest.
            let due = due_at manner (with_loads (line.told ++ rest) s) reader.budget left in
            subst (λ loads. Ends (due_at manner (with_loads loads s) reader.budget left) WriteFault at next)
            (sym (append_assoc line.told [] rest))
            (Ends-short due (step_text manner.format line.step) at next
            (IfSome_then due (line_due manner library s line.told line.step last reader.budget reader'.budget
            reader'.ended left' rest left line.took)
            (λ told prefixed. (prefixed.rest.text, ap (λ (o : Output). o.text) prefixed.whole)))
            quiet short);
        patterns = refused_both [] next.patterns.faults refl;
        stops = λ failed. cc;
      }

-- ---- a script that is told

-- what it has come to: what is answered from here on is answered from its beginning; and the lines that are
-- left are read so
pub record Reached (manner : Manner) (library : Library) (limit : ℕ) (s0 : ScriptState) (start : Outside)
    (script : ScriptRun) (reader : ReaderState) (at : Outside) : Type 0 where
  pub state : ScriptState
  pub stored : IsScriptRun manner.limits manner.format state script
  pub bytes : List ℕ
  pub left_is : left_of reader (at.inputs.rest Script) ≡ Some bytes
  pub lines : LinesAreReadAt manner state reader.budget (left_of reader (at.inputs.rest Script))
  pub onward : (status : Status) (after : Outside)
      → (status ≡ InputFault → HasMore reader.ended (left_of reader (at.inputs.rest Script)))
      → ServesFrom manner library state reader.budget (left_of reader (at.inputs.rest Script)) status at after
      → ServesScript manner library s0 limit status start after

pub Reached-start : (manner : Manner) (library : Library) (limit : ℕ) (s : ScriptState) (at : Outside)
    (script : ScriptRun) (bytes : List ℕ) → IsScriptRun manner.limits manner.format s script
    → at.inputs.rest Script ≡ Some bytes → LinesAreReadAt manner s limit (at.inputs.rest Script)
    → Reached manner library limit s at script (new_reader limit) at
Reached-start manner library limit s at script bytes is told lines =
    let rest = at.inputs.rest Script in
    record {
      state = s;
      stored = is;
      bytes = bytes;
      left_is = left_of-start limit rest ∙ told;
      lines = subst (LinesAreReadAt manner s limit) (sym (left_of-start limit rest)) lines;
      onward = λ status after more serves.
          subst (λ left. ServesFrom manner library s limit left status at after) (left_of-start limit rest)
          serves;
    }

module _ (manner : Manner) (library : Library) (limit : ℕ) (s0 : ScriptState) (start : Outside)
    (script script' : ScriptRun) (reader reader' : ReaderState) (at next : Outside)
    (reached : Reached manner library limit s0 start script reader at) (reply : Reply)
    (line : AnswersLine manner library reached.state reply script' next.patterns.refused (counts at)
    (counts next) reader reader' (left_of reader (at.inputs.rest Script))
    (left_of reader' (next.inputs.rest Script))) (quiet : next.inputs.faults ≡ at.inputs.faults)
    (tells : TellsRefusal at.patterns.faults next.patterns.faults script'.halted reply) where
  abbrev left : Option (List ℕ)
  left = left_of reader (at.inputs.rest Script)

  abbrev left' : Option (List ℕ)
  left' = left_of reader' (next.inputs.rest Script)

  rose : RoseWhere line.step.state.halted at.patterns.faults next.patterns.faults
  rose = subst (λ halted. RoseWhere halted at.patterns.faults next.patterns.faults)
      line.replies.stored.halted_is
      (told_rose script'.halted at.patterns.faults next.patterns.faults reply tells)

  -- it comes to the next line
  pub Reached-step : script'.halted ≡ false
      → Put at.sink next.sink (reply_text manner.format script'.engine.plan script'.engine.graph reply)
      → Reached manner library limit s0 start script' reader' next
  Reached-step running put =
      let step = line.step in
      let last = next.patterns.refused in
      let goes : step.state.halted ≡ false = sym line.replies.stored.halted_is ∙ running in
      let (bytes, left_is, lines) = line_reads_on manner library reached.state line.told step last
      reader.budget reader'.budget reader'.ended left' left line.took reached.lines reached.bytes
      reached.left_is in
      record {
        state = step.state;
        stored = line.replies.stored;
        bytes = bytes;
        left_is = left_is;
        lines = lines;
        onward = λ status after more later. reached.onward status after
            (λ failed ended. line_some manner library reached.state line.told step last reader.budget
            reader'.budget reader'.ended left' left line.took (more failed))
            (serves_on manner library reached.state reader reader' script' reply at next left left' line quiet
            rose status after put (λ halted. absurd (not_both step.state.halted halted goes)) more later);
      }

  -- it ends with the line
  pub Reached-halted : script'.halted ≡ true
      → Put at.sink next.sink (reply_text manner.format script'.engine.plan script'.engine.graph reply)
      → ServesScript manner library s0 limit Refused start next
  Reached-halted halted put =
      let step = line.step in
      let ends : step.state.halted ≡ true = sym line.replies.stored.halted_is ∙ halted in
      reached.onward Refused next (λ failed. cc)
      (serves_on manner library reached.state reader reader' script' reply at next left left' line quiet rose
      Refused next put (λ _. refl) (λ failed. cc)
      (serves_halted manner library step.state reader'.budget left' next ends))

  pub Reached-short :
      FellShort at.sink next.sink (reply_text manner.format script'.engine.plan script'.engine.graph reply)
      → ServesScript manner library s0 limit WriteFault start next
  Reached-short short = reached.onward WriteFault next (λ failed. cc)
      (serves_short manner library reached.state reader reader' script' reply at next left left' line quiet
      rose short)
