-- A line that was taken of a script gives the output that is due.
use Rattle.std.proofs.Common.{◌≡◌, ◌≢◌, ℕ, Bool, true, false, nat_lt, List, [], ◌∷◌, ◌++◌, length, Option}
use Rattle.std.proofs.Common.{None, Some, Result}
use Rattle.std.proofs.Common.{◌<◌, inl, inr, refl, sym, ap, ◌∙◌, subst, append-nil, append_assoc}
use Rattle.std.specs.Prelude.{All, IfSome}
use Rattle.std.proofs.lemmas.List.Elements.{All-head, All-tail}
use Rattle.std.proofs.lemmas.Option.{none-some, same_Some}
use Rattle.shx_outside.specs.Outside.{FlaggedText, SinkState}
use Rattle.shx_outside.specs.Told.{Grew, IsAtEnd}
use Rattle.shx_outside.proofs.ToldLemmas.{Grew-none, Grew-then}
use Rattle.shx_term.specs.declared.fault_codes.TheConstants.{LINE_TOO_LONG}
use Rattle.shx_term.specs.declared.limits.Limits.{Limits}
use Rattle.text_input.specs.Lines.{HasNoFeed, fed_lines, script_lines}
use Rattle.text_input.specs.ScriptReader.{ReaderState, new_reader, left_of, TakenLine, TookLine, TookEnd}
use Rattle.text_input.specs.ScriptReader.{StopsInLine}
use Rattle.text_input.proofs.LineLemmas.{fed_lines-first, fed_lines-none}
use Rattle.text_input.proofs.ScriptLineLemmas.{script_lines-none}
use Rattle.text_output.specs.Writes.{Put}
use Rattle.ttl_meaning.specs.State.{State}
use Rattle.script_lines.specs.declared.command.Command.{Command}
use Rattle.script_lines.specs.declared.fault.LineFault.{LineFault}
use Rattle.script_run.specs.LineReadings.{IsReadBehind, LinesAreReadOnce}
use Rattle.script_run.specs.Load.{Load}
use Rattle.script_run.specs.Loaded.{AreLinesLoaded, IsReadingLoaded, Library}
use Rattle.script_run.specs.Manner.{Manner}
use Rattle.script_run.specs.Replies.{IsCutAt, leaving}
use Rattle.script_run.specs.Script.{Served, Step, reading_step, refusal, serve_lines, step_text}
use Rattle.script_run.specs.ScriptState.{ScriptState, with_loads}
use Rattle.script_run.specs.Work.{Work, and_then}
use Rattle.script_run.proofs.WorkLemmas.{and_then_assoc}
use Rattle.shacl_run.specs.Run.{Output, behind, end_of_script, ending, fed_text, output_from}
use Rattle.shacl_run.specs.RunClauses.{StopsFed}
use Rattle.shacl_run.specs.inner.Serving.{AreLoadedAt, due_at, IsAnsweredBy, LinesAreReadAt, Prefixed}
use Rattle.shacl_run.specs.inner.Serving.{StopsTaking}
use Rattle.shacl_run.proofs.DataEndLemmas.{step_end}
use Rattle.shacl_run.proofs.EndLemmas.{append_none}
use Rattle.shacl_run.proofs.HaltedLemmas.{behind_nothing, behind_step, ending_behind, ending_running}
use Rattle.shacl_run.proofs.HaltedLemmas.{halted_serves, running_step, text_beside}
use Rattle.shacl_run.proofs.LineReadingLemmas.{read_too_long}
use Rattle.shacl_run.proofs.MissingLemmas.{reading_weaker}

behind_both : (front more : List ℕ) (first later : Work) (o : Output)
    → behind (front ++ more) (and_then first later) o ≡ behind front first (behind more later o)
behind_both front more first later o = λ i. record {
  text = append_assoc front more o.text i;
  status = o.status;
  work = and_then_assoc first later o.work i;
}

-- where the reader met the end, something is left
abbrev pub HasMore : Bool → Option (List ℕ) → Type 0
HasMore ended left = ended ≡ true → left ≢ Some []

-- ---- a line of which something is known

module _ (manner : Manner) (s : ScriptState) where
  -- the line is read so
  abbrev pub IsReadIn : List ℕ → Type 0
  IsReadIn line = IsReadBehind manner.limits s.data_end line (manner.lines line)

  module _ (budget budget' : ℕ) (ended : Bool) (left' : Option (List ℕ)) (bytes : List ℕ)
      (P : List ℕ → Type 0) (taken : TakenLine bytes left' budget budget' ended P)
      (read : All IsReadIn (script_lines budget bytes)) where
    lines_read : All IsReadIn (taken.first ∷ script_lines budget' taken.rest)
    lines_read = subst (All IsReadIn) taken.lines read

    pub first_read : IsReadIn taken.first
    first_read = All-head IsReadIn taken.first (script_lines budget' taken.rest) lines_read

    pub rest_read : All IsReadIn (script_lines budget' taken.rest)
    rest_read = All-tail IsReadIn taken.first (script_lines budget' taken.rest) lines_read

  -- what follows of it where it is read so
  pub TookLine-read : (budget budget' : ℕ) (ended : Bool) (left left' : Option (List ℕ))
      (P Q : List ℕ → Type 0) → ((line : List ℕ) → P line → IsReadIn line → Q line)
      → LinesAreReadAt manner s budget left → TookLine left left' budget budget' ended P
      → TookLine left left' budget budget' ended Q
  TookLine-read budget budget' ended left left' P Q each read took = record {
    told = λ bytes is.
        let taken = took.told bytes is in
        record {
          first = taken.first;
          line = each taken.first taken.line (first_read budget budget' ended left' bytes P taken
              (subst (LinesAreReadAt manner s budget) is read));
          rest = taken.rest;
          left = taken.left;
          begins = taken.begins;
          lines = taken.lines;
          longer = taken.longer;
        };
  }

-- ---- a line that is answered

module _ (manner : Manner) (library : Library) (s : ScriptState) (told : List Load) (step : Step)
    (last : Option FlaggedText) (budget budget' : ℕ) (ended : Bool) (left' : Option (List ℕ)) where
  abbrev IsAnsweredIn : List ℕ → Type 0
  IsAnsweredIn line = IsAnsweredBy manner library s told step last line

  module _ (rest : List Load) where
    -- the state before it and the one behind it, with what comes of later texts
    abbrev here : ScriptState
    here = with_loads (told ++ rest) s

    abbrev there : ScriptState
    there = with_loads rest step.state

    -- its text is due, and then what is due behind it
    pub line_due : (left : Option (List ℕ)) → TookLine left left' budget budget' ended IsAnsweredIn
        → IfSome (due_at manner here budget left)
        (Prefixed (step_text manner.format step) step.work (due_at manner there budget' left'))
    line_due None took = tt
    line_due (Some bytes) took =
        let taken = took.told bytes refl in
        let lines = script_lines budget' taken.rest in
        let past = nat_lt budget' (length taken.rest) in
        let later = serve_lines manner there lines in
        record {
          rest = output_from manner there budget' taken.rest;
          is = ap (due_at manner there budget') taken.left;
          whole =
              (λ i. ending_behind manner.format (taken.longer i) (serve_lines manner here (taken.lines i)))
              ∙ ap (λ (st : Step). ending_behind manner.format past
              (behind_step manner.format st (serve_lines manner st.state lines))) (taken.line.is rest)
              ∙ behind_both (step_text manner.format (leaving rest step)) later.text step.work later.work
              (ending manner.format past later.state)
              ∙ ap (λ text. behind text step.work (output_from manner there budget' taken.rest))
              (text_beside manner.format rest step);
        }

    -- where what comes of later texts is right, what comes of all is
    pub line_loaded : (Missing : Type 0) (refused : Option FlaggedText)
        → (step.state.halted ≡ true → refused ≡ last) → (left : Option (List ℕ))
        → TookLine left left' budget budget' ended IsAnsweredIn
        → AreLoadedAt Missing manner library refused there budget' left'
        → AreLoadedAt Missing manner library refused here budget left
    line_loaded Missing refused ends None took later = tt
    line_loaded Missing refused ends (Some bytes) took later =
        let taken = took.told bytes refl in
        let line = taken.first in
        let lines = script_lines budget' taken.rest in
        let all : AreLinesLoaded Missing manner library refused there lines =
        subst (AreLoadedAt Missing manner library refused there budget') taken.left later in
        let first : IsReadingLoaded Missing manner.limits library refused here (manner.lines line) =
        reading_weaker (λ none. absurd none) library refused manner.limits here (manner.lines line)
        (taken.line.right rest refused ends) in
        subst (AreLinesLoaded Missing manner library refused here) (sym taken.lines) (
          λ running. first,
          subst (λ (st : Step). AreLinesLoaded Missing manner library refused st.state lines)
              (sym (taken.line.is rest)) all,
        )

  module _ (left : Option (List ℕ)) (took : TookLine left left' budget budget' ended IsAnsweredIn) where
    -- the lines behind it are read so
    pub line_reads_on : LinesAreReadAt manner s budget left → (bytes : List ℕ) → left ≡ Some bytes
        → (rest : List ℕ) × (left' ≡ Some rest) × LinesAreReadAt manner step.state budget' left'
    line_reads_on read bytes is =
        let taken = took.told bytes is in
        let behind = rest_read manner s budget budget' ended left' bytes IsAnsweredIn taken
        (subst (LinesAreReadAt manner s budget) is read) in
        let end : s.data_end ≡ step.state.data_end =
        sym (step_end manner (with_loads (told ++ []) s) taken.first)
        ∙ ap (λ (st : Step). st.state.data_end) (taken.line.is []) in (
          taken.rest,
          taken.left,
          subst (LinesAreReadAt manner step.state budget') (sym taken.left)
              (subst (λ (end : State). All (λ line. IsReadBehind manner.limits end line (manner.lines line))
              (script_lines budget' taken.rest)) end behind),
        )

    -- where more is left behind it, it stood before its line feed
    line_feeds : HasMore ended left' → (bytes : List ℕ) → left ≡ Some bytes
        → (line rest : List ℕ) × HasNoFeed line × (left' ≡ Some rest) × (bytes ≡ line ++ 10 ∷ rest)
        × IsAnsweredIn line
    line_feeds more bytes is =
        let taken = took.told bytes is in
        elim taken.begins.ends [
          | inl fed ↦ (taken.first, taken.rest, taken.begins.plain, taken.left, fed, taken.line)
          | inr end ↦ absurd (more end.2 (taken.left ∙ ap Some end.1))
        ]

    -- and so something was left before it
    pub line_some : HasMore ended left' → left ≢ Some []
    line_some more is =
        let (line, rest, plain, left_is, split, answered) = line_feeds more [] is in
        absurd (some_fed line rest (sym split))
      where
        some_fed : (line rest : List ℕ) → line ++ 10 ∷ rest ≡ [] → ⊥
        some_fed [] rest is = cc
        some_fed (b ∷ bs) rest is = cc

    -- what is fed behind it is fed with it
    pub fed_on : (loads : List Load) (sink sink' after : SinkState) (rest'' : Option (List ℕ))
        → Put sink sink' (step_text manner.format step) → HasMore ended left'
        → StopsFed (fed_text manner (with_loads loads step.state)) left' rest'' sink' after
        → StopsFed (fed_text manner (with_loads (told ++ loads) s)) left rest'' sink after
    fed_on loads sink sink' after rest'' put more stops = record {
      told = λ bytes is.
          let (line, rest, plain, rest_is, split, answered) = line_feeds more bytes is in
          let (taken, over, over_is, whole, grew) = stops.told rest rest_is in
          let s0 = with_loads (told ++ loads) s in
          let later = fed_text manner (with_loads loads step.state) taken in
          let text : fed_text manner s0 (line ++ 10 ∷ taken) ≡ step_text manner.format step ++ later
          = ap (λ lines. (serve_lines manner s0 lines).text) (fed_lines-first line taken plain)
          ∙ ap (λ (st : Step). step_text manner.format st ++ fed_text manner st.state taken)
          (answered.is loads)
          ∙ ap (λ text. text ++ later) (text_beside manner.format loads step) in (
            line ++ 10 ∷ taken,
            over,
            over_is,
            split ∙ ap (λ bytes. line ++ 10 ∷ bytes) whole ∙ sym (append_assoc line (10 ∷ taken) over),
            subst (Grew sink.held after.held) (sym text) (Grew-then put.grew grew),
          );
    }

-- ---- what a line is answered by

-- a line that was read is answered by the step of its reading
pub answered_by : LinesAreReadOnce → (manner : Manner) (library : Library) (s : ScriptState) (limits : Limits)
    → manner.limits ≡ limits → s.halted ≡ false → (line : List ℕ) (reading : Result Command LineFault)
    → IsReadBehind limits s.data_end line reading → (told : List Load) (step : Step)
    (last : Option FlaggedText)
    → ((rest : List Load) → reading_step manner.limits (with_loads (told ++ rest) s) reading
    ≡ leaving rest step)
    → ((rest : List Load) (refused : Option FlaggedText) → (step.state.halted ≡ true → refused ≡ last)
    → IsReadingLoaded ⊥ manner.limits library refused (with_loads (told ++ rest) s) reading)
    → (first : List ℕ) → first ≡ line → IsReadIn manner s first
    → IsAnsweredBy manner library s told step last first
answered_by once manner library s limits same running line reading is told step last steps right first it read
    =
    let also : IsReadBehind manner.limits s.data_end first reading =
    subst (λ (l : List ℕ). IsReadBehind manner.limits s.data_end l reading) (sym it)
    (subst (λ (l : Limits). IsReadBehind l s.data_end line reading) (sym same) is) in
    let alike = once manner.limits s.data_end first (manner.lines first) reading read also in
    record {
      is = λ rest. let here = with_loads (told ++ rest) s in
          running_step manner here running first ∙ ap (reading_step manner.limits here) alike ∙ steps rest;
      right = λ rest refused ends.
          subst (IsReadingLoaded ⊥ manner.limits library refused (with_loads (told ++ rest) s)) (sym alike)
          (right rest refused ends);
    }

-- a line that is too long is refused
pub answered_too_long : (manner : Manner) (library : Library) (s : ScriptState) (limits : Limits)
    → manner.limits ≡ limits → s.halted ≡ false → (last : Option FlaggedText) (first : List ℕ)
    → limits.line < length first → IsReadIn manner s first
    → IsAnsweredBy manner library s [] (refusal s LINE_TOO_LONG None) last first
answered_too_long manner library s limits same running last first past read =
    let past' = subst (λ (l : Limits). l.line < length first) (sym same) past in
    let long = read_too_long manner.limits s.data_end first (manner.lines first) past' read in
    record {
      is = λ rest. let here = with_loads rest s in
          running_step manner here running first ∙ ap (reading_step manner.limits here) long;
      right = λ rest refused ends.
          subst (IsReadingLoaded ⊥ manner.limits library refused (with_loads rest s)) (sym long) tt;
    }

-- ---- no further line

module _ (manner : Manner) (s : ScriptState) (budget : ℕ) (left' : Option (List ℕ)) (past : Bool) where
  -- the end of the script is due
  pub end_due : s.halted ≡ false → (left : Option (List ℕ)) → TookEnd left left' budget past
      → IfSome (due_at manner s budget left) (λ told. told ≡ end_of_script manner.format past s)
  end_due running None took = tt
  end_due running (Some bytes) took =
      let is = took.told bytes refl in
      (λ i. ending_behind manner.format (is.1 i) (serve_lines manner s (is.0 i)))
      ∙ behind_nothing (ending manner.format past s) ∙ ending_running manner s running past

  -- and no text is loaded
  pub end_loaded : (Missing : Type 0) (library : Library) (last : Option FlaggedText) (left : Option (List ℕ))
      → TookEnd left left' budget past → AreLoadedAt Missing manner library last (with_loads [] s) budget left
  end_loaded Missing library last None took = tt
  end_loaded Missing library last (Some bytes) took =
      subst (AreLinesLoaded Missing manner library last (with_loads [] s)) (sym (took.told bytes refl).0) refl

-- where there was no further line, the inputs have nothing left
pub end_met : (left : Option (List ℕ)) (budget : ℕ) (reader : ReaderState) (rest : Option (List ℕ))
    → TookEnd left (left_of reader rest) budget false → IsAtEnd rest
end_met left budget reader rest took = record {
  told = λ bytes is.
      (append_none reader.pending bytes
      (took.at_end refl (reader.pending ++ bytes) (ap (left_of reader) is))).1;
}

-- ---- an input that failed

-- within a line, so nothing more is written
pub stops_here : (manner : Manner) (s : ScriptState) (left rest : Option (List ℕ)) (reader : ReaderState)
    (sink : SinkState)
    → StopsInLine left reader rest → StopsFed (fed_text manner s) left rest sink sink
stops_here manner s left rest reader sink stopped = record {
  told = λ bytes is.
      let part = stopped.told bytes is in (
        part.part,
        part.left,
        part.rest_is,
        part.whole,
        subst (λ lines. Grew sink.held sink.held (serve_lines manner s lines).text)
            (sym (fed_lines-none part.part part.plain))
            (Grew-none sink.held),
      );
}

pub stops_within : (manner : Manner) (s : ScriptState) (ended : Bool) (left rest : Option (List ℕ))
    (reader : ReaderState) → (ended ≡ true → ⊥) → StopsInLine left reader rest
    → StopsTaking manner s ended left rest
stops_within manner s ended left rest reader going stopped = record {
  some = λ met. absurd (going met);
  silent = λ sink. stops_here manner (with_loads [] s) left rest reader sink stopped;
}

-- what is left behind bytes that were read ahead
left_behind : (reader : ReaderState) (rest : Option (List ℕ)) (bytes : List ℕ)
    → left_of reader rest ≡ Some bytes
    → (over : List ℕ) × (rest ≡ Some over) × (bytes ≡ reader.pending ++ over)
left_behind reader None bytes is = absurd (none-some bytes is)
left_behind reader (Some over) bytes is = (over, refl, sym (same_Some (reader.pending ++ over) bytes is))

-- behind a line, with which the script is cut short
module _ (manner : Manner) (s : ScriptState) (running : s.halted ≡ false) (line : List ℕ)
    (cut : IsReadIn manner s line → IsCutAt manner s line) (budget budget' : ℕ) (ended ended' : Bool)
    (left rest : Option (List ℕ)) (reader : ReaderState)
    (took : TookLine left (left_of reader rest) budget budget' ended' (λ first. first ≡ line))
    (read : LinesAreReadAt manner s budget left) where
  abbrev bare : ScriptState
  bare = with_loads [] s

  -- the lines from it on say nothing
  cut_lines : (first : List ℕ) → first ≡ line → IsReadIn manner s first → (lines : List (List ℕ))
      → (serve_lines manner bare (first ∷ lines)).text ≡ []
  cut_lines first it is lines =
      let cut_at = subst (IsCutAt manner s) (sym it) (cut (subst (IsReadIn manner s) it is)) in
      ap (λ (st : Step). step_text manner.format st ++ (serve_lines manner st.state lines).text)
      (running_step manner bare running first ∙ cut_at)
      ∙ ap (λ (served : Served). served.text)
      (halted_serves manner (record bare { halted = true }) refl lines)

  cut_none : (bytes : List ℕ) (taken : TakenLine bytes (left_of reader rest) budget budget' ended'
      (λ first. first ≡ line)) → IsReadIn manner s taken.first
      → (front over : List ℕ) × (rest ≡ Some over) × (bytes ≡ front ++ over)
      × (fed_text manner bare front ≡ [])
  cut_none bytes taken is =
      let (over, over_is, split) = left_behind reader rest taken.rest taken.left in
      let first = taken.first in
      elim taken.begins.ends [
        | inl fed ↦ (
          first ++ 10 ∷ reader.pending,
          over,
          over_is,
          fed ∙ ap (λ bytes. first ++ 10 ∷ bytes) split
              ∙ sym (append_assoc first (10 ∷ reader.pending) over),
          ap (λ lines. (serve_lines manner bare lines).text)
              (fed_lines-first first reader.pending taken.begins.plain)
              ∙ cut_lines first taken.line is (fed_lines reader.pending),
        )
        | inr end ↦ (
          first,
          over,
          over_is,
          end.0 ∙ sym (append-nil first)
              ∙ ap (λ bytes. first ++ bytes) (sym (append_none reader.pending over (sym split ∙ end.1)).1),
          ap (λ lines. (serve_lines manner bare lines).text) (fed_lines-none first taken.begins.plain),
        )
      ]

  pub stops_behind : StopsTaking manner s ended left rest
  stops_behind = record {
    some = λ met none.
        let taken = took.told [] none in
        absurd (some_line taken.first (script_lines budget' taken.rest)
        (sym taken.lines ∙ script_lines-none budget));
    silent = λ sink. record {
      told = λ bytes is.
          let taken = took.told bytes is in
          let first = first_read manner s budget budget' ended' (left_of reader rest) bytes
          (λ first. first ≡ line) taken (subst (LinesAreReadAt manner s budget) is read) in
          let (front, over, over_is, whole, silent) = cut_none bytes taken first in (
            front,
            over,
            over_is,
            whole,
            subst (Grew sink.held sink.held) (sym silent) (Grew-none sink.held),
          );
    };
  } where
    some_line : (line : List ℕ) (lines : List (List ℕ)) → line ∷ lines ≡ [] → ⊥
    some_line line lines is = cc

pub left_of-start : (limit : ℕ) (rest : Option (List ℕ)) → left_of (new_reader limit) rest ≡ rest
left_of-start limit None = refl
left_of-start limit (Some bytes) = refl
