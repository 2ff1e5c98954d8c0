use Rattle.std.proofs.Common.{◌≡◌, ◌<◌, [], ◌∷◌, None, Some, length, refl, sym, ◌∙◌, subst, arith}
use Rattle.std.specs.Option.{option_map}
use Rattle.shx_outside.specs.declared.role.Role.TheVariants.{Script, Shapes}
use Rattle.shx_term.specs.declared.fault_codes.TheConstants.{LINE_TOO_LONG}
use Rattle.shx_term.specs.declared.limits.Limits.{Limits}
use Rattle.text_input.specs.Lines.{script_lines}
use Rattle.text_input.specs.ScriptReader.{left_of}
use Rattle.script_run.specs.Manner.{Manner}
use Rattle.script_run.specs.LineReadings.{HasReading, IsReadBehind}
use Rattle.script_run.specs.Loaded.{Library, library_of}
use Rattle.script_run.specs.Replies.{Obeys}
use Rattle.script_run.specs.Script.{refusal}
use Rattle.script_run.specs.Work.{evaluating}
use Rattle.shacl_run.specs.inner.Serving.{IsAnsweredBy}
use Rattle.shacl_run.proofs.EndLemmas.{passed_on}
use Rattle.shacl_run.proofs.GoesOnLemmas.{SameTexts-then, ServesOn-load, ServesOn-read, TookLine-load}
use Rattle.shacl_run.proofs.GoesOnLemmas.{read_out_still}
use Rattle.shacl_run.proofs.LineAdmitsLemmas.{AreAdmitted-still, library_same, may_load_behind}
use Rattle.shacl_run.proofs.LineAdmitsLemmas.{may_load_first}
use Rattle.shacl_run.proofs.LineReadingLemmas.{reads_too_long, readings_none, readings_with}
use Rattle.shacl_run.proofs.ServingLemmas.{TookLine-read, answered_by, answered_too_long, end_met}
use Rattle.shacl_run.proofs.ServingLemmas.{stops_behind, stops_within}
use Rattle.shacl_run.proofs.take_line.take_line.Goals as goal

-- ---- the inputs failed within a line

pub returns-in_err-line-clause-stopped : goal.returns-in_err-line-clause-stopped
returns-in_err-line-clause-stopped g c = λ manner s same is lines.
    let reader = c.args.reader.now in
    let stop = c.in_err-line.field-0.0 in
    rw (passed_on c.from_residual.result stop c.from_residual.ensures.1)
    (λ input. stops_within manner s reader.ended
    (left_of reader ((g.I.Inputs.state c.args.host.now).rest Script))
    ((g.I.Inputs.state c.next_line.new.host).rest Script) c.next_line.new.reader
    (λ ended. c.in_err-line.ensures.going ended input) (c.in_err-line.ensures.stopped input))

pub returns-in_err-line-clause-inputs : goal.returns-in_err-line-clause-inputs
returns-in_err-line-clause-inputs g c = ServesOn-read c.args.limits.now c.next_line.ensures.goes_on

-- ---- a text of a line failed

pub returns-in_err-reply-in-Is-clause-stopped : goal.returns-in_err-reply-in-Is-clause-stopped
returns-in_err-reply-in-Is-clause-stopped g c = λ manner s same is lines.
    let before = g.I.Inputs.state c.args.host.now in
    let after = g.I.Inputs.state c.reply_to.new.host in
    let reader = c.args.reader.now in
    let reader' = c.next_line.new.reader in
    let left = left_of reader (before.rest Script) in
    let line = c.in-Is.bytes.items in
    let exit = c.from_residual-in_err-reply-in-Is in
    let stop = c.in_err-reply-in-Is.field-0.0 in
    let read = rw c.in-Is.is at c.in_ok-line.ensures.line in
    rw (passed_on exit.result stop exit.ensures.1)
    (λ input. stops_behind manner s (sym is.halted_is ∙ c.requires.running) line
    (λ told. (rw c.deref.ensures.value at c.in_err-reply-in-Is.ensures.stopped) manner s same is
    (subst (λ (l : Limits). IsReadBehind l s.data_end line (manner.lines line)) same told) input)
    reader.budget reader'.budget reader.ended reader'.ended left (after.rest Script) reader'
    (TookLine-load c.reply_to.ensures.inputs reader' read.0) lines)

pub returns-in_err-reply-in-Is-clause-inputs : goal.returns-in_err-reply-in-Is-clause-inputs
returns-in_err-reply-in-Is-clause-inputs g c = ServesOn-load c.args.limits.now c.reply_to.result
    (ServesOn-read c.args.limits.now c.next_line.ensures.goes_on) c.reply_to.ensures.inputs

-- ---- a line is taken

pub reply_to-requires-clause-few : goal.reply_to-requires-clause-few
reply_to-requires-clause-few g c =
    let read = rw c.in-Is.is at c.in_ok-line.ensures.line in
    omega (arith, c.requires.few, read.2)

pub reply_to-requires-clause-admitted : goal.reply_to-requires-clause-admitted
reply_to-requires-clause-admitted g c =
    let limits = c.args.limits.now in
    let before = g.I.Inputs.state c.args.host.now in
    let inputs = g.I.Inputs.state c.next_line.new.host in
    let reader = c.args.reader.now in
    let reader' = c.next_line.new.reader in
    let left = left_of reader (before.rest Script) in
    let left' = left_of reader' (inputs.rest Script) in
    let base = c.args.script.now.base in
    let line = c.in-Is.bytes.items in
    let read = rw c.in-Is.is at c.in_ok-line.ensures.line in
    rw c.deref.ensures.value (AreAdmitted-still limits (λ flags text built. built)
    (library_of base before) (library_of base inputs) (option_map (script_lines reader.budget) left)
    (Some (line ∷ [])) (library_same base base before inputs refl c.next_line.ensures.goes_on.texts)
    (λ name opens. c.next_line.ensures.admitted.each Shapes name opens)
    (may_load_first limits reader.budget reader'.budget reader'.ended left' line left read.0)
    c.requires.admitted)

pub refuse_line-requires : goal.refuse_line-requires
refuse_line-requires g c =
    let read = rw c.in-TooLong.is at c.in_ok-line.ensures.line in
    omega (arith, c.requires.few, read.1)

pub returns-in-Is-clause-taken : goal.returns-in-Is-clause-taken
returns-in-Is-clause-taken g c = λ manner s same is lines.
    let limits = c.args.limits.now in
    let before = g.I.Inputs.state c.args.host.now in
    let inputs = g.I.Inputs.state c.next_line.new.host in
    let after = g.I.Inputs.state c.reply_to.new.host in
    let reader = c.args.reader.now in
    let reader' = c.next_line.new.reader in
    let left = left_of reader (before.rest Script) in
    let base = c.args.script.now.base in
    let line = c.in-Is.bytes.items in
    let last = (g.P.PatternHost.state c.reply_to.new.patterns).refused in
    let read = rw c.in-Is.is at c.in_ok-line.ensures.line in
    let (reading, told) =
    (rw c.deref.ensures.value at c.in_ok-reply-in-Is.ensures.read) s.data_end is.names_are in
    let only : Manner = record manner { lines = λ line. reading } in
    let work = evaluating c.args.steps.now c.args.nested.now in
    let work' = evaluating c.reply_to.new.steps c.reply_to.new.nested in
    let obeys = subst (λ (l : Library).
    Obeys only l s reading c.in_ok-reply-in-Is.reply c.reply_to.new.script last work work')
    (library_same base base before inputs refl c.next_line.ensures.goes_on.texts)
    ((rw c.deref.ensures.value at c.in_ok-reply-in-Is.ensures.replies) only s same is told) in
    record {
      told = obeys.told;
      step = obeys.step;
      took = TookLine-read manner s reader.budget reader'.budget reader'.ended left
          (left_of reader' (after.rest Script)) (λ first. first ≡ line)
          (IsAnsweredBy manner (library_of base before) s obeys.told obeys.step last)
          (answered_by c.lines_are_read_once.ensures manner (library_of base before) s limits same
          (sym is.halted_is ∙ c.requires.running) line reading told obeys.told obeys.step last obeys.is
          obeys.right) lines (TookLine-load c.reply_to.ensures.inputs reader' read.0);
      halts = obeys.halts;
      replies = record {
        text = obeys.replies.text;
        stored = obeys.replies.stored;
        work = obeys.replies.work;
      };
    }

pub returns-in-Is-clause-admitted_still : goal.returns-in-Is-clause-admitted_still
returns-in-Is-clause-admitted_still g c =
    let limits = c.args.limits.now in
    let before = g.I.Inputs.state c.args.host.now in
    let inputs = g.I.Inputs.state c.next_line.new.host in
    let after = g.I.Inputs.state c.reply_to.new.host in
    let reader = c.args.reader.now in
    let reader' = c.next_line.new.reader in
    let left = left_of reader (before.rest Script) in
    let left' = left_of reader' (after.rest Script) in
    let base = c.args.script.now.base in
    let base' = c.reply_to.new.script.base in
    let line = c.in-Is.bytes.items in
    let read = rw c.in-Is.is at c.in_ok-line.ensures.line in
    AreAdmitted-still limits (λ flags text built. c.reply_to.ensures.builds.each flags text built)
    (library_of base before) (library_of base' after) (option_map (script_lines reader.budget) left)
    (option_map (script_lines reader'.budget) left') (library_same base base' before after
    c.reply_to.ensures.moves.base (SameTexts-then c.next_line.ensures.goes_on.texts
    c.reply_to.ensures.inputs.texts))
    (λ name opens. c.reply_to.ensures.admits.each Shapes name
    (c.next_line.ensures.admitted.each Shapes name opens))
    (may_load_behind limits reader.budget reader'.budget reader'.ended left' (λ first. first ≡ line) left
    (TookLine-load c.reply_to.ensures.inputs reader' read.0)) c.requires.admitted

pub returns-in-Is-clause-inputs : goal.returns-in-Is-clause-inputs
returns-in-Is-clause-inputs g c = ServesOn-load c.args.limits.now c.reply_to.result
    (ServesOn-read c.args.limits.now c.next_line.ensures.goes_on) c.reply_to.ensures.inputs

pub returns-in-Is-clause-shapes_out : goal.returns-in-Is-clause-shapes_out
returns-in-Is-clause-shapes_out g c = λ out. c.in_ok-reply-in-Is.ensures.inputs.read_out
    (read_out_still c.args.limits.now c.next_line.ensures.goes_on out)

pub returns-in-Is-clause-read : goal.returns-in-Is-clause-read
returns-in-Is-clause-read g c = λ end names.
    let limits = c.args.limits.now in
    let line = c.in-Is.bytes.items in
    let read = rw c.in-Is.is at c.in_ok-line.ensures.line in
    let has : HasReading limits end line =
    (rw c.deref.ensures.value at c.in_ok-reply-in-Is.ensures.read) end names in
    readings_with limits end c.args.reader.now.budget c.next_line.new.reader.budget
    c.next_line.new.reader.ended
    (left_of c.args.reader.now ((g.I.Inputs.state c.args.host.now).rest Script))
    (left_of c.next_line.new.reader ((g.I.Inputs.state c.reply_to.new.host).rest Script))
    (λ first. first ≡ line) (λ first it. subst (HasReading limits end) (sym it) has)
    (TookLine-load c.reply_to.ensures.inputs c.next_line.new.reader read.0)

-- ---- a line that is too long

pub returns-in-TooLong-clause-goes_on_still : goal.returns-in-TooLong-clause-goes_on_still
returns-in-TooLong-clause-goes_on_still g c =
    (c.refuse_line.ensures.moves c.requires.goes_on (evaluating 0 0)).goes_on

pub returns-in-TooLong-clause-format : goal.returns-in-TooLong-clause-format
returns-in-TooLong-clause-format g c =
    (c.refuse_line.ensures.moves c.requires.goes_on (evaluating 0 0)).format

pub returns-in-TooLong-clause-counted : goal.returns-in-TooLong-clause-counted
returns-in-TooLong-clause-counted g c =
    (c.refuse_line.ensures.moves c.requires.goes_on (evaluating 0 0)).line

pub returns-in-TooLong-clause-admitted_still : goal.returns-in-TooLong-clause-admitted_still
returns-in-TooLong-clause-admitted_still g c =
    let limits = c.args.limits.now in
    let before = g.I.Inputs.state c.args.host.now in
    let inputs = g.I.Inputs.state c.next_line.new.host in
    let reader = c.args.reader.now in
    let reader' = c.next_line.new.reader in
    let left = left_of reader (before.rest Script) in
    let left' = left_of reader' (inputs.rest Script) in
    let base = c.args.script.now.base in
    let base' = c.refuse_line.new.script.base in
    let read = rw c.in-TooLong.is at c.in_ok-line.ensures.line in
    AreAdmitted-still limits (λ flags text built. built) (library_of base before) (library_of base' inputs)
    (option_map (script_lines reader.budget) left) (option_map (script_lines reader'.budget) left')
    (library_same base base' before inputs
    (c.refuse_line.ensures.moves c.requires.goes_on (evaluating 0 0)).base c.next_line.ensures.goes_on.texts)
    (λ name opens. c.next_line.ensures.admitted.each Shapes name opens)
    (may_load_behind limits reader.budget reader'.budget reader'.ended left'
    (λ first. limits.line < length first) left read.0) c.requires.admitted

pub returns-in-TooLong-clause-inputs : goal.returns-in-TooLong-clause-inputs
returns-in-TooLong-clause-inputs g c = ServesOn-read c.args.limits.now c.next_line.ensures.goes_on

pub returns-in-TooLong-clause-shapes_out : goal.returns-in-TooLong-clause-shapes_out
returns-in-TooLong-clause-shapes_out g c = read_out_still c.args.limits.now c.next_line.ensures.goes_on

pub returns-in-TooLong-clause-patterns : goal.returns-in-TooLong-clause-patterns
returns-in-TooLong-clause-patterns g c = rw (c.refuse_line.ensures.running, c.requires.running) refl

pub returns-in-TooLong-clause-taken : goal.returns-in-TooLong-clause-taken
returns-in-TooLong-clause-taken g c = λ manner s same is lines.
    let limits = c.args.limits.now in
    let before = g.I.Inputs.state c.args.host.now in
    let reader = c.args.reader.now in
    let reader' = c.next_line.new.reader in
    let left = left_of reader (before.rest Script) in
    let left' = left_of reader' ((g.I.Inputs.state c.next_line.new.host).rest Script) in
    let library = library_of c.args.script.now.base before in
    let last = (g.P.PatternHost.state c.args.patterns.now).refused in
    let running = sym is.halted_is ∙ c.requires.running in
    let read = rw c.in-TooLong.is at c.in_ok-line.ensures.line in
    record {
      told = [];
      step = refusal s LINE_TOO_LONG None;
      took = TookLine-read manner s reader.budget reader'.budget reader'.ended left left'
          (λ first. limits.line < length first)
          (IsAnsweredBy manner library s [] (refusal s LINE_TOO_LONG None) last)
          (answered_too_long manner library s limits same running last) lines read.0;
      halts = sym running;
      replies = c.refuse_line.ensures.replies manner s (evaluating c.args.steps.now c.args.nested.now) is;
    }

pub returns-in-TooLong-clause-read : goal.returns-in-TooLong-clause-read
returns-in-TooLong-clause-read g c = λ end names.
    let limits = c.args.limits.now in
    let read = rw c.in-TooLong.is at c.in_ok-line.ensures.line in
    readings_with limits end c.args.reader.now.budget c.next_line.new.reader.budget
    c.next_line.new.reader.ended
    (left_of c.args.reader.now ((g.I.Inputs.state c.args.host.now).rest Script))
    (left_of c.next_line.new.reader ((g.I.Inputs.state c.next_line.new.host).rest Script))
    (λ first. limits.line < length first)
    (reads_too_long limits end c.args.script.now.document names) read.0

-- ---- no further line

pub returns-in-End-clause-inputs : goal.returns-in-End-clause-inputs
returns-in-End-clause-inputs g c = ServesOn-read c.args.limits.now c.next_line.ensures.goes_on

pub returns-in-End-clause-shapes_out : goal.returns-in-End-clause-shapes_out
returns-in-End-clause-shapes_out g c = read_out_still c.args.limits.now c.next_line.ensures.goes_on

pub returns-clause-inputs : goal.returns-clause-inputs
returns-clause-inputs g c = ServesOn-read c.args.limits.now c.next_line.ensures.goes_on

pub returns-clause-shapes_out : goal.returns-clause-shapes_out
returns-clause-shapes_out g c = read_out_still c.args.limits.now c.next_line.ensures.goes_on

pub returns-in-End-clause-read : goal.returns-in-End-clause-read
returns-in-End-clause-read g c = λ end names.
    readings_none c.args.limits.now end c.args.reader.now.budget
    (left_of c.args.reader.now ((g.I.Inputs.state c.args.host.now).rest Script))
    (left_of c.next_line.new.reader ((g.I.Inputs.state c.next_line.new.host).rest Script)) _
    (rw c.in-End.is at c.in_ok-line.ensures.line)

pub returns-clause-read : goal.returns-clause-read
returns-clause-read g c = λ end names.
    readings_none c.args.limits.now end c.args.reader.now.budget
    (left_of c.args.reader.now ((g.I.Inputs.state c.args.host.now).rest Script))
    (left_of c.next_line.new.reader ((g.I.Inputs.state c.next_line.new.host).rest Script)) _
    (rw c.in-PastLimit.is at c.in_ok-line.ensures.line)

pub returns-in-End-clause-end : goal.returns-in-End-clause-end
returns-in-End-clause-end g c = λ _.
    end_met (left_of c.args.reader.now
    ((g.I.Inputs.state c.args.host.now).rest Script)) c.args.reader.now.budget
    c.next_line.new.reader ((g.I.Inputs.state c.next_line.new.host).rest Script)
    (rw c.in-End.is at c.in_ok-line.ensures.line)
