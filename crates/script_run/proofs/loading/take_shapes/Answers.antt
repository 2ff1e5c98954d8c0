use Rattle.std.proofs.Common.{List, Option, Vec, ℕ, ◌≡◌, inl, refl, sym, ◌∙◌}
use Rattle.std.specs.Prelude.{Ok}
use Rattle.std.specs.declared.alloc.Global.{Global}
use Rattle.std.proofs.lemmas.Result.{IfOk-weaker}
use Rattle.shx_term.specs.declared.edit.Edit.{Edit}
use Rattle.script_lines.specs.declared.command.Command.TheVariants.{Shapes}
use Rattle.script_run.specs.Loaded.{library_of}
use Rattle.script_run.specs.Replies.{Obeys}
use Rattle.script_run.specs.Work.{evaluating}
use Rattle.script_run.proofs.LoadingLemmas.{LoadsWithin-read, Loads-long, Loads-told}
use Rattle.script_run.proofs.LoadingLemmas.{MovesOn-refused, Obeys-grouped, Obeys-loads}
use Rattle.script_run.proofs.LoadingLemmas.{built_there, cut_cause, each_err, long_out, on_each, on_each_err}
use Rattle.script_run.proofs.LoadingLemmas.{quiet_cause, still_refused}
use Rattle.script_run.proofs.ObeysLemmas.{LoadsWithin-none, MovesOn-answered, TellsRefusal-none}
use Rattle.script_run.proofs.ScriptRunLemmas.{by_group, no_group}
use Rattle.script_run.proofs.loading.take_shapes.Goals as goal

-- ---- within a group

pub returns-then-is_some-clause-replies : goal.returns-then-is_some-clause-replies
returns-then-is_some-clause-replies g c = λ manner s same is.
    let script = c.args.script.now in
    let refused = c.refuse_line in
    let library = library_of script.base (g.I.Inputs.state c.args.host.now) in
    let last = (g.P.PatternHost.state c.args.patterns.now).refused in
    let work = evaluating c.args.steps.now c.args.nested.now in
    by_group script.group s.group is.group_is (sym c.is_some.ensures ∙ c.if-is_some.true)
    (λ (waiting : Option (List Edit)). s.group ≡ waiting
    → Obeys manner library s (Ok (Shapes c.args.name.now)) refused.result refused.new.script last work work)
    (λ waiting grouped. Obeys-grouped manner library s c.args.name.now refused.result refused.new.script last
    work work waiting grouped (sym is.halted_is ∙ c.requires.running)
    (refused.ensures.replies manner s work is)) refl

pub returns-then-is_some-clause-moves : goal.returns-then-is_some-clause-moves
returns-then-is_some-clause-moves g c =
    let work = evaluating c.args.steps.now c.args.nested.now in
    MovesOn-answered c.refuse_line.result c.args.script.now c.refuse_line.new.script work work
    (c.refuse_line.ensures.moves c.requires.goes_on work)

pub returns-then-is_some-clause-patterns : goal.returns-then-is_some-clause-patterns
returns-then-is_some-clause-patterns g c =
    let faults = (g.P.PatternHost.state c.args.patterns.now).faults in
    TellsRefusal-none faults c.refuse_line.new.script.halted c.refuse_line.result
    (c.refuse_line.ensures.running ∙ c.requires.running)

pub returns-then-is_some-clause-inputs : goal.returns-then-is_some-clause-inputs
returns-then-is_some-clause-inputs g c =
    LoadsWithin-none c.args.limits.now.text (g.I.Inputs.state c.args.host.now) _

-- ---- the text was read

pub load_text-requires : goal.load_text-requires
load_text-requires g c =
    let read = rw c.as_str.ensures at c.in-Ok.ensures.read in
    record {
      usable = c.requires.usable;
      few = c.requires.few;
      goes_on = c.requires.goes_on;
      running = c.requires.running;
      within = read.within;
      admitted = built_there c.args.limits.now c.args.script.now.base
          (g.P.PatternHost.admits c.args.patterns.now)
          ((g.I.Inputs.state c.args.host.now).text c.args.name.now) c.in-Ok.text.items read.whole
          c.requires.admitted.built;
    }

pub returns-in-Ok-clause-replies : goal.returns-in-Ok-clause-replies
returns-in-Ok-clause-replies g c = λ manner s same is.
    let script = c.args.script.now in
    let library = library_of script.base (g.I.Inputs.state c.args.host.now) in
    let name = c.args.name.now in
    let loaded = c.load_text in
    let last = (g.P.PatternHost.state loaded.new.patterns).refused in
    let before = evaluating c.args.steps.now c.args.nested.now in
    let after = evaluating loaded.new.steps loaded.new.nested in
    let none = no_group script.group s.group is.group_is (sym c.is_some.ensures ∙ c.if-is_some.false) in
    let read = rw c.as_str.ensures at c.in-Ok.ensures.read in
    IfOk-weaker loaded.result _ _
    (λ reply loads. Obeys-loads manner library s name reply loaded.new.script last before after none loads)
    (Loads-told manner script.base (library.text name) c.in-Ok.text.items s loaded.result loaded.new.script
    last before after read.whole (loaded.ensures.loads manner s same is))

pub returns-in-Ok-clause-stopped : goal.returns-in-Ok-clause-stopped
returns-in-Ok-clause-stopped g c = λ manner s is.
    let none = no_group c.args.script.now.group s.group is.group_is
    (sym c.is_some.ensures ∙ c.if-is_some.false) in
    each_err _ c.load_text.result (λ stop input. none)

pub returns-in-Ok-clause-inputs : goal.returns-in-Ok-clause-inputs
returns-in-Ok-clause-inputs g c =
    let read = c.read_within.ensures in
    LoadsWithin-read c.args.limits.now.text (g.I.Inputs.state c.args.host.now)
    (g.I.Inputs.state c.read_within.new.host) c.load_text.result read.opens read.within_open
    (on_each c.load_text.result (inl c.in-Ok.ensures.read.at_end)) read.others read.texts

pub returns-in-Ok-clause-cause : goal.returns-in-Ok-clause-cause
returns-in-Ok-clause-cause g c =
    quiet_cause c.load_text.result (g.I.Inputs.state c.args.host.now).faults
    (g.I.Inputs.state c.read_within.new.host).faults c.load_text.ensures.memory c.in-Ok.ensures.cause

-- ---- it was not

pub returns-in-Err-clause-replies : goal.returns-in-Err-clause-replies
returns-in-Err-clause-replies g c = λ manner s same is.
    let script = c.args.script.now in
    let library = library_of script.base (g.I.Inputs.state c.args.host.now) in
    let name = c.args.name.now in
    let refused = c.refuse_text in
    let last = (g.P.PatternHost.state c.args.patterns.now).refused in
    let work = evaluating c.args.steps.now c.args.nested.now in
    let none = no_group script.group s.group is.group_is (sym c.is_some.ensures ∙ c.if-is_some.false) in
    IfOk-weaker refused.result _ _
    (λ reply loads. Obeys-loads manner library s name reply refused.new.script last work work none loads)
    (Loads-long manner c.args.limits.now script.base (library.text name) s script refused.new.script
    c.in-Err.refusal refused.result last work same is c.requires.running
    (rw c.as_str.ensures at c.in-Err.ensures.too_long) refused.ensures)

pub returns-in-Err-clause-moves : goal.returns-in-Err-clause-moves
returns-in-Err-clause-moves g c =
    MovesOn-refused c.args.script.now c.refuse_text.new.script c.in-Err.refusal c.refuse_text.result
    c.refuse_text.ensures c.requires.goes_on (evaluating c.args.steps.now c.args.nested.now)

pub returns-in-Err-clause-stopped : goal.returns-in-Err-clause-stopped
returns-in-Err-clause-stopped g c = λ manner s is.
    let none = no_group c.args.script.now.group s.group is.group_is
    (sym c.is_some.ensures ∙ c.if-is_some.false) in
    each_err _ c.refuse_text.result (λ stop input. none)

pub returns-in-Err-clause-patterns : goal.returns-in-Err-clause-patterns
returns-in-Err-clause-patterns g c =
    still_refused c.args.script.now c.refuse_text.new.script c.in-Err.refusal c.refuse_text.result
    c.refuse_text.ensures c.requires.running (g.P.PatternHost.state c.args.patterns.now).faults

pub returns-in-Err-clause-patterns_still : goal.returns-in-Err-clause-patterns_still
returns-in-Err-clause-patterns_still g c = on_each_err c.refuse_text.result refl

pub returns-in-Err-clause-inputs : goal.returns-in-Err-clause-inputs
returns-in-Err-clause-inputs g c =
    let read = c.read_within.ensures in
    let before = g.I.Inputs.state c.args.host.now in
    let after = g.I.Inputs.state c.read_within.new.host in
    LoadsWithin-read c.args.limits.now.text before after c.refuse_text.result read.opens read.within_open
    (long_out c.args.script.now c.refuse_text.new.script c.in-Err.refusal c.refuse_text.result
    c.args.limits.now.text (before.text c.as_str.result.now) after c.refuse_text.ensures
    c.in-Err.ensures.too_long c.in-Err.ensures.stays_open_long read.whole) read.others read.texts

pub returns-in-Err-clause-cause : goal.returns-in-Err-clause-cause
returns-in-Err-clause-cause g c =
    cut_cause (Vec ℕ Global) c.args.script.now c.refuse_text.new.script c.in-Err.refusal c.refuse_text.result
    (g.I.Inputs.state c.args.host.now).faults (g.I.Inputs.state c.read_within.new.host).faults
    c.refuse_text.ensures c.in-Err.ensures.cause
