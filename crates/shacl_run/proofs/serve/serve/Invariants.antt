use Rattle.std.proofs.Common.{◌≡◌, ℕ, ◌+◌, ◌<◌, ◌^◌, false, List, Some}
use Rattle.std.specs.Option.{option_map}
use Rattle.shx_outside.specs.declared.role.Role.TheVariants.{Script, Shapes}
use Rattle.text_input.specs.Lines.{script_lines}
use Rattle.text_input.specs.ScriptReader.{new_reader, left_of}
use Rattle.ttl_meaning.specs.State.{State}
use Rattle.shape_text.specs.Names.{HasNamesOf}
use Rattle.script_run.specs.Admitted.{AreAdmitted}
use Rattle.script_run.specs.Hosts.{ReadsShapesOut}
use Rattle.script_run.specs.Loaded.{library_of}
use Rattle.script_run.specs.Manner.{Manner}
use Rattle.script_run.specs.ScriptState.{ScriptState}
use Rattle.script_run.specs.Stored.{IsScriptRun, MayGoOn}
use Rattle.shacl_run.specs.Outside.{outside}
use Rattle.shacl_run.specs.inner.Serving.{HaveReadings, LinesAreReadAt, ServesOn}
use Rattle.shacl_run.proofs.ReachedLemmas.{PutsOn, Reached}
use Rattle.shacl_run.proofs.serve.serve.Given as goal

abbrev pub invariant-loop-taken : goal.invariant-loop-taken
invariant-loop-taken g l =
    let inputs0 = g.I.Inputs.state l.fn.host in
    let inputs = g.I.Inputs.state l.host in
    let patterns0 = g.P.PatternHost.state l.fn.patterns in
    let patterns = g.P.PatternHost.state l.patterns in
    let start = outside inputs0 (g.O.Sink.state l.fn.out) patterns0 l.fn.nested l.fn.steps in
    let at = outside inputs (g.O.Sink.state l.out) patterns l.nested l.steps in
    let left = left_of l.reader (inputs.rest Script) in
    record {
      goes_on : ServesOn l.limits (new_reader l.limits.script) inputs0 l.reader inputs;
      may : MayGoOn l.script;
      few : l.script.line + l.reader.budget < 2 ^ 64;
      running : l.script.halted ≡ false;
      admitted : AreAdmitted l.limits (library_of l.script.base inputs) (g.I.Inputs.admits l.host Shapes)
          (g.P.PatternHost.admits l.patterns) (option_map (script_lines l.reader.budget) left);
      names : l.script.document ≡ l.fn.script.document;
      base : l.script.base ≡ l.fn.script.base;
      format : l.script.format ≡ l.fn.script.format;
      quiet : patterns.faults ≡ patterns0.faults;
      shapes_out : ReadsShapesOut l.limits.text inputs0 → ReadsShapesOut l.limits.text inputs;
      puts : PutsOn start at;
      readings : (end : State) → HasNamesOf end l.fn.script.document
          → HaveReadings l.limits end l.reader.budget left
          → HaveReadings l.limits end l.limits.script (inputs0.rest Script);
      reached : (manner : Manner) (s : ScriptState) (bytes : List ℕ) → manner.limits ≡ l.limits
          → IsScriptRun manner.limits manner.format s l.fn.script → inputs0.rest Script ≡ Some bytes
          → LinesAreReadAt manner s l.limits.script (inputs0.rest Script)
          → Reached manner (library_of l.fn.script.base inputs0) l.limits.script s start l.script l.reader at;
    }

abbrev pub decreases-loop-taken : goal.decreases-loop-taken
decreases-loop-taken g l = l.reader.budget
