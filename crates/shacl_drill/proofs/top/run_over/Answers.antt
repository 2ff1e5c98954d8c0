use Rattle.std.proofs.Common.{◌≡◌, ℕ, List, Option, Some, ap, subst, ◌∙◌}
use Rattle.shx_outside.specs.OpenTexts.{bytes_named, texts_told}
use Rattle.shx_outside.specs.declared.named_text.NamedText.{NamedText}
use Rattle.shx_term.specs.declared.limits.Limits.{Limits}
use Rattle.command_words.specs.Words.{command_words}
use Rattle.shacl_run.proofs.AdmittedLemmas.{all_admitted, all_loads_admitted}
use Rattle.shacl_run.specs.declared.status.Status.{Status}
use Rattle.shacl_run.specs.Outside.{Outside}
use Rattle.shacl_run.specs.RunClauses.{IsRun}
use Rattle.shacl_drill.proofs.top.run_over.Goals as goal

-- a run is one of the same limits and words
run_moved : {l m : Limits} {ws vs : List (List ℕ)} {before after : Outside} {status : Status} → l ≡ m
    → ws ≡ vs → IsRun l ws before after status → IsRun m vs before after status
run_moved {m = m} {ws = ws} {before = before} {after = after} {status = status} limits words runs =
    subst (λ vs. IsRun m vs before after status) words
    (subst (λ l. IsRun l ws before after status) limits runs)

pub run-requires-clause-patterns : goal.run-requires-clause-patterns
run-requires-clause-patterns g c =
    all_admitted c.program-limits.result _ c.requires.patterns (command_words c.deref.result.now) _

pub run-requires-clause-loads : goal.run-requires-clause-loads
run-requires-clause-loads g c =
    all_loads_admitted c.program-limits.result (λ role name. Unit {0}) _ (λ name. tt) c.requires.patterns
    (command_words c.deref.result.now) _

pub returns : goal.returns
returns g c =
    let held_by : List NamedText → List ℕ → Option (List ℕ) = λ files name. Some (bytes_named files name) in
    record {
      ran = record {
        first = texts_told 0 c.new-inputs.result;
        last = texts_told 0 c.run.new.host;
        held = ap held_by (c.new-inputs.ensures.files ∙ c.in_ok-named_texts.ensures);
        is = run_moved c.program-limits.ensures.exact (c.deref.ensures.value ∙ c.in_ok-words.ensures)
            c.run.ensures;
      };
    }
