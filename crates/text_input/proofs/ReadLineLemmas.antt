-- How reading a line begins, goes on and ends.
use Rattle.std.proofs.Common.{◌≡◌, ℕ, true, List, [], Result, Ok, Err, IsErrAnd, sym, subst}
use Rattle.std.proofs.Common.{◌∙◌}
use Rattle.shx_outside.specs.declared.role.Role.{Role}
use Rattle.shx_outside.specs.declared.role.Role.TheVariants.{Script}
use Rattle.shx_outside.specs.Counted.{Rose}
use Rattle.shx_outside.specs.Outside.{InputState}
use Rattle.shx_outside.specs.Told.{Took, StaysAdmitted}
use Rattle.shx_outside.proofs.ToldLemmas.{StaysAdmitted-then}
use Rattle.text_input.specs.declared.read_fault.ReadFault.{ReadFault}
use Rattle.text_input.specs.declared.read_fault.ReadFault.TheVariants.{Input, Memory}
use Rattle.text_input.specs.declared.script_reader.Line.{Line}
use Rattle.text_input.specs.LineRead.{IsLineRead}
use Rattle.text_input.specs.ScriptReader.{ReaderState, left_of, ReadsLine, GoesOn}
use Rattle.text_input.proofs.CountLemmas.{GoesOn-then}
use Rattle.text_input.proofs.LinePartLemmas.{Gathers, Gathers-filled, nothing_pending}

-- a part of a line was read, and no call failed
pub record HasGathered (before : ReaderState) (inputs : InputState) (reader : ReaderState)
    (inputs' : InputState) (admits admits' : Role → List ℕ → Type 0) (most : ℕ) (kept : List ℕ) : Type 0 where
  pub gathers : Gathers (left_of before (inputs.rest Script)) (left_of reader (inputs'.rest Script))
      before.budget reader.budget most kept
  pub goes_on : GoesOn before inputs reader inputs'
  pub quiet : inputs'.faults ≡ inputs.faults
  pub admitted : StaysAdmitted admits admits'

module _ {before mid after : ReaderState} {s0 s1 s2 : InputState} {a0 a1 a2 : Role → List ℕ → Type 0}
    {most : ℕ} {kept : List ℕ} (has : HasGathered before s0 mid s1 a0 a1 most kept)
    (took : Took (left_of mid (s1.rest Script)) (left_of after (s2.rest Script)) [])
    (budget : after.budget ≡ mid.budget) (goes : GoesOn mid s1 after s2) (admitted : StaysAdmitted a1 a2)
  where
    filled : Gathers (left_of before (s0.rest Script)) (left_of after (s2.rest Script))
        before.budget after.budget most kept
    filled = Gathers-filled _ _ _ _ _ _ _ _ has.gathers took budget

    -- more was read ahead
    pub HasGathered-filled : s2.faults ≡ s1.faults → HasGathered before s0 after s2 a0 a2 most kept
    HasGathered-filled quiet = record {
      gathers = filled;
      goes_on = GoesOn-then has.goes_on goes;
      quiet = quiet ∙ has.quiet;
      admitted = StaysAdmitted-then has.admitted admitted;
    }

    -- the inputs failed, and nothing is pending
    pub IsLineRead-failed : (result : Result Line ReadFault) → after.pending ≡ [] → Rose s1.faults s2.faults
        → (mid.ended ≡ true → ⊥) → IsErrAnd result (λ fault. fault ≡ Input)
        → IsLineRead before s0 after s2 a0 a2 most result
    IsLineRead-failed (Ok line) none rose unended is = absurd is
    IsLineRead-failed (Err fault) none rose unended is = rw is record {
      line = tt;
      stopped = λ _. record {
        pending = none;
        told = λ bytes told.
            let front = filled.took.told bytes told in
            record {
              part = filled.taken;
              left = front.0;
              whole = front.2;
              rest_is = nothing_pending after (s2.rest Script) front.0 none front.1;
              plain = filled.plain;
            };
      };
      goes_on = GoesOn-then has.goes_on goes;
      not_too_long = λ same. cc;
      ended = λ ended. absurd (unended (has.goes_on.stays_ended ended));
      cause = subst (λ n. Rose n s2.faults) has.quiet rose;
      admitted = StaysAdmitted-then has.admitted admitted;
    }

-- memory was wanting for a part of it
pub IsLineRead-memory : {before reader : ReaderState} {s0 s1 : InputState} {a0 a1 : Role → List ℕ → Type 0}
    {most : ℕ} {kept : List ℕ} (after : ReaderState) (result : Result Line ReadFault)
    → HasGathered before s0 reader s1 a0 a1 most kept → after ≡ reader
    → IsErrAnd result (λ fault. fault ≡ Memory)
    → IsLineRead before s0 after s1 a0 a1 most result
IsLineRead-memory after (Ok line) has same is = absurd is
IsLineRead-memory {before = before} {s0 = s0} {s1 = s1} after (Err fault) has same is = rw is record {
  line = tt;
  stopped = λ is. cc;
  goes_on = subst (λ reader. GoesOn before s0 reader s1) (sym same) has.goes_on;
  not_too_long = λ same. cc;
  ended = λ ended same. cc;
  cause = has.quiet;
  admitted = has.admitted;
}

-- a line was read, or the end
pub IsLineRead-line : {before reader after : ReaderState} {s0 s1 : InputState}
    {a0 a1 : Role → List ℕ → Type 0} {most : ℕ} {kept : List ℕ} (line : Line)
    → HasGathered before s0 reader s1 a0 a1 most kept → GoesOn before s0 after s1
    → ReadsLine before (s0.rest Script) after (s1.rest Script) most line
    → IsLineRead before s0 after s1 a0 a1 most (Ok line)
IsLineRead-line line has goes reads = record {
  line = reads;
  stopped = tt;
  goes_on = goes;
  not_too_long = tt;
  ended = λ _. tt;
  cause = has.quiet;
  admitted = has.admitted;
}
