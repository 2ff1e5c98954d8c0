-- How many bytes of a script were taken: no more than one past its limit.
use Rattle.std.proofs.Common.{◌≡◌, ℕ, ◌+◌, List, [], ◌++◌, Option, Some, length, refl, sym, ap}
use Rattle.std.proofs.Common.{◌∙◌}
use Rattle.std.proofs.Common.{arith, append_assoc, length-append}
use Rattle.std.proofs.lemmas.Option.{same_Some}
use Rattle.shx_outside.specs.declared.role.Role.TheVariants.{Script}
use Rattle.shx_outside.specs.Outside.{InputState}
use Rattle.shx_outside.proofs.ToldLemmas.{OthersStay-same, OthersStay-then}
use Rattle.text_input.specs.inner.LineParts.{TookPart}
use Rattle.text_input.specs.ScriptReader.{ReaderState, new_reader, IsCounted, KeepsCount}
use Rattle.text_input.specs.ScriptReader.{GoesOn}
use Rattle.text_input.specs.TextRead.{TakesWithin}

-- a new reader, over a script of which nothing was taken
pub IsCounted-start : (script : List ℕ) (limit : ℕ) (rest : Option (List ℕ))
    → rest ≡ Some script → IsCounted script limit (new_reader limit) rest
IsCounted-start script limit rest is = record {
  done = [];
  left = script;
  rest_is = is;
  whole = refl;
  spent = omega arith;
  ahead = omega arith;
}

-- no more than one byte past the limit was taken
pub IsCounted-within : (script : List ℕ) (limit : ℕ) (reader : ReaderState) (rest : Option (List ℕ))
    → IsCounted script limit reader rest → TakesWithin (Some script) rest limit
IsCounted-within script limit reader rest counted = record {
  front = λ text is. record {
    taken = counted.done ++ reader.pending;
    left = counted.left;
    whole =
        sym (same_Some script text is)
        ∙ counted.whole
        ∙ sym (append_assoc counted.done reader.pending counted.left);
    rest_is = counted.rest_is;
    within = omega (arith, length-append counted.done reader.pending, counted.spent, counted.ahead);
  };
}

KeepsCount-then : {r0 r1 r2 : ReaderState} {left0 left1 left2 : Option (List ℕ)}
    → KeepsCount r0 left0 r1 left1 → KeepsCount r1 left1 r2 left2 → KeepsCount r0 left0 r2 left2
KeepsCount-then first next =
    record { each = λ script limit counted. next.each script limit (first.each script limit counted) }

-- pending bytes became a part of a line
KeepsCount-part : (before after : ReaderState) (rest : Option (List ℕ))
    (behind kept kept' : List ℕ) (most : ℕ) → TookPart before after behind kept kept' most
    → KeepsCount before rest after rest
KeepsCount-part before after rest behind kept kept' most t = record {
  each = λ script limit counted.
      let done = counted.done ++ (t.part ++ behind) in
      let sizes : length before.pending ≡ length t.part + (length behind + length after.pending) =
      omega (
        arith,
        ap length t.pending,
        length-append t.part (behind ++ after.pending),
        length-append behind after.pending,
      ) in
      record {
        done = done;
        left = counted.left;
        rest_is = counted.rest_is;
        whole =
            counted.whole
            ∙ ap (λ xs. counted.done ++ (xs ++ counted.left)) t.pending
            ∙ simp append_assoc;
        spent = omega (
          arith,
          length-append counted.done (t.part ++ behind),
          length-append t.part behind,
          counted.spent,
          t.budget,
        );
        ahead = omega (arith, sizes, counted.ahead, t.budget);
      };
}

-- ---- a reader that goes on

pub GoesOn-then : {r0 r1 r2 : ReaderState} {s0 s1 s2 : InputState}
    → GoesOn r0 s0 r1 s1 → GoesOn r1 s1 r2 s2 → GoesOn r0 s0 r2 s2
GoesOn-then first next = record {
  opened = next.opened;
  opens = next.opens ∙ first.opens;
  whole = next.whole ∙ first.whole;
  met = next.met;
  stays_ended = λ ended. next.stays_ended (first.stays_ended ended);
  kept = KeepsCount-then first.kept next.kept;
  others = OthersStay-then first.others next.others;
  texts = record { each = λ name. next.texts.each name ∙ first.texts.each name };
}

-- pending bytes became a part of a line
pub GoesOn-part : {r0 before : ReaderState} {s0 inputs : InputState} (after : ReaderState)
    (behind kept kept' : List ℕ) (most : ℕ)
    → GoesOn r0 s0 before inputs → after.ended ≡ before.ended
    → TookPart before after behind kept kept' most → GoesOn r0 s0 after inputs
GoesOn-part {before = before} {inputs = inputs} after behind kept kept' most goes ended part =
    GoesOn-then goes (record {
      opened = goes.opened;
      opens = refl;
      whole = refl;
      met = record { told = λ is. goes.met.told (sym ended ∙ is) };
      stays_ended = λ is. ended ∙ is;
      kept = KeepsCount-part before after (inputs.rest Script) behind kept kept' most part;
      others = OthersStay-same Script inputs;
      texts = record { each = λ name. refl };
    })
