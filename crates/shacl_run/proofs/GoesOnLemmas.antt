-- What the lines of a script do to the inputs.
use Rattle.std.proofs.Common.{◌≡◌, ℕ, ◌+◌, Bool, List, Option, true, false, ◌==◌, if◌then◌else◌, Result}
use Rattle.std.proofs.Common.{refl, sym, ◌∙◌, subst, inl, inr, arith}
use Rattle.shx_outside.specs.Counted.{Rose, last_count, next_count}
use Rattle.shx_outside.specs.declared.role.Role.TheVariants.{Data, Shapes, Script}
use Rattle.shx_outside.specs.Outside.{InputState}
use Rattle.shx_outside.specs.Told.{SameTexts}
use Rattle.shx_term.specs.declared.limits.Limits.{Limits}
use Rattle.text_input.specs.ScriptReader.{GoesOn, IsCounted, MetEnd, ReaderState, TookLine, left_of}
use Rattle.text_input.specs.ScriptReader.{new_reader}
use Rattle.text_input.specs.TextRead.{TakesWithin}
use Rattle.text_input.proofs.CountLemmas.{IsCounted-start, IsCounted-within}
use Rattle.script_run.specs.Hosts.{LoadsWithin, ReadsShapesOut, TakesShapesWithin}
use Rattle.shacl_run.specs.declared.status.Status.{Status}
use Rattle.shacl_run.specs.inner.Serving.{ServesInputs, ServesOn}
use Rattle.shacl_run.specs.Status.{IsReported}

-- ---- counts

pub Rose-then : {x y z : ℕ} → Rose x y → Rose y z → Rose x z
Rose-then {x = x} {y = y} {z = z} first next = record {
  later = omega (arith, first.later, next.later);
  more = elim first.more [
    | inl more ↦ inl (omega (arith, more, next.later))
    | inr last ↦ elim next.more [
      | inl more ↦ inl (omega (arith, first.later, more))
      | inr end ↦ inr end
    ]
  ];
}

-- a count that rose did so where it rises once more
Rose-next : (count n : ℕ) → Rose count n → Rose count (next_count n)
Rose-next count n rose =
    elim (n == last_count) as (λ b. (n == last_count) ≡ b → Rose count (if b then n else n + 1)) [
      | true ↦ λ last. rose
      | false ↦ λ _. record { later = omega (arith, rose.later); more = inl (omega (arith, rose.later)) }
    ] refl

-- ---- what names hold

pub SameTexts-then : {s0 s1 s2 : InputState} → SameTexts s0 s1 → SameTexts s1 s2 → SameTexts s0 s2
SameTexts-then first next = record { each = λ name. next.each name ∙ first.each name }

-- ---- the text of shapes that is open

-- another role changed
module _ (most : ℕ) (old new : InputState) (opened : new.opened Shapes ≡ old.opened Shapes)
    (whole : new.whole Shapes ≡ old.whole Shapes) (rest : new.rest Shapes ≡ old.rest Shapes) where
  within_still : TakesShapesWithin most old → TakesShapesWithin most new
  within_still within is = rw (whole, rest) (within (sym opened ∙ is))

  out_still : ReadsShapesOut most old → ReadsShapesOut most new
  out_still out = rw (whole, rest) out

-- ---- a reader goes on

pub ServesOn-start : (limits : Limits) (limit : ℕ) (inputs : InputState) → inputs.opened Script ≡ true
    → ServesOn limits (new_reader limit) inputs (new_reader limit) inputs
ServesOn-start limits limit inputs opened = record {
  opened = opened;
  opens = refl;
  whole = refl;
  met = record { told = λ met. cc };
  kept = record { each = λ script limit counted. counted };
  data_opens = refl;
  data_whole = refl;
  data_rest = refl;
  shapes_opens = λ count rose. rose;
  shapes_within = λ within. within;
  texts = record { each = λ name. refl };
}

module _ (limits : Limits) {r0 r1 : ReaderState} {s0 s1 : InputState} where
  -- in its script
  pub ServesOn-read : GoesOn r0 s0 r1 s1 → ServesOn limits r0 s0 r1 s1
  ServesOn-read goes = record {
    opened = goes.opened;
    opens = goes.opens;
    whole = goes.whole;
    met = goes.met;
    kept = goes.kept;
    data_opens = goes.others.opens Data (λ is. cc);
    data_whole = goes.others.whole Data (λ is. cc);
    data_rest = goes.others.rest Data (λ is. cc);
    shapes_opens = λ count rose. subst (Rose count) (sym (goes.others.opens Shapes (λ is. cc))) rose;
    shapes_within = within_still limits.text s0 s1 (goes.others.opened Shapes (λ is. cc))
        (goes.others.whole Shapes (λ is. cc)) (goes.others.rest Shapes (λ is. cc));
    texts = goes.texts;
  }

  pub read_out_still : GoesOn r0 s0 r1 s1 → ReadsShapesOut limits.text s0 → ReadsShapesOut limits.text s1
  read_out_still goes = out_still limits.text s0 s1 (goes.others.opened Shapes (λ is. cc))
      (goes.others.whole Shapes (λ is. cc)) (goes.others.rest Shapes (λ is. cc))

-- and then a text of shapes is loaded
pub ServesOn-load : (limits : Limits) {T E : Type 0} {r0 r1 : ReaderState} {s0 s1 s2 : InputState}
    (result : Result T E) → ServesOn limits r0 s0 r1 s1 → LoadsWithin limits.text s1 s2 result
    → ServesOn limits r0 s0 r1 s2
ServesOn-load limits {r0 = r0} {r1 = r1} {s0 = s0} {s1 = s1} {s2 = s2} result on loads =
    let rest_is : s2.rest Script ≡ s1.rest Script = loads.others.rest Script (λ is. cc) in
    record {
      opened = loads.others.opened Script (λ is. cc) ∙ on.opened;
      opens = loads.others.opens Script (λ is. cc) ∙ on.opens;
      whole = loads.others.whole Script (λ is. cc) ∙ on.whole;
      met = subst (MetEnd r1.ended) (sym rest_is) on.met;
      kept = record {
        each = λ script limit counted.
            subst (IsCounted script limit r1) (sym rest_is) (on.kept.each script limit counted);
      };
      data_opens = loads.others.opens Data (λ is. cc) ∙ on.data_opens;
      data_whole = loads.others.whole Data (λ is. cc) ∙ on.data_whole;
      data_rest = loads.others.rest Data (λ is. cc) ∙ on.data_rest;
      shapes_opens = λ count rose.
          let before = on.shapes_opens count rose in
          elim loads.opens [
            | inl same ↦ subst (Rose count) (sym same) before
            | inr next ↦ subst (Rose count) (sym next) (Rose-next count (s1.opens Shapes) before)
          ];
      shapes_within = λ within. loads.within (on.shapes_within within);
      texts = SameTexts-then on.texts loads.texts;
    }

-- what is left of the script stays, and so does the line that was taken of it
module _ {most : ℕ} {s0 s1 : InputState} {T E : Type 0} {result : Result T E}
    (loads : LoadsWithin most s0 s1 result) where
  pub TookLine-load : {left : Option (List ℕ)} {budget budget' : ℕ} {ended : Bool} {P : List ℕ → Type 0}
      (reader : ReaderState) → TookLine left (left_of reader (s0.rest Script)) budget budget' ended P
      → TookLine left (left_of reader (s1.rest Script)) budget budget' ended P
  TookLine-load {left = left} {budget = budget} {budget' = budget'} {ended = ended} {P = P} reader took =
      subst (λ rest. TookLine left (left_of reader rest) budget budget' ended P)
      (sym (loads.others.rest Script (λ is. cc))) took

pub ServesOn-then : {limits : Limits} {r0 r1 r2 : ReaderState} {s0 s1 s2 : InputState}
    → ServesOn limits r0 s0 r1 s1 → ServesOn limits r1 s1 r2 s2 → ServesOn limits r0 s0 r2 s2
ServesOn-then first next = record {
  opened = next.opened;
  opens = next.opens ∙ first.opens;
  whole = next.whole ∙ first.whole;
  met = next.met;
  kept = record {
    each = λ script limit counted. next.kept.each script limit (first.kept.each script limit counted);
  };
  data_opens = next.data_opens ∙ first.data_opens;
  data_whole = next.data_whole ∙ first.data_whole;
  data_rest = next.data_rest ∙ first.data_rest;
  shapes_opens = λ count rose. next.shapes_opens count (first.shapes_opens count rose);
  shapes_within = λ within. next.shapes_within (first.shapes_within within);
  texts = SameTexts-then first.texts next.texts;
}

-- ---- and ends

module _ (limits : Limits) {r0 r1 : ReaderState} {s0 s1 : InputState} (on : ServesOn limits r0 s0 r1 s1) where
  pub ServesInputs-end : (status : Status)
      → (IsReported status → ReadsShapesOut limits.text s0 → ReadsShapesOut limits.text s1)
      → ServesInputs limits s0 s1 status
  ServesInputs-end status out = record {
    data_opens = on.data_opens;
    data_whole = on.data_whole;
    data_rest = on.data_rest;
    shapes_opens = on.shapes_opens;
    shapes_within = on.shapes_within;
    shapes_out = out;
    texts = on.texts;
  }

-- a script that was read on to here is read within its limit
pub TakesWithin-read : {limits : Limits} {reader : ReaderState} {inputs0 inputs : InputState} (limit : ℕ)
    → ServesOn limits (new_reader limit) inputs0 reader inputs
    → TakesWithin (inputs0.rest Script) (inputs.rest Script) limit
TakesWithin-read {inputs0 = inputs0} limit on = record {
  front = λ text is.
      let counted = on.kept.each text limit (IsCounted-start text limit (inputs0.rest Script) is) in
      (IsCounted-within text limit _ _ counted).front text refl;
}
