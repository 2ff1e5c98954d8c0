-- What a run opens and takes, text by text.
use Rattle.std.proofs.Common.{◌≡◌, ◌≢◌, ℕ, ◌+◌, ◌≤◌, ◌<◌, true, List, Option, None, Some, sym, subst, arith}
use Rattle.std.proofs.Common.{refl, ◌∙◌, inl, inr, Result, Ok, Err}
use Rattle.std.specs.Prelude.{OnOk}
use Rattle.shx_outside.specs.declared.role.Role.{Role}
use Rattle.shx_outside.specs.declared.role.Role.TheVariants.{Shapes, Data, Script}
use Rattle.shx_outside.specs.Counted.{Rose}
use Rattle.shx_outside.specs.Outside.{InputState}
use Rattle.shx_outside.specs.Told.{IsAtEnd, OthersStay, SameTexts}
use Rattle.shx_term.specs.declared.limits.Limits.{Limits}
use Rattle.text_input.specs.TextRead.{IsTooLong, TakesWithin}
use Rattle.script_run.specs.Hosts.{ReadsShapesOut, TakesShapesWithin}
use Rattle.command_words.specs.Asked.{Files}
use Rattle.shacl_run.specs.declared.status.Status.{Status}
use Rattle.shacl_run.specs.declared.status.Status.TheVariants.{BadWords}
use Rattle.shacl_run.specs.inner.Prepared.{AreReadToEnd, PreparesWithin}
use Rattle.shacl_run.specs.inner.Serving.{ServesInputs}
use Rattle.shacl_run.specs.RunClauses.{IsOpened, IsOpenedBy, OpensInTurn, ReadsAll, ScriptIsOpened}
use Rattle.shacl_run.specs.RunClauses.{StaysWithin}
use Rattle.shacl_run.specs.Status.{IsReported}
use Rattle.shacl_run.proofs.GoesOnLemmas.{SameTexts-then}

-- one text was opened at most once, and no more of it taken than one byte past its limit
pub record ReadsOne (limit : ℕ) (role : Role) (before after : InputState) : Type 0 where
  pub once : after.opens role ≤ before.opens role + 1
  pub within : IsOpenedBy before after role → TakesWithin (after.whole role) (after.rest role) limit
  pub within_open : after.opened role ≡ true → TakesWithin (after.whole role) (after.rest role) limit
  pub others : OthersStay role before after

-- where nothing was opened, nothing was taken
pub not_opened : (n : ℕ) → n < n → ⊥
not_opened n more = omega (arith, more)

-- ---- while nothing was opened

pub OpensInTurn-still : (at : InputState) (status : Status) → OpensInTurn at at status
OpensInTurn-still at status = record {
  once = λ role other. omega arith;
  data_text = λ opened. absurd (not_opened (at.opens Data) opened);
  script = λ opened. absurd (not_opened (at.opens Script) opened);
  no_words = λ is role. refl;
}

pub StaysWithin-still : (limits : Limits) (at : InputState) → StaysWithin limits at at
StaysWithin-still limits at = record {
  shapes_text = λ opened. absurd (not_opened (at.opens Shapes) opened);
  data_text = λ opened. absurd (not_opened (at.opens Data) opened);
  script = λ opened. absurd (not_opened (at.opens Script) opened);
}

-- ---- a text of another role

-- what was taken of the shapes text stays
pub TakesShapesWithin-others : {role : Role} {old new : InputState} (most : ℕ) → Shapes ≢ role
    → OthersStay role old new → TakesShapesWithin most old → TakesShapesWithin most new
TakesShapesWithin-others {old = old} {new = new} most apart others within = λ opened.
    subst (λ whole. TakesWithin whole (new.rest Shapes) most) (sym (others.whole Shapes apart))
    (subst (λ rest. TakesWithin (old.whole Shapes) rest most) (sym (others.rest Shapes apart))
    (within (sym (others.opened Shapes apart) ∙ opened)))

ReadsShapesOut-others : {role : Role} {old new : InputState} (most : ℕ) → Shapes ≢ role
    → OthersStay role old new → ReadsShapesOut most old → ReadsShapesOut most new
ReadsShapesOut-others most apart others out = elim out [
  | inl end ↦ inl (subst IsAtEnd (sym (others.rest Shapes apart)) end)
  | inr long ↦ inr (subst (λ whole. IsTooLong whole most) (sym (others.whole Shapes apart)) long)
]

-- ---- what a script does to the inputs

pub ServesInputs-script : (limits : Limits) (status : Status) (old new : InputState)
    → OthersStay Script old new → SameTexts old new → ServesInputs limits old new status
ServesInputs-script limits status old new others texts = record {
  data_opens = others.opens Data (λ is. cc);
  data_whole = others.whole Data (λ is. cc);
  data_rest = others.rest Data (λ is. cc);
  shapes_opens = λ count rose. subst (Rose count) (sym (others.opens Shapes (λ is. cc))) rose;
  shapes_within = TakesShapesWithin-others {role = Script} limits.text (λ is. cc) others;
  shapes_out = λ reported. ReadsShapesOut-others {role = Script} limits.text (λ is. cc) others;
  texts = texts;
}

pub ServesInputs-same : (limits : Limits) (status : Status) (at : InputState)
    → ServesInputs limits at at status
ServesInputs-same limits status at = record {
  data_opens = refl;
  data_whole = refl;
  data_rest = refl;
  shapes_opens = λ count rose. rose;
  shapes_within = λ within. within;
  shapes_out = λ reported out. out;
  texts = record { each = λ name. refl };
}

pub ServesInputs-then : {limits : Limits} {status : Status} {s0 s1 s2 : InputState}
    → ServesInputs limits s0 s1 status → ServesInputs limits s1 s2 status → ServesInputs limits s0 s2 status
ServesInputs-then first next = record {
  data_opens = next.data_opens ∙ first.data_opens;
  data_whole = next.data_whole ∙ first.data_whole;
  data_rest = next.data_rest ∙ first.data_rest;
  shapes_opens = λ count rose. next.shapes_opens count (first.shapes_opens count rose);
  shapes_within = λ within. next.shapes_within (first.shapes_within within);
  shapes_out = λ reported out. next.shapes_out reported (first.shapes_out reported out);
  texts = SameTexts-then first.texts next.texts;
}

-- ---- the shapes text and the data text

module _ (limit : ℕ) (before mid : InputState) (shapes : ReadsOne limit Shapes before mid) where
  data_unopened : mid.opens Data ≡ before.opens Data
  data_unopened = shapes.others.opens Data (λ is. cc)

  script_unopened : mid.opens Script ≡ before.opens Script
  script_unopened = shapes.others.opens Script (λ is. cc)

  pub no_data : IsOpenedBy before mid Data → ⊥
  no_data opened = omega (arith, opened, data_unopened)

  -- only the shapes text was read
  pub PreparesWithin-shapes : PreparesWithin limit before mid
  PreparesWithin-shapes = record {
    once = once;
    in_turn = λ opened. absurd (no_data opened);
    no_script = script_unopened;
    shapes_within = shapes.within_open;
    data_within = λ opened. absurd (no_data opened);
  } where
    once : (role : Role) → mid.opens role ≤ before.opens role + 1
    once Shapes = shapes.once
    once Data = omega (arith, data_unopened)
    once Script = omega (arith, script_unopened)

  -- and then the data text
  module _ (after : InputState) (data_text : ReadsOne limit Data mid after) where
    shapes_opens : after.opens Shapes ≡ mid.opens Shapes
    shapes_opens = data_text.others.opens Shapes (λ is. cc)

    script_opens : after.opens Script ≡ mid.opens Script
    script_opens = data_text.others.opens Script (λ is. cc)

    shapes_opened : IsOpened before mid Shapes → IsOpened before after Shapes
    shapes_opened opened = subst (Rose (before.opens Shapes)) (sym shapes_opens) opened

    pub PreparesWithin-both : IsOpened before mid Shapes → PreparesWithin limit before after
    PreparesWithin-both opened = record {
      once = once;
      in_turn = λ _. shapes_opened opened;
      no_script = omega (arith, script_opens, script_unopened);
      shapes_within = TakesShapesWithin-others {role = Data} limit (λ is. cc) data_text.others
          shapes.within_open;
      data_within = λ by. data_text.within (omega (arith, by, data_unopened));
    } where
      once : (role : Role) → after.opens role ≤ before.opens role + 1
      once Shapes = omega (arith, shapes.once, shapes_opens)
      once Data = omega (arith, data_text.once, data_unopened)
      once Script = omega (arith, script_unopened, script_opens)

    pub AreReadToEnd-both : {T E : Type 0} (result : Result T E) → IsOpened before mid Shapes
        → IsOpened mid after Data → IsAtEnd (mid.rest Shapes) → IsAtEnd (after.rest Data)
        → OnOk result (AreReadToEnd before after)
    AreReadToEnd-both (Err e) opened data_opened end data_end = tt
    AreReadToEnd-both (Ok value) opened data_opened end data_end = record {
      shapes_opened = shapes_opened opened;
      data_opened = subst (λ n. Rose n (after.opens Data)) data_unopened data_opened;
      shapes_end = subst IsAtEnd (sym (data_text.others.rest Shapes (λ is. cc))) end;
      data_end = data_end;
    }

-- ---- the whole run

module _ (limits : Limits) (before mid : InputState) (prepares : PreparesWithin limits.text before mid) where
  -- no script was named, or none was reached
  pub no_script : IsOpenedBy before mid Script → ⊥
  no_script opened = omega (arith, opened, prepares.no_script)

  pub OpensInTurn-prepared : (status : Status) → status ≢ BadWords → OpensInTurn before mid status
  OpensInTurn-prepared status words = record {
    once = λ role other. prepares.once role;
    data_text = prepares.in_turn;
    script = λ opened. absurd (no_script opened);
    no_words = λ is. absurd (words is);
  }

  pub StaysWithin-prepared : StaysWithin limits before mid
  StaysWithin-prepared = record {
    shapes_text = λ by. prepares.shapes_within;
    data_text = prepares.data_within;
    script = λ opened. absurd (no_script opened);
  }

  -- the script was read behind the two texts
  module _ (last : InputState) (status : Status) (serves : ServesInputs limits mid last status) where
    pub data_before : IsOpenedBy before last Data → IsOpenedBy before mid Data
    data_before opened = omega (arith, opened, serves.data_opens)

    pub script_behind : IsOpenedBy before last Script → IsOpenedBy mid last Script
    script_behind opened = omega (arith, opened, prepares.no_script)

    shapes_still : IsOpened before mid Shapes → IsOpened before last Shapes
    shapes_still opened = serves.shapes_opens (before.opens Shapes) opened

    data_still : IsOpened before mid Data → IsOpened before last Data
    data_still opened = subst (Rose (before.opens Data)) (sym serves.data_opens) opened

    pub OpensInTurn-served : last.opens Script ≤ mid.opens Script + 1 → IsOpened before mid Data
        → status ≢ BadWords → OpensInTurn before last status
    OpensInTurn-served script_once opened words = record {
      once = once;
      data_text = λ by. shapes_still (prepares.in_turn (data_before by));
      script = λ _. data_still opened;
      no_words = λ is. absurd (words is);
    } where
      once : (role : Role) → role ≢ Shapes → last.opens role ≤ before.opens role + 1
      once Shapes other = absurd (other refl)
      once Data other = omega (arith, prepares.once Data, serves.data_opens)
      once Script other = omega (arith, prepares.no_script, script_once)

    data_taken : TakesWithin (mid.whole Data) (mid.rest Data) limits.text
        → TakesWithin (last.whole Data) (last.rest Data) limits.text
    data_taken within =
        subst (λ whole. TakesWithin whole (last.rest Data) limits.text) (sym serves.data_whole)
        (subst (λ rest. TakesWithin (mid.whole Data) rest limits.text) (sym serves.data_rest) within)

    pub StaysWithin-served : (IsOpenedBy mid last Script
        → TakesWithin (last.whole Script) (last.rest Script) limits.script) → StaysWithin limits before last
    StaysWithin-served script_within = record {
      shapes_text = λ by. serves.shapes_within prepares.shapes_within;
      data_text = λ by. data_taken (prepares.data_within (data_before by));
      script = λ by. script_within (script_behind by);
    }

    script_opened : (name : Option (List ℕ)) → ScriptIsOpened name mid last
        → ScriptIsOpened name before last
    script_opened None opened = tt
    script_opened (Some name) opened =
        subst (λ n. Rose n (last.opens Script)) prepares.no_script opened

    pub ReadsAll-served : (files : Files) → IsReported status → AreReadToEnd before mid
        → ScriptIsOpened files.script_file mid last
        → (IsOpenedBy mid last Script → IsAtEnd (last.rest Script)) → ReadsAll limits files before last
    ReadsAll-served files reported read opened end = record {
      shapes_text = shapes_still read.shapes_opened;
      data_text = data_still read.data_opened;
      script = script_opened files.script_file opened;
      to_end = record {
        each = to_end;
        shapes_text = λ by. serves.shapes_out reported (inl read.shapes_end);
      };
    } where
      to_end : (role : Role) → role ≢ Shapes → IsOpenedBy before last role → IsAtEnd (last.rest role)
      to_end Shapes other by = absurd (other refl)
      to_end Data other by = subst IsAtEnd (sym serves.data_rest) read.data_end
      to_end Script other by = end (script_behind by)
