-- What the lines that are left of a script may load is admitted, while lines are taken of it.
use Rattle.std.proofs.Common.{◌≡◌, ℕ, Bool, List, [], ◌∷◌, Option, None, Some, inl, inr, refl, sym, subst}
use Rattle.std.specs.Prelude.{Contains}
use Rattle.std.specs.Option.{option_map}
use Rattle.shx_outside.specs.declared.flags.Flags.{Flags}
use Rattle.shx_outside.specs.Outside.{InputState}
use Rattle.shx_outside.specs.Told.{SameTexts}
use Rattle.shx_term.specs.declared.limits.Limits.{Limits}
use Rattle.shx_term.proofs.MemberLemmas.{Contains-cases, Contains-head, Contains-tail, none_in_empty}
use Rattle.text_input.specs.Lines.{script_lines}
use Rattle.text_input.specs.ScriptReader.{TookLine}
use Rattle.script_run.specs.Admitted.{AreAdmitted, LoadsText, MayBeBuilt, MayLoad}
use Rattle.script_run.specs.Loaded.{Library, library_of}

-- the texts are the same ones
pub library_same : (base base' : List ℕ) (inputs inputs' : InputState) → base' ≡ base
    → SameTexts inputs inputs' → library_of base' inputs' ≡ library_of base inputs
library_same base base' inputs inputs' same texts =
    λ i. record { base = same i; text = λ name. texts.each name i }

-- ---- what may be loaded

module _ (limits : Limits) (budget budget' : ℕ) (ended : Bool) (left' : Option (List ℕ)) where
  -- a text that the line may load which was taken may be loaded
  pub may_load_first : (line : List ℕ) (left : Option (List ℕ))
      → TookLine left left' budget budget' ended (λ first. first ≡ line) → (name : List ℕ)
      → MayLoad limits (Some (line ∷ [])) name → MayLoad limits (option_map (script_lines budget) left) name
  may_load_first line None took name loads = tt
  may_load_first line (Some bytes) took name loads =
      let taken = took.told bytes refl in
      let behind = script_lines budget' taken.rest in
      record {
        line = loads.line;
        stands = subst (λ lines. Contains lines loads.line) (sym taken.lines)
            (elim (Contains-cases line loads.line [] loads.stands) [
              | inl is ↦ rw (is, ← taken.line) (Contains-head taken.first behind)
              | inr none ↦ absurd (none_in_empty loads.line none)
            ]);
        document = loads.document;
        read = loads.read;
      }

  -- and so may one that a line behind it may load
  pub may_load_behind : (P : List ℕ → Type 0) (left : Option (List ℕ))
      → TookLine left left' budget budget' ended P → (name : List ℕ)
      → MayLoad limits (option_map (script_lines budget') left') name
      → MayLoad limits (option_map (script_lines budget) left) name
  may_load_behind P None took name loads = tt
  may_load_behind P (Some bytes) took name loads =
      let taken = took.told bytes refl in
      let behind : LoadsText limits (script_lines budget' taken.rest) name =
      subst (λ left. MayLoad limits (option_map (script_lines budget') left) name) taken.left loads in
      record {
        line = behind.line;
        stands = subst (λ lines. Contains lines behind.line) (sym taken.lines)
            (Contains-tail taken.first behind.line (script_lines budget' taken.rest) behind.stands);
        document = behind.document;
        read = behind.read;
      }

-- ---- what is admitted

module _ (limits : Limits) {builds builds' : Flags → List ℕ → Type 0}
    (more : (flags : Flags) (text : List ℕ) → builds flags text → builds' flags text) where
  built_still : (base : List ℕ) (text : Option (List ℕ)) → MayBeBuilt limits base builds text
      → MayBeBuilt limits base builds' text
  built_still base None built = λ flags text. more flags text (built flags text)
  built_still base (Some bytes) built = λ document end read held.
      let all = built document end read held in
      record { each = λ d value states. more _ _ (all.each d value states) }

  -- where as much may be opened and built, and no more is loaded
  pub AreAdmitted-still : (library library' : Library) {opens opens' : List ℕ → Type 0}
      (lines lines' : Option (List (List ℕ))) → library' ≡ library
      → ((name : List ℕ) → opens name → opens' name)
      → ((name : List ℕ) → MayLoad limits lines' name → MayLoad limits lines name)
      → AreAdmitted limits library opens builds lines → AreAdmitted limits library' opens' builds' lines'
  AreAdmitted-still library library' {opens = opens} {opens' = opens'} lines lines' same opened fewer
      admitted =
      subst (λ (l : Library). AreAdmitted limits l opens' builds' lines') (sym same)
      (λ name loads. let is = admitted name (fewer name loads) in record {
        opened = opened name is.opened;
        built = built_still library.base (library.text name) is.built;
      })
