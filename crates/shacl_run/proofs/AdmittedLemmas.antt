-- Which patterns and texts are admitted.
use Rattle.std.specs.Prelude.{◌≡◌, ℕ, List, Option, Some, None}
use Rattle.std.proofs.Common.{subst}
use Rattle.shx_outside.specs.declared.flags.Flags.{Flags}
use Rattle.shx_outside.specs.declared.role.Role.{Role}
use Rattle.shx_outside.specs.declared.role.Role.TheVariants.{Shapes}
use Rattle.shx_outside.specs.Told.{StaysAdmitted}
use Rattle.shx_term.specs.declared.limits.Limits.{Limits}
use Rattle.shape_text.specs.ShapesReadings.{PatternsAreAdmitted}
use Rattle.script_run.specs.Admitted.{AreAdmitted, MayBeBuilt, MayLoad}
use Rattle.script_run.specs.Loaded.{Library}
use Rattle.shacl_run.specs.Loads.{LoadsAreAdmitted, words_library}
use Rattle.shacl_run.specs.RunClauses.{PatternsAreAdmittedBy}
use Rattle.command_words.specs.Asked.{Asked}
use Rattle.shacl_run.proofs.LineAdmitsLemmas.{AreAdmitted-still}

-- ---- a host that admits every pattern admits those of any shapes text

module _ (limits : Limits) (admits : Flags → List ℕ → Type 0)
    (all : (flags : Flags) (text : List ℕ) → admits flags text) where
  admitted_in : (base : List ℕ) (text : Option (List ℕ)) → PatternsAreAdmitted limits base text admits
  admitted_in base None = all
  admitted_in base (Some bytes) = λ document end read. record { each = λ d value states. all _ _ }

  pub all_admitted : (words : Option Asked) (texts : List ℕ → Option (List ℕ))
      → PatternsAreAdmittedBy limits words texts admits
  all_admitted None texts = tt
  all_admitted (Some words) texts = admitted_in words.base (texts words.files.shapes_file)

-- ... and with inputs that admit every name each text that lines may load
module _ (limits : Limits) (opened : Role → List ℕ → Type 0) (built : Flags → List ℕ → Type 0)
    (names : (name : List ℕ) → opened Shapes name)
    (all : (flags : Flags) (text : List ℕ) → built flags text) where
  built_in : (base : List ℕ) (text : Option (List ℕ)) → MayBeBuilt limits base built text
  built_in base None = all
  built_in base (Some bytes) = λ document end read held. record { each = λ d value states. all _ _ }

  pub all_loads_admitted : (words : Option Asked) (texts : List ℕ → Option (List ℕ))
      → LoadsAreAdmitted limits words texts opened built
  all_loads_admitted words texts = λ name may.
      let library = words_library words texts in
      record { opened = names name; built = built_in library.base (library.text name) }

-- ---- what may be loaded may be so later

pub AreAdmitted-stays : (limits : Limits) {admits admits' : Role → List ℕ → Type 0}
    {builds builds' : Flags → List ℕ → Type 0} → StaysAdmitted admits admits' → StaysAdmitted builds builds'
    → (library library' : Library) (lines lines' : Option (List (List ℕ))) → library' ≡ library
    → lines' ≡ lines → AreAdmitted limits library (admits Shapes) builds lines
    → AreAdmitted limits library' (admits' Shapes) builds' lines'
AreAdmitted-stays limits opens built library library' lines lines' same same_lines admitted =
    AreAdmitted-still limits built.each library library' lines lines' same (opens.each Shapes)
    (λ name. subst (λ ls. MayLoad limits ls name) same_lines) admitted
