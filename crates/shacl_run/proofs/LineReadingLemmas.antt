-- What the lines of a script are read as: those that were taken have readings, and those behind them keep
-- theirs.
use Rattle.std.proofs.Common.{◌≡◌, ℕ, ◌<◌, Bool, true, false, List, ◌∷◌, length, Option, None, Some, Result}
use Rattle.std.proofs.Common.{Err, if◌then◌else◌, refl, sym, subst, arith}
use Rattle.std.specs.Prelude.{All}
use Rattle.std.specs.Str.{bytes_eq}
use Rattle.std.proofs.lemmas.List.Elements.{All-cons, All-nil, All-weaker}
use Rattle.std.proofs.lemmas.Slice.Eq.{bytes_eq-Decides}
use Rattle.shx_term.specs.declared.fault_codes.TheConstants.{LINE_TOO_LONG}
use Rattle.shx_term.specs.declared.limits.Limits.{Limits}
use Rattle.text_input.specs.Lines.{script_lines}
use Rattle.text_input.specs.ScriptReader.{TookEnd, TookLine, left_of, new_reader}
use Rattle.ttl_meaning.specs.State.{State}
use Rattle.ttl_meaning.specs.declared.document.Document.{Document}
use Rattle.script_lines.specs.declared.command.Command.{Command}
use Rattle.script_lines.specs.declared.fault.LineFault.{LineFault}
use Rattle.script_lines.specs.declared.fault.LineFault.TheVariants.{Line, Memory}
use Rattle.script_lines.specs.Lines.{IsLineRead, TooLong, NotUtf8, NoForm, AForm}
use Rattle.script_run.specs.Manner.{LineReadings}
use Rattle.shape_text.specs.Names.{HasNamesOf}
use Rattle.script_run.specs.LineReadings.{HasReading, IsReadBehind}
use Rattle.shacl_run.specs.inner.Serving.{HaveReadings}

-- ---- lines that are too long

long_read : (limits : Limits) (document : Document) (line : List ℕ) (reading : Result Command LineFault)
    → limits.line < length line → IsLineRead limits document line reading
    → reading ≡ Err (Line LINE_TOO_LONG None)
long_read limits document line reading past (TooLong more is) = is
long_read limits document line reading past (NotUtf8 within none is) = absurd (omega (arith, past, within))
long_read limits document line reading past (NoForm within utf8 none is) =
    absurd (omega (arith, past, within))
long_read limits document line reading past (AForm within utf8 form has is) =
    absurd (omega (arith, past, within))

module _ (limits : Limits) (end : State) where
  pub read_too_long : (line : List ℕ) (reading : Result Command LineFault) → limits.line < length line
      → IsReadBehind limits end line reading → reading ≡ Err (Line LINE_TOO_LONG None)
  read_too_long line reading past is = long_read limits is.document line reading past is.read

  -- each of them has this reading
  pub reads_too_long : (document : Document) → HasNamesOf end document → (line : List ℕ)
      → limits.line < length line → HasReading limits end line
  reads_too_long document names line past = (
    Err (Line LINE_TOO_LONG None),
    record {
      document = document;
      names = names;
      read = TooLong past refl;
    },
  )

  -- ---- one reading more

  abbrev IsReadBy : LineReadings → List ℕ → Type 0
  IsReadBy lines line = IsReadBehind limits end line (lines line)

  module _ (first : List ℕ) (reading : Result Command LineFault)
      (is : IsReadBehind limits end first reading) (lines : LineReadings) where
    abbrev with_first : LineReadings
    with_first line = if bytes_eq line first then reading else lines line

    first_read : IsReadBy with_first first
    first_read = rw ((bytes_eq-Decides first first).1 refl) is

    others_read : (line : List ℕ) → IsReadBy lines line → IsReadBy with_first line
    others_read line read =
        elim (bytes_eq line first) as (λ b. bytes_eq line first ≡ b
        → IsReadBehind limits end line (if b then reading else lines line)) [
          | true ↦ λ h. subst (λ (l : List ℕ). IsReadBehind limits end l reading)
              (sym ((bytes_eq-Decides line first).0 h)) is
          | false ↦ λ _. read
        ] refl

    all_read : (rest : List (List ℕ)) → All (IsReadBy lines) rest → All (IsReadBy with_first) (first ∷ rest)
    all_read rest all =
        All-cons (IsReadBy with_first) first rest first_read
        (All-weaker (IsReadBy lines) (IsReadBy with_first) others_read rest all)

  -- ---- lines that were taken

  pub readings_start : (limit : ℕ) (rest : Option (List ℕ))
      → HaveReadings limits end limit (left_of (new_reader limit) rest) → HaveReadings limits end limit rest
  readings_start limit None have = tt
  readings_start limit (Some bytes) have = have

  -- where the lines behind it have readings, a line that has one adds its own
  pub readings_with : (budget budget' : ℕ) (ended : Bool) (left left' : Option (List ℕ))
      (P : List ℕ → Type 0) → ((line : List ℕ) → P line → HasReading limits end line)
      → TookLine left left' budget budget' ended P → HaveReadings limits end budget' left'
      → HaveReadings limits end budget left
  readings_with budget budget' ended None left' P each took have = tt
  readings_with budget budget' ended (Some bytes) left' P each took have =
      let taken = took.told bytes refl in
      let (reading, is) = each taken.first taken.line in
      let (lines, all) = subst (HaveReadings limits end budget') taken.left have in (
        with_first taken.first reading is lines,
        subst (All (IsReadBy (with_first taken.first reading is lines))) (sym taken.lines)
            (all_read taken.first reading is lines (script_lines budget' taken.rest) all),
      )

  -- where no line is left, none needs a reading
  pub readings_none : (budget : ℕ) (left left' : Option (List ℕ)) (past : Bool)
      → TookEnd left left' budget past → HaveReadings limits end budget left
  readings_none budget None left' past took = tt
  readings_none budget (Some bytes) left' past took =
      let P : List ℕ → Type 0 = λ line. IsReadBehind limits end line (Err Memory) in
      (λ line. Err Memory, subst (All P) (sym (took.told bytes refl).0) (All-nil P))
