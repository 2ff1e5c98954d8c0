use Rattle.std.proofs.Common.{◌≡◌, ℕ, suc, Bool, true, false, cond, eqb, List, length, [], ◌∷◌, refl, ap, sym}
use Rattle.std.proofs.Common.{◌∙◌, arith}
use mir.Val.{bool_byte}
use Rattle.std.proofs.lemmas.Bool.{false≢true}
use Rattle.std.proofs.lemmas.Grind.{common_steps}
use Rattle.std.specs.List.{take_while}
use Rattle.shx_term.specs.NumberForm.{is_digit, is_sign, is_point, without_first, begins_with}
use Rattle.value_space.specs.inner.DigitRuns.{behind_digits, narrow_number, narrow_fraction}
use Rattle.value_space.proofs.NumeralFormLemmas.{is_numeral, not_decimal}
use Rattle.value_space.proofs.numeral.Numeral.read.Goals as goal
use Rattle.value_space.proofs.numeral.Numeral.read.Goals.{else-is_empty-via-then-is_empty+else-unsigned-from}
use Rattle.value_space.proofs.numeral.Numeral.read.Goals.{else-is_empty-via-else-is_empty}

not_long : (n : ℕ) → true ≡ eqb (suc n) 0 → ⊥
not_long n h = grind (arith, common_steps)

is_nil : (xs : List ℕ) → true ≡ eqb (length xs) 0 → xs ≡ []
is_nil [] h = refl
is_nil (x ∷ xs) h = absurd (not_long (length xs) h)

point_length : (t : Bool) → bool_byte t ≡ cond t 1 0
point_length true = refl
point_length false = refl

pub returns-then-unsigned-from : goal.returns-then-unsigned-from
returns-then-unsigned-from c =
    let text = c.args.text.now in
    let unsigned = c.without_sign-unsigned.ensures in
    let rest : c.read_whole-whole.result.1.now ≡ behind_digits (without_first is_sign text) =
    c.read_whole-whole.ensures.rest ∙ ap behind_digits unsigned in
    let behind : c.without_point.result.now
    ≡ without_first is_point (behind_digits (without_first is_sign text)) =
    c.without_point.ensures ∙ ap (without_first is_point) rest in
    let end : c.read_fraction-fraction.result.1.now
    ≡ behind_digits (without_first is_point (behind_digits (without_first is_sign text))) =
    c.read_fraction-fraction.ensures.rest ∙ ap behind_digits behind in
    let point = c.has_point-has_point.ensures ∙ ap (begins_with is_point) rest in
    let before : c.from.result
    ≡ cond (begins_with is_point (behind_digits (without_first is_sign text))) 1 0 =
    c.from.ensures ∙ point_length c.has_point-has_point.result ∙ ap (λ t. cond t 1 0) point in
    is_numeral text _ (sym end ∙ is_nil c.read_fraction-fraction.result.1.now c.if-is_empty.ensures)
    (omega (arith, before, ap length unsigned, c.if-unsigned-from.true)) c.has_minus.ensures point
    (c.read_whole-whole.ensures.number ∙ ap (λ ds. narrow_number (take_while is_digit ds)) unsigned)
    (c.read_fraction-fraction.ensures.fraction
    ∙ ap (λ ds. narrow_fraction 38 (take_while is_digit ds)) behind)

pub returns-else-is_empty : goal.returns-else-is_empty
returns-else-is_empty c =
    let text = c.args.text.now in
    let unsigned = c.without_sign-unsigned.ensures in
    let rest : c.read_whole-whole.result.1.now ≡ behind_digits (without_first is_sign text) =
    c.read_whole-whole.ensures.rest ∙ ap behind_digits unsigned in
    let behind : c.without_point.result.now
    ≡ without_first is_point (behind_digits (without_first is_sign text)) =
    c.without_point.ensures ∙ ap (without_first is_point) rest in
    let end : c.read_fraction-fraction.result.1.now
    ≡ behind_digits (without_first is_point (behind_digits (without_first is_sign text))) =
    c.read_fraction-fraction.ensures.rest ∙ ap behind_digits behind in
    let point = c.has_point-has_point.ensures ∙ ap (begins_with is_point) rest in
    not_decimal text (λ empty.
    elim c.else-is_empty.branch [
      | else-is_empty-via-then-is_empty+else-unsigned-from w ↦
          (let before : w.from.result
          ≡ cond (begins_with is_point (behind_digits (without_first is_sign text))) 1 0 =
          w.from.ensures ∙ point_length c.has_point-has_point.result ∙ ap (λ t. cond t 1 0) point in
          omega (arith, before, ap length unsigned, w.if-unsigned-from.false))
      | else-is_empty-via-else-is_empty w ↦ absurd
          (false≢true (w.if-is_empty.ensures ∙ ap (λ xs. eqb (length xs) 0) (end ∙ empty)))
    ])
