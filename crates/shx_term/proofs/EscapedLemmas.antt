-- A lexical form as it is written, by runs without escapes.
use Rattle.std.specs.Prelude.{◌≡◌, ℕ, ◌-◌, ◌<◌, ◌≤◌, true, false, List, [], ◌∷◌, ◌++◌, length, position}
use Rattle.std.specs.Prelude.{Some, None, take, drop}
use Rattle.std.proofs.Common.{refl, sym, ap, ◌∙◌, append_assoc, length-drop, get_or, arith, zero, suc}
use Rattle.std.proofs.lemmas.Grind.{common_steps}
use Rattle.std.proofs.lemmas.List.{drop_more}
use Rattle.std.proofs.lemmas.List.Quantifiers.{position-Some}
use Rattle.shx_term.specs.Spelling.{is_escaped, escaped, escaped_byte}

escaped_byte-plain : (b : ℕ) → is_escaped b ≡ false → escaped_byte b ≡ b ∷ []
escaped_byte-plain b plain = grind (arith, common_steps)

-- a run in front without escapes is written as it is
escaped-run : (bytes : List ℕ) (n : ℕ) → n ≤ length bytes
    → ((k : ℕ) → k < n → is_escaped (get_or bytes k 0) ≡ false)
    → escaped bytes ≡ take n bytes ++ escaped (drop n bytes)
escaped-run [] zero within plain = refl
escaped-run [] (suc n) within plain = absurd (omega (arith, within))
escaped-run (b ∷ bytes) zero within plain = refl
escaped-run (b ∷ bytes) (suc n) within plain =
    rw (escaped_byte-plain b (plain 0 (omega arith)))
    (ap (λ rest. b ∷ rest)
    (escaped-run bytes n (omega (arith, within)) (λ k below. plain (suc k) (omega arith))))

escaped-front : (rest : List ℕ) → 0 < length rest
    → escaped rest ≡ escaped_byte (get_or rest 0 0) ++ escaped (drop 1 rest)
escaped-front [] some = absurd (omega (arith, some))
escaped-front (b ∷ rest) some = refl

-- a byte that is escaped stands where the first was found
pub found_byte : (bytes : List ℕ) (at : ℕ) → position is_escaped bytes ≡ Some at
    → (at < length bytes) × (is_escaped (get_or (drop at bytes) 0 0) ≡ true)
found_byte bytes at e =
    let found = position-Some is_escaped bytes at 0 e in
    (found.0, rw (drop_more bytes at 0 found.0) found.1)

-- what is left behind a first byte, as a slice has it
pub slice-behind : (bytes : List ℕ) → take (length bytes - 1) (drop 1 bytes) ≡ drop 1 bytes
slice-behind [] = refl
slice-behind (b ∷ bytes) = grind (arith, common_steps)

-- one run and the byte behind it are added to what is done
pub escaped-step : (rest behind tail done whole : List ℕ) (at : ℕ)
    → position is_escaped rest ≡ Some at → behind ≡ drop at rest → tail ≡ drop 1 behind
    → done ++ escaped rest ≡ whole
    → (done ++ (take at rest ++ escaped_byte (get_or behind 0 0))) ++ escaped tail ≡ whole
escaped-step rest behind tail done whole at e cut next so_far =
    let found = position-Some is_escaped rest at 0 e in
    let some : 0 < length behind = rw (cut, length-drop) (omega (arith, found.0)) in
    let step : escaped rest ≡ take at rest ++ (escaped_byte (get_or behind 0 0) ++ escaped tail) =
    escaped-run rest at (omega (arith, found.0)) found.2
    ∙ ap (λ left. take at rest ++ escaped left) (sym cut)
    ∙ ap (λ text. take at rest ++ text) (escaped-front behind some)
    ∙ ap (λ left. take at rest ++ (escaped_byte (get_or behind 0 0) ++ escaped left)) (sym next) in
    append_assoc done _ (escaped tail)
    ∙ ap (λ text. done ++ text) (append_assoc (take at rest) _ (escaped tail) ∙ sym step)
    ∙ so_far

-- where no byte is escaped, all is written as it is
pub escaped-none : (bytes : List ℕ) → position is_escaped bytes ≡ None → escaped bytes ≡ bytes
escaped-none [] e = refl
escaped-none (b ∷ bytes) e =
    let plain : is_escaped b ≡ false = grind (arith, common_steps) in
    let rest : position is_escaped bytes ≡ None = grind (arith, common_steps) in
    rw (escaped_byte-plain b plain) (ap (λ text. b ∷ text) (escaped-none bytes rest))
