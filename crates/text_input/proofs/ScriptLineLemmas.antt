-- The lines of a script within its limit, from its front on.
use Rattle.std.proofs.Common.{◌≡◌, ℕ, ◌+◌, ◌≤◌, ◌<◌, nat_le, nat_lt, List, [], ◌∷◌, ◌++◌, length, take}
use Rattle.std.proofs.Common.{suc, refl, sym, ap, ◌∙◌, inl, inr, arith, append_assoc, length-append}
use Rattle.std.proofs.lemmas.Bool.{cond-true, cond-false, cases_lt, le-leb, lt-leb, lt-ltb, le-ltb}
use Rattle.std.proofs.Math.Seq.{take-append-add}
use Rattle.text_input.specs.Lines.{HasNoFeed, lines_of, fed_lines, script_lines}
use Rattle.text_input.proofs.LineLemmas.{lines_of-first, lines_of-last, fed_lines-first, fed_lines-none}

-- a script within its limit
pub script_lines-within : (limit : ℕ) (script : List ℕ)
    → length script ≤ limit → script_lines limit script ≡ lines_of script
script_lines-within limit script h =
    cond-true (nat_le (length script) limit) (lines_of script) (fed_lines (take limit script))
    (le-leb (length script) limit h)

-- one that is longer
pub script_lines-past : (limit : ℕ) (script : List ℕ)
    → limit < length script → script_lines limit script ≡ fed_lines (take limit script)
script_lines-past limit script h =
    cond-false (nat_le (length script) limit) (lines_of script) (fed_lines (take limit script))
    (lt-leb (length script) limit h)

length_first : (first rest : List ℕ) → length (first ++ 10 ∷ rest) ≡ length first + (1 + length rest)
length_first first rest = omega (arith, length-append first (10 ∷ rest))

take-one_more : (n b : ℕ) (bytes : List ℕ) → take (1 + n) (b ∷ bytes) ≡ b ∷ take n bytes
take-one_more n b bytes = let e : 1 + n ≡ suc n = omega arith in rw e refl

-- what a limit leaves of a script behind its first line
take_first : (first rest : List ℕ) (limit : ℕ)
    → take (length first + (1 + limit)) (first ++ 10 ∷ rest) ≡ first ++ 10 ∷ take limit rest
take_first first rest limit =
    take-append-add first (10 ∷ rest) (1 + limit) ∙ ap (λ bytes. first ++ bytes) (take-one_more limit 10 rest)

-- whether a script is longer than its limit, is told by what is behind a front of it
pub longer-behind : (front rest : List ℕ) (limit after : ℕ)
    → limit ≡ length front + after → nat_lt limit (length (front ++ rest)) ≡ nat_lt after (length rest)
longer-behind front rest limit after is =
    let size = length-append front rest in
    elim (cases_lt after (length rest)) [
      | inl past ↦
          lt-ltb limit (length (front ++ rest)) (omega (arith, size))
          ∙ sym (lt-ltb after (length rest) past)
      | inr within ↦
          le-ltb limit (length (front ++ rest)) (omega (arith, size))
          ∙ sym (le-ltb after (length rest) within)
    ]

module _ (first rest : List ℕ) (limit after : ℕ) (is : limit ≡ length first + (1 + after)) where
  -- a line that ends at a line feed within the limit
  pub script_lines-first : HasNoFeed first
      → script_lines limit (first ++ 10 ∷ rest) ≡ first ∷ script_lines after rest
  script_lines-first plain =
      elim (cases_lt after (length rest)) [
        | inl past ↦
            script_lines-past limit (first ++ 10 ∷ rest) (omega (arith, length_first first rest))
            ∙ ap (λ n. fed_lines (take n (first ++ 10 ∷ rest))) is
            ∙ ap fed_lines (take_first first rest after)
            ∙ fed_lines-first first (take after rest) plain
            ∙ ap (λ lines. first ∷ lines) (sym (script_lines-past after rest past))
        | inr within ↦
            script_lines-within limit (first ++ 10 ∷ rest) (omega (arith, length_first first rest))
            ∙ lines_of-first first rest plain
            ∙ ap (λ lines. first ∷ lines) (sym (script_lines-within after rest within))
      ]

  pub longer-first : nat_lt limit (length (first ++ 10 ∷ rest)) ≡ nat_lt after (length rest)
  longer-first =
      ap (λ xs. nat_lt limit (length xs)) (sym (append_assoc first (10 ∷ []) rest))
      ∙ longer-behind (first ++ 10 ∷ []) rest limit after (omega (arith, length-append first (10 ∷ [])))

pub script_lines-none : (limit : ℕ) → script_lines limit [] ≡ []
script_lines-none limit = script_lines-within limit [] (omega arith)

-- a last line without a line feed
pub script_lines-last : (last : List ℕ) (limit after : ℕ)
    → HasNoFeed last → 0 < length last → length last ≤ limit
    → script_lines limit last ≡ last ∷ script_lines after []
script_lines-last last limit after plain some within =
    script_lines-within limit last within
    ∙ lines_of-last last plain some
    ∙ ap (λ lines. last ∷ lines) (sym (script_lines-none after))

-- no line feed within the limit
pub script_lines-cut : (limit : ℕ) (script : List ℕ)
    → HasNoFeed (take limit script) → limit < length script → script_lines limit script ≡ []
script_lines-cut limit script plain longer =
    script_lines-past limit script longer ∙ fed_lines-none (take limit script) plain
