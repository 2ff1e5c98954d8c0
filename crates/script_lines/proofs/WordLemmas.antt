-- The word with which a line begins.
use Rattle.std.proofs.Common.{◌≡◌, ℕ, ◌+◌, ◌<◌, ◌≤◌, zero, suc, Bool, true, false, not, List, ◌++◌, length}
use Rattle.std.proofs.Common.{get_or, take, drop, refl, sym, ap, ◌∙◌, subst, arith, true≢false, nat_lt, cond}
use Rattle.std.proofs.Common.{Some, None, position, length-take-le, take-append-drop, add-one}
use Rattle.std.specs.Option.{unwrap_or}
use Rattle.std.specs.List.{position_or_len}
use Rattle.std.specs.Str.{IsUtf8, IsCharBoundary}
use Rattle.std.specs.Str.Pattern.{FindsTextPrefix, HasPrefixMatch}
use Rattle.std.specs.Prelude.{MatchBool}
use Rattle.std.proofs.lemmas.Bool.Decides.{nat_tests}
use Rattle.std.proofs.lemmas.List.Sums.{prefix_len-le-length, fails_before_first}
use Rattle.std.proofs.lemmas.Slice.Eq.{bytes_eq-Decides}
use Rattle.std.proofs.lemmas.Str.{IsCharBoundary-start, IsCharBoundary-after_ascii, IsCharBoundary-from_rest}
use Rattle.std.proofs.lemmas.Str.Pattern.{starts_text}
use Rattle.ttl_tokens.specs.Chars.{is_white}
use Rattle.script_lines.specs.Forms.{word_start, begins_with}
use Rattle.script_lines.specs.inner.Parts.{IsWordEnd}

abbrev pub is_other : ℕ → Bool
is_other b = not (is_white b)

-- ---- where the word begins

pub start_le : (line : List ℕ) → position_or_len is_other line ≤ length line
start_le line = prefix_len-le-length (λ b. not (is_other b)) line

pub start_is : (line : List ℕ) → word_start line ≡ position_or_len is_other line
start_is line = length-take-le (position_or_len is_other line) line (start_le line)

-- the first byte that is no white space, or all of them
pub first_or_all : (line : List ℕ) → unwrap_or (position is_other line) (length line) ≡ word_start line
first_or_all line = by (nat_lt at (length line)) refl ∙ sym (start_is line)
  where
    at : ℕ
    at = position_or_len is_other line

    by : (b : Bool) → nat_lt at (length line) ≡ b
        → unwrap_or (cond (nat_lt at (length line)) (Some at) None) (length line) ≡ at
    by true less = rw less refl
    by false past = rw past (let le = start_le line in grind (arith, nat_tests))

-- before it there is white space alone
pub white_before : (line : List ℕ) (k : ℕ) → k < word_start line → is_white (get_or line k 0) ≡ true
white_before line k less =
    let before : k < position_or_len is_other line = rw start_is at less in
    let fails = fails_before_first is_other line k 0 before in
    by (is_white (get_or line k 0)) fails
  where
    by : (b : Bool) → not b ≡ false → b ≡ true
    by true e = refl
    by false e = absurd (true≢false e)

pub white_low : (b : ℕ) → is_white b ≡ true → b < 128
white_low b white = grind (arith, nat_tests)

pub start_boundary : (line : List ℕ) → IsUtf8 line → IsCharBoundary line (word_start line)
start_boundary line utf8 = by (word_start line) refl
  where
    by : (n : ℕ) → n ≡ word_start line → IsCharBoundary line n
    by zero e = IsCharBoundary-start line utf8
    by (suc n) e =
        let less : n < word_start line = omega (arith, e) in
        let low = white_low (get_or line n 0) (white_before line n less) in
        let le : word_start line ≤ length line = rw start_is (start_le line) in
        let within : n < length line = omega (arith, less, le) in
        rw (sym (add-one n)) (IsCharBoundary-after_ascii line n utf8 within low)

-- ---- a line that begins with a word

-- what stands there is the word, with something behind it
pub begins_is : (word line : List ℕ) → begins_with word line ≡ true
    → drop (word_start line) line ≡ word ++ drop (length word) (drop (word_start line) line)
begins_is word line begins =
    let rest = drop (word_start line) line in
    let same : word ≡ take (length word) rest =
    (bytes_eq-Decides word (take (length word) rest)).0 begins in
    sym (take-append-drop (length word) rest)
    ∙ ap (λ (front : List ℕ). front ++ drop (length word) rest) (sym same)

-- whether the text from its word on begins with a word is whether the line does
module _ (line word rest : List ℕ) (start : ℕ) (is : start ≡ word_start line) (there : rest ≡ drop start line)
  where
    abbrev Answers : Bool → Type 0
    Answers r =
        MatchBool r (HasPrefixMatch (FindsTextPrefix word) rest) (FindsTextPrefix word rest None)

    told : (r : Bool) → Answers r → begins_with word line ≡ r
    told r cases = rw (← is, ← there) (sym (starts_text r word rest cases))

    pub word_is_there : (r : Bool) → Answers r → r ≡ true → IsWordEnd line word (start + length word)
    word_is_there r cases holds = record {
      begins = told r cases ∙ holds;
      place = ap (λ n. n + length word) is;
      boundary = by r cases holds;
    }
      where
        within : start ≤ length line
        within = rw (is, start_is line) (start_le line)

        by : (r : Bool) → Answers r → r ≡ true → IsCharBoundary line (start + length word)
        by true found holds =
            IsCharBoundary-from_rest line start (length word) within
            (subst (λ (l : List ℕ). IsCharBoundary l (length word)) there found.1.2)
        by false none holds = absurd (true≢false (sym holds))

    pub word_is_not : (r : Bool) → Answers r → r ≡ false → begins_with word line ≡ false
    word_is_not r cases fails = told r cases ∙ fails
