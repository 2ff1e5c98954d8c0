-- A line with a word is no blank line.
use Rattle.std.proofs.Common.{◌≡◌, ℕ, zero, suc, ◌<◌, true, false, List, [], ◌∷◌, ◌++◌, length, get_or, take}
use Rattle.std.proofs.Common.{drop, refl, sym, ap, ◌∙◌, subst, arith, take-append-drop, length-take}
use Rattle.std.proofs.Common.{get_or-take, Bool, nat_lt, ◌&&◌, true≢false}
use Rattle.std.specs.Str.{IsUtf8, IsAscii, chars}
use Rattle.std.proofs.lemmas.Bool.Decides.{nat_tests}
use Rattle.std.proofs.lemmas.Str.{IsUtf8-take, IsUtf8-drop, chars-append, chars-IsAscii}
use Rattle.std.proofs.lemmas.Str.{chars_past_char, encode_ascii}
use Rattle.ttl_tokens.specs.Blanks.{SkipsBlanks}
use Rattle.ttl_tokens.specs.Chars.{is_white}
use Rattle.ttl_tokens.specs.declared.token.TokenKind.{TokenKind}
use Rattle.ttl_tokens.specs.declared.token.TokenKind.TheVariants.{End}
use Rattle.ttl_tokens.specs.Tokens.{IsNext}
use Rattle.ttl_tokens.specs.inner.BlankWalk.{after_blanks}
use Rattle.ttl_tokens.proofs.BlankLemmas.{walk_stops}
use Rattle.ttl_tokens.proofs.RestLemmas.{longest_one}
use Rattle.script_lines.specs.Forms.{EndsAt, begins_with, word_start}
use Rattle.script_lines.proofs.WordLemmas.{white_before, white_low, start_boundary, begins_is}

-- a small letter
abbrev pub is_letter : ℕ → Bool
is_letter c = nat_lt 96 c && nat_lt c 123

-- all of a text is white space
abbrev IsWhite : List ℕ → Type 0
IsWhite front = (k : ℕ) → k < length front → is_white (get_or front k 0) ≡ true

-- ... so the walk over white space passes it
passes_white : (front ys : List ℕ) → IsWhite front → after_blanks false (front ++ ys) ≡ after_blanks false ys
passes_white [] ys white = refl
passes_white (c ∷ cs) ys white =
    let here : is_white c ≡ true = white zero (omega arith) in
    rw here (passes_white cs ys (λ k less. white (suc k) (omega (arith, less))))

white_ascii : (front : List ℕ) → IsWhite front → IsAscii front
white_ascii [] white i = omega arith
white_ascii (c ∷ cs) white zero = white_low c (white zero (omega arith))
white_ascii (c ∷ cs) white (suc k) = white_ascii cs (λ i less. white (suc i) (omega (arith, less))) k

module _ (line : List ℕ) (utf8 : IsUtf8 line) where
  abbrev front : List ℕ
  front = take (word_start line) line

  abbrev rest : List ℕ
  rest = drop (word_start line) line

  front_white : IsWhite front
  front_white k less =
      let within = length-take (word_start line) line in
      let before : k < word_start line = omega (arith, less, within) in
      rw (get_or-take (word_start line) line k 0 before) (white_before line k before)

  -- its characters: white space, and then those from the word on
  line_chars : chars line ≡ front ++ chars rest
  line_chars =
      let ascii = white_ascii front front_white in
      let begin = start_boundary line utf8 in
      ap chars (sym (take-append-drop (word_start line) line))
      ∙ chars-append front rest (IsUtf8-take line (word_start line) utf8 begin)
      ∙ ap (λ (l : List ℕ). l ++ chars rest) (chars-IsAscii front ascii)

  -- white space and comments end before a character that begins neither
  not_skipped : (c : ℕ) (more : List ℕ) → rest ≡ c ∷ more → c < 128 → is_white c ≡ false → (c ≡ 35 → ⊥)
      → SkipsBlanks (chars line) [] → ⊥
  not_skipped c more is low black hash skips =
      let begin = start_boundary line utf8 in
      let text = IsUtf8-drop line (word_start line) utf8 begin in
      let first : chars rest ≡ c ∷ chars more =
      chars_past_char rest more c text
      (is ∙ ap (λ (l : List ℕ). l ++ more) (sym (encode_ascii c low))) in
      let left : after_blanks false (chars rest) ≡ after_blanks false (chars line) =
      sym (rw line_chars (passes_white front (chars rest) front_white)) in
      let stops : SkipsBlanks (chars line) (chars rest) =
      walk_stops (chars line) (chars rest) c (chars more) left first black hash in
      let same : c ∷ chars more ≡ [] = sym first ∙ longest_one stops skips in
      absurd (cc)

  -- a blank line is skipped
  blank_skips : EndsAt line zero → SkipsBlanks (chars line) []
  blank_skips blank =
      let none : chars (drop blank.last.start line) ≡ [] =
      (end_next blank.last.kind blank.end (chars (drop blank.last.start line))
      (chars (drop blank.last.end line)) blank.next.next) in
      subst (λ (l : List ℕ). SkipsBlanks (chars line) l) none blank.next.behind
    where
      end_next : (k : TokenKind) → k ≡ End → (xs ys : List ℕ) → IsNext xs k ys → xs ≡ []
      end_next k is xs ys next = (subst (λ (k : TokenKind). IsNext xs k ys) is next).0

  pub not_blank : (word : List ℕ) → is_letter (get_or word 0 0) ≡ true → begins_with word line ≡ true
      → EndsAt line zero → ⊥
  not_blank [] letter begins blank = true≢false (sym letter)
  not_blank (c ∷ word) letter begins blank =
      let is : is_letter c ≡ true = letter in
      let low : c < 128 = grind (arith, nat_tests) in
      let black : is_white c ≡ false = grind (arith, nat_tests) in
      not_skipped c _ (begins_is (c ∷ word) line begins) low black
      (λ e. true≢false (sym is ∙ rw e refl)) (blank_skips blank)
