-- The marks at the ends of a token, and the bytes between them.
use Rattle.std.proofs.Common.{◌≡◌, ℕ, ◌+◌, ◌-◌, ◌*◌, ◌<◌, true, ◌==◌, List, [], ◌∷◌, ◌++◌, length, refl}
use Rattle.std.proofs.Common.{sym, ap, ◌∙◌, subst, arith, append_assoc, get_or}
use Rattle.std.proofs.Math.ListN.{take, drop}
use Rattle.std.proofs.Math.Seq.{drop-append_seam, take-append_seam}
use Rattle.std.proofs.Math.Utf8.{encodes}
use Rattle.std.proofs.lemmas.Bool.Decides.{nat_tests}
use Rattle.std.proofs.lemmas.List.{append-nil, append_cancel_right, length-append, get_or_append_left}
use Rattle.std.proofs.lemmas.List.Folds.{drop_split}
use Rattle.std.proofs.lemmas.Str.{encodes-chars, encodes-append, encodes-IsAscii, chars_from_encodes}
use Rattle.std.proofs.lemmas.Str.{IsUtf8-from_ascii, IsUtf8-between, IsAscii-append, chars-append}
use Rattle.std.proofs.lemmas.Str.{IsCharBoundary-at_seam, IsCharBoundary-after_ascii}
use Rattle.std.proofs.lemmas.Str.Ascii.{IsAscii-nil, IsAscii-cons}
use Rattle.std.specs.Str.{IsUtf8, IsAscii, IsCharBoundary, chars}
use Rattle.ttl_tokens.specs.declared.token.Token.{Token}
use Rattle.ttl_tokens.specs.declared.token.TokenKind.{TokenKind}
use Rattle.ttl_tokens.specs.declared.token.TokenKind.TheVariants.{IriRef, StringQuote, StringSingleQuote}
use Rattle.ttl_tokens.specs.declared.token.TokenKind.TheVariants.{StringLongQuote, StringLongSingleQuote}
use Rattle.ttl_tokens.specs.Form.{Item, Then, Or, Maybe, Many, Takes}
use Rattle.ttl_tokens.specs.Chars.{Chars, PastChar, exactly}
use Rattle.ttl_tokens.specs.Terminals.{is_iri_char, uchar, three_quotes, short_char, short_string}
use Rattle.ttl_tokens.specs.Terminals.{long_char, long_string}
use Rattle.ttl_tokens.specs.Tokens.{IsNext, IsTokenAt}
use Rattle.ttl_tokens.specs.inner.Marks.{HasMarks}
use Rattle.ttl_tokens.specs.Unescaped.{mark_length, IsGiven, token_text, without_ends}
use Rattle.ttl_tokens.proofs.RestLemmas.{IsRest, takes_rest}

-- ---- the marks of a token

-- what is left of xs behind a front of so many characters of ASCII
pub record IsMark (n : ℕ) (xs ys : List ℕ) : Type 0 where
  front : List ℕ
  parts : xs ≡ front ++ ys
  long : length front ≡ n
  ascii : IsAscii front

-- whatever the form takes is a mark of this length
abbrev pub TakesMarks : ℕ → Chars → Type 0
TakesMarks n f = (xs ys : List ℕ) → Takes PastChar f xs ys → IsMark n xs ys

pub one_mark : (q : ℕ) → q < 128 → TakesMarks 1 (Item (λ c. c == q))
one_mark q small [] ys t = absurd t
one_mark q small (c ∷ cs) ys t =
    let test : (c == q) ≡ true = t.0 in
    record {
      front = c ∷ [];
      parts = ap (λ (l : List ℕ). c ∷ l) t.1;
      long = refl;
      ascii = IsAscii-cons c [] (grind (arith, nat_tests)) IsAscii-nil;
    }

two_marks : (m n : ℕ) (f g : Chars) → TakesMarks m f → TakesMarks n g → TakesMarks (m + n) (Then f g)
two_marks m n f g mark_f mark_g xs ys t =
    let a = mark_f xs t.0 t.1 in
    let b = mark_g t.0 ys t.2 in
    record {
      front = a.front ++ b.front;
      parts = a.parts ∙ ap (λ (l : List ℕ). a.front ++ l) b.parts ∙ sym (append_assoc a.front b.front ys);
      long = length-append a.front b.front ∙ rw (a.long, b.long) refl;
      ascii = IsAscii-append a.front b.front a.ascii b.ascii;
    }

pub three_marks : (q : ℕ) → q < 128 → TakesMarks 3 (three_quotes q)
three_marks q small =
    two_marks 1 2 (exactly q) (Then (exactly q) (exactly q)) (one_mark q small)
    (two_marks 1 1 (exactly q) (exactly q) (one_mark q small) (one_mark q small))

-- what a form takes that begins and ends with a mark, and what stands between them
pub marks_round : (n : ℕ) (a f b : Chars) → TakesMarks n a → TakesMarks n b → (xs ys piece : List ℕ)
    → xs ≡ piece ++ ys → (t : Takes PastChar (Then a (Then f b)) xs ys) → (inside : IsRest t.0 t.2.0)
    → (m : HasMarks n piece) × (m.middle ≡ inside.0)
marks_round n a f b marks_a marks_b xs ys piece cut t inside =
    let x = marks_a xs t.0 t.1 in
    let z = marks_b t.2.0 ys t.2.2 in
    let inner : t.0 ≡ (inside.0 ++ z.front) ++ ys =
    inside.1 ∙ ap (λ (l : List ℕ). inside.0 ++ l) z.parts ∙ sym (append_assoc inside.0 z.front ys) in
    let whole : xs ≡ (x.front ++ (inside.0 ++ z.front)) ++ ys =
    x.parts ∙ ap (λ (l : List ℕ). x.front ++ l) inner
    ∙ sym (append_assoc x.front (inside.0 ++ z.front) ys) in (
      record {
        front = x.front;
        middle = inside.0;
        back = z.front;
        parts = append_cancel_right piece (x.front ++ (inside.0 ++ z.front)) ys (sym cut ∙ whole);
        front_length = x.long;
        back_length = z.long;
        front_ascii = x.ascii;
        back_ascii = z.ascii;
      },
      refl,
    )

between_marks : (n : ℕ) (a f b : Chars) → TakesMarks n a → TakesMarks n b → (xs ys piece : List ℕ)
    → xs ≡ piece ++ ys → Takes PastChar (Then a (Then f b)) xs ys → HasMarks n piece
between_marks n a f b marks_a marks_b xs ys piece cut t =
    (marks_round n a f b marks_a marks_b xs ys piece cut t (takes_rest f t.0 t.2.0 t.2.1)).0

no_marks : (piece : List ℕ) → HasMarks 0 piece
no_marks piece = record {
  front = [];
  middle = piece;
  back = [];
  parts = sym (append-nil piece);
  front_length = refl;
  back_length = refl;
  front_ascii = IsAscii-nil;
  back_ascii = IsAscii-nil;
}

short_marks : (q : ℕ) → q < 128 → (xs ys piece : List ℕ) → xs ≡ piece ++ ys
    → Takes PastChar (short_string q) xs ys → HasMarks 1 piece
short_marks q small =
    between_marks 1 (exactly q) (Many (short_char q)) (exactly q) (one_mark q small) (one_mark q small)

long_marks : (q : ℕ) → q < 128 → (xs ys piece : List ℕ) → xs ≡ piece ++ ys
    → Takes PastChar (long_string q) xs ys → HasMarks 3 piece
long_marks q small =
    between_marks 3 (three_quotes q)
    (Many (Then (Maybe (Or (exactly q) (Then (exactly q) (exactly q)))) (long_char q))) (three_quotes q)
    (three_marks q small) (three_marks q small)

next_marks : (kind : TokenKind) (xs ys piece : List ℕ) → xs ≡ piece ++ ys → IsNext xs kind ys
    → HasMarks (mark_length kind) piece
next_marks IriRef xs ys piece cut t =
    between_marks 1 (Item (λ c. c == 60)) (Many (Or (Item is_iri_char) uchar)) (Item (λ c. c == 62))
    (one_mark 60 (omega arith)) (one_mark 62 (omega arith)) xs ys piece cut t.stands
next_marks StringQuote xs ys piece cut t = short_marks 34 (omega arith) xs ys piece cut t.stands.0
next_marks StringSingleQuote xs ys piece cut t = short_marks 39 (omega arith) xs ys piece cut t.stands.0
next_marks StringLongQuote xs ys piece cut t = long_marks 34 (omega arith) xs ys piece cut t.stands
next_marks StringLongSingleQuote xs ys piece cut t = long_marks 39 (omega arith) xs ys piece cut t.stands
next_marks kind xs ys piece cut t = no_marks piece

-- a token and what stands behind it
pub token_parts : (text : List ℕ) (at : ℕ) (token : Token) → IsUtf8 text → IsTokenAt text at token
    → chars (drop token.start text) ≡ chars (token_text text token) ++ chars (drop token.end text)
token_parts text at token utf8 t =
    ap chars (drop_split text token.start token.end t.order)
    ∙ chars-append (token_text text token) (drop token.end text)
    (IsUtf8-between text token.start token.end utf8 t.order t.begin t.end)

-- the text of a token that was given
pub given_marks : (text : List ℕ) (token : Token) → IsUtf8 text → IsGiven text token
    → HasMarks (mark_length token.kind) (chars (token_text text token))
given_marks text token utf8 given =
    next_marks token.kind (chars (drop token.start text)) (chars (drop token.end text))
    (chars (token_text text token)) (token_parts text given.0 token utf8 given.1) given.1.next

-- without as many at each end
ends_off : (n : ℕ) (xs front middle back : List ℕ) → xs ≡ front ++ (middle ++ back) → length front ≡ n
    → length back ≡ n → take (length xs - 2 * n) (drop n xs) ≡ middle
ends_off n xs front middle back parts front_length back_length =
    let cut : drop n xs ≡ middle ++ back =
    rw (sym front_length, parts) (drop-append_seam front (middle ++ back)) in
    let all = ap length parts ∙ length-append front (middle ++ back) in
    let rest = length-append middle back in
    let size : length xs - 2 * n ≡ length middle = omega (arith, all, rest, front_length, back_length) in
    rw (cut, size) (take-append_seam middle back)

pub without_marks : {n : ℕ} {xs : List ℕ} → (m : HasMarks n xs) → without_ends n xs ≡ m.middle
without_marks {n = n} {xs = xs} m = ends_off n xs m.front m.middle m.back m.parts m.front_length m.back_length

-- ---- the bytes between the marks

module _ (n : ℕ) (bs : List ℕ) (utf8 : IsUtf8 bs) (m : HasMarks n (chars bs)) where
  bytes_parts : bs ≡ m.front ++ (encodes m.middle ++ m.back)
  bytes_parts =
      sym (encodes-chars bs utf8) ∙ ap encodes m.parts ∙ encodes-append m.front (m.middle ++ m.back)
      ∙ rw (encodes-IsAscii m.front m.front_ascii, encodes-append m.middle m.back) refl
      ∙ ap (λ (l : List ℕ). m.front ++ (encodes m.middle ++ l)) (encodes-IsAscii m.back m.back_ascii)

  pub bytes_length : length bs ≡ n + length (encodes m.middle) + n
  bytes_length =
      let all = ap length bytes_parts ∙ length-append m.front (encodes m.middle ++ m.back) in
      let rest = length-append (encodes m.middle) m.back in
      omega (arith, all, rest, m.front_length, m.back_length)

  pub begin_boundary : 0 < n → IsCharBoundary bs n
  begin_boundary some =
      let whole = bytes_length in
      let in_front : n - 1 < length m.front = omega (arith, some, m.front_length) in
      let same : get_or bs (n - 1) 0 ≡ get_or m.front (n - 1) 0 =
      ap (λ (l : List ℕ). get_or l (n - 1) 0) bytes_parts
      ∙ get_or_append_left m.front (encodes m.middle ++ m.back) 0 (n - 1) in_front in
      let ascii : get_or bs (n - 1) 0 < 128 = rw same (m.front_ascii (n - 1)) in
      let place : n - 1 + 1 ≡ n = omega (arith, some) in
      subst (IsCharBoundary bs) place
      (IsCharBoundary-after_ascii bs (n - 1) utf8 (omega (arith, whole, some)) ascii)

  pub end_boundary : IsCharBoundary bs (length bs - n)
  end_boundary =
      let front = m.front ++ encodes m.middle in
      let size = length-append m.front (encodes m.middle) in
      let whole = bytes_length in
      let place : length front ≡ length bs - n = omega (arith, size, whole, m.front_length) in
      let parts : bs ≡ front ++ m.back = bytes_parts ∙ sym (append_assoc m.front (encodes m.middle) m.back) in
      subst (IsCharBoundary bs) place
      (IsCharBoundary-at_seam bs front m.back parts (IsUtf8-from_ascii m.back m.back_ascii))

  pub between_chars : (inner : List ℕ) → IsUtf8 inner → inner ≡ take (length bs - n - n) (drop n bs)
      → chars inner ≡ without_ends n (chars bs)
  between_chars inner inner_utf8 cut =
      let size : length bs - n - n ≡ length bs - 2 * n = omega arith in
      let bytes : inner ≡ encodes m.middle =
      cut
      ∙ rw size (ends_off n bs m.front (encodes m.middle) m.back bytes_parts m.front_length m.back_length) in
      sym (chars_from_encodes m.middle inner inner_utf8 (sym bytes))
      ∙ sym (without_marks m)
