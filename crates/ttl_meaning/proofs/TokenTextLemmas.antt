-- How the texts of language tags and of labels begin, so that they may be cut there, and where the prefix
-- of a name ends.
use Rattle.std.proofs.Common.{◌≡◌, ℕ, List, [], ◌∷◌, ◌++◌, length, get_or, sym, ap, ◌∙◌, subst, arith}
use Rattle.std.proofs.Common.{codes, drop, eqb-true, ◌||◌, ◌==◌, ◌≢◌, All, refl, false}
use Rattle.std.proofs.Math.Utf8.{encodes}
use Rattle.std.proofs.lemmas.Bool.{ne_eqb}
use Rattle.std.proofs.lemmas.List.{append_cancel_right}
use Rattle.std.proofs.lemmas.List.Folds.{drop_split, list_any_none}
use Rattle.std.specs.List.{list_any, before_first}
use Rattle.std.proofs.lemmas.Str.{encodes-chars, encodes-append, encodes-IsAscii, chars-append}
use Rattle.std.proofs.lemmas.Str.{IsUtf8-between, IsCharBoundary-after_ascii}
use Rattle.std.proofs.lemmas.Str.Ascii.{IsAscii-nil, IsAscii-cons}
use Rattle.std.specs.Str.{IsUtf8, IsAscii, IsCharBoundary, chars}
use Rattle.ttl_tokens.specs.declared.token.Token.{Token}
use Rattle.ttl_tokens.specs.declared.token.TokenKind.{TokenKind}
use Rattle.ttl_tokens.specs.declared.token.TokenKind.TheVariants.{BlankLabel, LangTag}
use Rattle.ttl_tokens.specs.Form.{Item, Then, Many, Takes}
use Rattle.ttl_tokens.specs.Chars.{Chars, PastChar, exactly, word, some, dotted, is_letter, is_digit}
use Rattle.ttl_tokens.specs.Chars.{is_letter_or_digit, is_name_start_or_line, is_name_char}
use Rattle.ttl_tokens.specs.Tokens.{IsNext}
use Rattle.ttl_tokens.specs.Unescaped.{IsGiven, token_text}
use Rattle.ttl_tokens.proofs.RestLemmas.{IsRest, takes_rest}
use Rattle.iri_resolve.proofs.CutLemmas.{before_first-at, before_first-none}

exactly_begins : (c : ℕ) (xs ys : List ℕ) → Takes PastChar (exactly c) xs ys → xs ≡ c ∷ ys
exactly_begins c [] ys t = absurd t
exactly_begins c (d ∷ cs) ys t = ap (λ (e : ℕ). e ∷ cs) (eqb-true d c t.0) ∙ ap (λ (l : List ℕ). c ∷ l) t.1

-- what a form takes begins with the characters that stand first in it
one_begins : (c : ℕ) (f : Chars) (xs ys : List ℕ) → Takes PastChar (Then (exactly c) f) xs ys
    → (front : List ℕ) × (xs ≡ ((c ∷ []) ++ front) ++ ys)
one_begins c f xs ys t =
    let rest : IsRest t.0 ys = takes_rest f t.0 ys t.2 in
    (rest.0, exactly_begins c xs t.0 t.1 ∙ ap (λ (l : List ℕ). c ∷ l) rest.1)

two_begin : (c d : ℕ) (f : Chars) (xs ys : List ℕ)
    → Takes PastChar (Then (Then (exactly c) (exactly d)) f) xs ys
    → (front : List ℕ) × (xs ≡ ((c ∷ d ∷ []) ++ front) ++ ys)
two_begin c d f xs ys t =
    let rest : IsRest t.0 ys = takes_rest f t.0 ys t.2 in (
      rest.0,
      exactly_begins c xs t.1.0 t.1.1
          ∙ ap (λ (l : List ℕ). c ∷ l) (exactly_begins d t.1.0 t.0 t.1.2 ∙ ap (λ (l : List ℕ). d ∷ l) rest.1),
    )

-- ---- the bytes of a token's text

module _ (text : List ℕ) (token : Token) (utf8 : IsUtf8 text) (given : IsGiven text token) where
  text_utf8 : IsUtf8 (token_text text token)
  text_utf8 = IsUtf8-between text token.start token.end utf8 given.1.order given.1.begin given.1.end

  text_chars : chars (drop token.start text) ≡ chars (token_text text token) ++ chars (drop token.end text)
  text_chars =
      ap chars (drop_split text token.start token.end given.1.order)
      ∙ chars-append (token_text text token) (drop token.end text) text_utf8

  -- the characters of ASCII with which it begins are its bytes
  bytes_begin : (mark front : List ℕ) → IsAscii mark
      → chars (drop token.start text) ≡ (mark ++ front) ++ chars (drop token.end text)
      → token_text text token ≡ mark ++ encodes front
  bytes_begin mark front ascii same =
      let parts : chars (token_text text token) ≡ mark ++ front =
      append_cancel_right (chars (token_text text token)) (mark ++ front) (chars (drop token.end text))
      (sym text_chars ∙ same) in
      sym (encodes-chars (token_text text token) text_utf8) ∙ ap encodes parts ∙ encodes-append mark front
      ∙ ap (λ (l : List ℕ). l ++ encodes front) (encodes-IsAscii mark ascii)

  kind_stands : (kind : TokenKind) → token.kind ≡ kind
      → IsNext (chars (drop token.start text)) kind (chars (drop token.end text))
  kind_stands kind same =
      subst (λ (k : TokenKind). IsNext (chars (drop token.start text)) k (chars (drop token.end text))) same
      given.1.next

  -- behind its `@` a language tag may be cut
  pub tag_cut : token.kind ≡ LangTag → IsCharBoundary (token_text text token) 1
  tag_cut kind =
      let begun = one_begins 64
      (Then (some (Item is_letter)) (Many (Then (word (codes "-")) (some (Item is_letter_or_digit)))))
      (chars (drop token.start text)) (chars (drop token.end text)) (kind_stands LangTag kind).stands in
      let same : token_text text token ≡ 64 ∷ encodes begun.0 =
      bytes_begin (64 ∷ []) begun.0 (IsAscii-cons 64 [] (omega arith) IsAscii-nil) begun.1 in
      let size : length (token_text text token) ≡ length (64 ∷ encodes begun.0) = ap length same in
      let first : get_or (token_text text token) 0 0 ≡ 64 = ap (λ (l : List ℕ). get_or l 0 0) same in
      IsCharBoundary-after_ascii (token_text text token) 0 text_utf8 (omega (arith, size))
      (omega (arith, first))

  -- behind its `_:` a label may be cut
  pub label_cut : token.kind ≡ BlankLabel → IsCharBoundary (token_text text token) 2
  label_cut kind =
      let begun = two_begin 95 58
      (Then (Item (λ c. is_name_start_or_line c || is_digit c))
      (dotted (Item is_name_char) (word (codes "."))))
      (chars (drop token.start text)) (chars (drop token.end text)) (kind_stands BlankLabel kind).stands in
      let same : token_text text token ≡ 95 ∷ 58 ∷ encodes begun.0 =
      bytes_begin (95 ∷ 58 ∷ []) begun.0
      (IsAscii-cons 95 (58 ∷ []) (omega arith) (IsAscii-cons 58 [] (omega arith) IsAscii-nil)) begun.1 in
      let size : length (token_text text token) ≡ length (95 ∷ 58 ∷ encodes begun.0) = ap length same in
      let second : get_or (token_text text token) 1 0 ≡ 58 = ap (λ (l : List ℕ). get_or l 1 0) same in
      IsCharBoundary-after_ascii (token_text text token) 1 text_utf8 (omega (arith, size))
      (omega (arith, second))

-- ---- before a colon

no_colon : (bs : List ℕ) → All (λ b. b ≢ 58) bs → list_any (λ b. b == 58) bs ≡ false
no_colon bs none = list_any_none (λ b. b == 58) bs (λ k d below. ne_eqb (get_or bs k d) 58 (none k d below))

pub prefix_cut : (name prefix behind : List ℕ) → name ≡ prefix ++ 58 ∷ behind → All (λ b. b ≢ 58) prefix
    → prefix ≡ before_first (λ b. b == 58) name
prefix_cut name prefix behind parts none =
    sym (ap (before_first (λ b. b == 58)) parts
    ∙ before_first-at (λ b. b == 58) prefix 58 behind (no_colon prefix none) refl)

pub prefix_whole : (name : List ℕ) → All (λ b. b ≢ 58) name → name ≡ before_first (λ b. b == 58) name
prefix_whole name none = sym (before_first-none (λ b. b == 58) name (no_colon name none))
