-- From characters to places in bytes: what stands behind is what is left of the text.
use Rattle.std.proofs.Common.{◌≡◌, ℕ, ◌+◌, ◌-◌, ◌≤◌, ◌<◌, List, [], ◌∷◌}
use Rattle.std.proofs.Common.{◌++◌, length, refl, sym, ap, ◌∙◌, subst, arith}
use Rattle.std.proofs.Common.{true≢false}
use Rattle.std.proofs.Math.ListN.{take, drop}
use Rattle.std.proofs.Math.Seq.{drop-append_seam}
use Rattle.std.proofs.Math.Utf8.{encodes}
use Rattle.std.proofs.lemmas.List.{take-append-drop, length-append, length-drop, nil_from_length}
use Rattle.std.proofs.lemmas.Str.{encodes-chars, encodes-append, IsCharBoundary-from_drop, chars-nil}
use Rattle.std.specs.Str.{IsUtf8, IsCharBoundary, chars}
use Rattle.ttl_tokens.specs.declared.token.TokenKind.{TokenKind}
use Rattle.ttl_tokens.specs.declared.token.TokenKind.TheVariants.{Anon, End, StringQuote, StringSingleQuote}
use Rattle.ttl_tokens.specs.Blanks.{blanks, SkipsBlanks}
use Rattle.ttl_tokens.specs.Terminals.{terminal}
use Rattle.ttl_tokens.proofs.RestLemmas.{IsRest, rest_then, takes_rest}
use Rattle.ttl_tokens.specs.Tokens.{Stands, IsToken, IsNoToken, IsNext, IsTokenAt, IsNoTokenAt}

stands_rest : (k : TokenKind) (xs ys : List ℕ) → Stands k xs ys → IsRest xs ys
stands_rest Anon xs ys t =
    let inside : IsRest t.0 (93 ∷ ys) = takes_rest blanks t.0 (93 ∷ ys) t.2.takes in
    rest_then xs t.0 ys (91 ∷ [], t.1) (rest_then t.0 (93 ∷ ys) ys inside (93 ∷ [], refl))
stands_rest StringQuote xs ys t = takes_rest (terminal StringQuote) xs ys t.0
stands_rest StringSingleQuote xs ys t = takes_rest (terminal StringSingleQuote) xs ys t.0
stands_rest k xs ys t = takes_rest (terminal k) xs ys t

-- ---- bytes

pub bytes_rest : (text rest : List ℕ) → IsUtf8 text → IsUtf8 rest → IsRest (chars text) (chars rest)
    → IsRest text rest
bytes_rest text rest utf8 utf8' a = (
  encodes a.0,
  sym (encodes-chars text utf8) ∙ ap encodes a.1 ∙ encodes-append a.0 (chars rest)
      ∙ ap (λ (l : List ℕ). encodes a.0 ++ l) (encodes-chars rest utf8'),
)

rest_length : (text rest : List ℕ) (a : IsRest text rest) → length text ≡ length a.0 + length rest
rest_length text rest a = ap length a.1 ∙ length-append a.0 rest

pub rest_le : (text rest : List ℕ) → IsRest text rest → length rest ≤ length text
rest_le text rest a = let same = rest_length text rest a in omega (arith, same)

rest_start : (text rest : List ℕ) (a : IsRest text rest) → length text - length rest ≡ length a.0
rest_start text rest a = let same = rest_length text rest a in omega (arith, same)

pub rest_drop : (text rest : List ℕ) → IsRest text rest → drop (length text - length rest) text ≡ rest
rest_drop text rest a =
    ap (λ (n : ℕ). drop n text) (rest_start text rest a) ∙ ap (λ (l : List ℕ). drop (length a.0) l) a.1
    ∙ drop-append_seam a.0 rest

rest_boundary : (text rest : List ℕ) → IsUtf8 rest → IsRest text rest
    → IsCharBoundary text (length text - length rest)
rest_boundary text rest utf8 a =
    IsCharBoundary-from_drop text (length text - length rest) (omega arith)
    (subst IsUtf8 (sym (rest_drop text rest a)) utf8)

-- what stands behind white space and comments from a byte on is a rest of the text
pub blanks_rest : (text : List ℕ) (at : ℕ) (behind : List ℕ) → IsUtf8 (drop at text) → IsUtf8 behind
    → SkipsBlanks (chars (drop at text)) (chars behind) → IsRest (drop at text) behind
blanks_rest text at behind utf8 utf8' skips =
    bytes_rest (drop at text) behind utf8 utf8'
    (takes_rest blanks (chars (drop at text)) (chars behind) skips.takes)

pub token_rest : (text : List ℕ) (kind : TokenKind) (rest : List ℕ) → IsUtf8 text → IsUtf8 rest
    → IsToken (chars text) kind (chars rest) → IsRest text rest
token_rest text kind rest utf8 utf8' t =
    bytes_rest text rest utf8 utf8' (stands_rest kind (chars text) (chars rest) t.stands)

-- ---- the token at a place

pub at_front : (text : List ℕ) (at : ℕ) → IsRest text (drop at text)
at_front text at = (take at text, sym (take-append-drop at text))

place_le : (text : List ℕ) (at : ℕ) (behind : List ℕ) → at ≤ length text → IsRest (drop at text) behind
    → at ≤ length text - length behind
place_le text at behind le a =
    let less = rest_le (drop at text) behind a in
    let left = length-drop at text in
    omega (arith, less, left, le)

next_of : (xs : List ℕ) (kind : TokenKind) (ys : List ℕ) → IsToken xs kind ys → IsNext xs kind ys
next_of [] End ys t = absurd t.stands
next_of (c ∷ cs) End ys t = absurd (true≢false (sym t.stands.0))
next_of xs kind ys t = t

-- `rest` is what stands behind white space and comments from byte `at` on
pub record IsBehind (text : List ℕ) (at : ℕ) (rest : List ℕ) : Type 0 where
  pub within : at ≤ length text
  pub utf8 : IsUtf8 rest
  pub whole : IsUtf8 (drop at text)
  pub skips : SkipsBlanks (chars (drop at text)) (chars rest)

pub is_behind : (text : List ℕ) (at : ℕ) (slice rest : List ℕ) → at ≤ length text → slice ≡ drop at text
    → IsUtf8 slice → IsUtf8 rest → SkipsBlanks (chars slice) (chars rest) → IsBehind text at rest
is_behind text at slice rest within cut whole utf8 skips = record {
  within = within;
  utf8 = utf8;
  whole = subst IsUtf8 cut whole;
  skips = subst (λ l. SkipsBlanks (chars l) (chars rest)) cut skips;
}

behind_drop : (text : List ℕ) (at : ℕ) (rest : List ℕ) → IsBehind text at rest → IsRest (drop at text) rest
behind_drop text at rest b = blanks_rest text at rest b.whole b.utf8 b.skips

behind_text : (text : List ℕ) (at : ℕ) (rest : List ℕ) → IsBehind text at rest → IsRest text rest
behind_text text at rest b =
    rest_then text (drop at text) rest (at_front text at) (behind_drop text at rest b)

pub behind_le : (text : List ℕ) (at : ℕ) (rest : List ℕ) → IsBehind text at rest → length rest ≤ length text
behind_le text at rest b = rest_le text rest (behind_text text at rest b)

pub behind_drops : (text : List ℕ) (at : ℕ) (rest : List ℕ) → IsBehind text at rest
    → drop (length text - length rest) text ≡ rest
behind_drops text at rest b = rest_drop text rest (behind_text text at rest b)

pub behind_begins : (text : List ℕ) (at : ℕ) (rest : List ℕ) → IsBehind text at rest
    → IsCharBoundary text (length text - length rest)
behind_begins text at rest b = rest_boundary text rest b.utf8 (behind_text text at rest b)

pub token_at_end : (text : List ℕ) (at : ℕ) (rest : List ℕ) → IsBehind text at rest → length rest ≡ 0
    → IsTokenAt text at
    (record { kind = End; start = length text - length rest; end = length text - length rest })
token_at_end text at rest b none =
    let place : IsRest text rest = behind_text text at rest b in
    let empty : rest ≡ [] = nil_from_length rest none in
    let start : drop (length text - length rest) text ≡ rest = rest_drop text rest place in
    record {
      from = place_le text at rest b.within (behind_drop text at rest b);
      order = omega arith;
      within = omega arith;
      begin = rest_boundary text rest b.utf8 place;
      end = rest_boundary text rest b.utf8 place;
      behind = rw start b.skips;
      next = (ap chars (start ∙ empty) ∙ chars-nil, ap chars (start ∙ empty) ∙ chars-nil);
    }

pub token_at : (text : List ℕ) (at : ℕ) (rest : List ℕ) (kind : TokenKind) (left : List ℕ)
    → IsBehind text at rest
    → IsUtf8 left → IsToken (chars rest) kind (chars left)
    → IsTokenAt text at
    (record { kind = kind; start = length text - length rest; end = length text - length left })
token_at text at rest kind left b utf8 t =
    let place : IsRest text rest = behind_text text at rest b in
    let inner : IsRest rest left = token_rest rest kind left b.utf8 utf8 t in
    let end : IsRest text left = rest_then text rest left place inner in
    let shorter : length left ≤ length rest = rest_le rest left inner in
    record {
      from = place_le text at rest b.within (behind_drop text at rest b);
      order = omega (arith, shorter);
      within = omega arith;
      begin = rest_boundary text rest b.utf8 place;
      end = rest_boundary text left utf8 end;
      behind = rw (rest_drop text rest place) b.skips;
      next = rw (rest_drop text rest place, rest_drop text left end)
          (next_of (chars rest) kind (chars left) t);
    }

pub no_token_at : (text : List ℕ) (at : ℕ) (rest : List ℕ) → IsBehind text at rest → 0 < length rest
    → IsNoToken (chars rest) → IsNoTokenAt text at (length text - length rest)
no_token_at text at rest b some n =
    let place : IsRest text rest = behind_text text at rest b in
    let shorter : length rest ≤ length text = rest_le text rest place in
    record {
      from = place_le text at rest b.within (behind_drop text at rest b);
      within = omega (arith, some, shorter);
      begin = rest_boundary text rest b.utf8 place;
      behind = rw (rest_drop text rest place) b.skips;
      none = rw (rest_drop text rest place) n;
    }
