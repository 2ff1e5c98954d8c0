-- Escapes undone, from one backslash to the next.
use Rattle.std.proofs.Common.{◌≡◌, ℕ, zero, suc, ◌<◌, ◌==◌, List, [], ◌∷◌, ◌++◌, length, refl, sym, ap}
use Rattle.std.proofs.Common.{◌∙◌, arith, append_assoc, subst}
use Rattle.std.proofs.Math.ListN.{take, drop}
use Rattle.std.proofs.Math.Seq.{take-append_seam}
use Rattle.std.proofs.Math.Utf8.{encode, encodes}
use Rattle.std.proofs.lemmas.List.{length-append, length-drop, append-nil}
use Rattle.std.proofs.lemmas.Str.{encodes-append, encodes-chars, IsCharBoundary-from_take}
use Rattle.std.specs.Prelude.{Result, Ok, Err, is_ok, OnOk, OnErr, if◌then◌else◌}
use Rattle.std.specs.Str.{IsUtf8, IsCharBoundary, NonePass, chars}
use Rattle.ttl_tokens.specs.Unescaped.{char_of, escape_number, escape_length, undone_behind, undone}
use Rattle.ttl_tokens.proofs.FirstByteLemmas.{IsCut}

-- ---- by characters

pub skips : (n : ℕ) (cs : List ℕ) → undone_behind n cs ≡ undone (drop n cs)
skips zero cs = refl
skips (suc n) [] = refl
skips (suc n) (c ∷ cs) = skips n cs

-- up to the first backslash characters stand for themselves
abbrev no_backslash : List ℕ → Type 0
no_backslash cs = NonePass (λ c. c == 92) cs

plain_front : (front cs : List ℕ) → no_backslash front → undone (front ++ cs) ≡ front ++ undone cs
plain_front [] cs none = refl
plain_front (c ∷ front) cs none = rw none.0 (ap (λ (l : List ℕ). c ∷ l) (plain_front front cs none.1))

pub plain_text : (cs : List ℕ) → no_backslash cs → undone cs ≡ cs
plain_text cs none = ap undone (sym (append-nil cs)) ∙ plain_front cs [] none ∙ append-nil cs

pub cut_undone : {cs front escape : List ℕ} → IsCut 92 cs front escape
    → undone cs ≡ front ++ char_of (escape_number escape) ∷ undone (drop (escape_length escape) escape)
cut_undone {front = front} {escape = escape} cut =
    ap undone cut.parts ∙ plain_front front (92 ∷ escape) cut.none
    ∙ ap (λ (l : List ℕ). front ++ char_of (escape_number escape) ∷ l) (skips (escape_length escape) escape)

pub cut_shorter : {cs front escape : List ℕ} → IsCut 92 cs front escape → (n : ℕ)
    → length (drop n escape) < length cs
cut_shorter {front = front} {escape = escape} cut n =
    let whole = ap length cut.parts ∙ length-append front (92 ∷ escape) in
    let rest = length-drop n escape in
    omega (arith, whole, rest)

-- ---- by bytes

-- what was written so far, and what a front and an escape add
pub written_on : (whole out out' plain cs escape : List ℕ) → IsCut 92 cs (chars plain) escape → IsUtf8 plain
    → whole ≡ out ++ encodes (undone cs) → out' ≡ (out ++ plain) ++ encode (char_of (escape_number escape))
    → whole ≡ out' ++ encodes (undone (drop (escape_length escape) escape))
written_on whole out out' plain cs escape cut utf8 so_far more =
    let c = char_of (escape_number escape) in
    let rest = undone (drop (escape_length escape) escape) in
    let meant : encodes (undone cs) ≡ plain ++ (encode c ++ encodes rest) =
    ap encodes (cut_undone cut) ∙ encodes-append (chars plain) (c ∷ rest)
    ∙ ap (λ (l : List ℕ). l ++ (encode c ++ encodes rest)) (encodes-chars plain utf8) in
    so_far ∙ ap (λ (l : List ℕ). out ++ l) meant ∙ sym (append_assoc out plain (encode c ++ encodes rest))
    ∙ sym (append_assoc (out ++ plain) (encode c) (encodes rest))
    ∙ ap (λ (l : List ℕ). l ++ encodes rest) (sym more)

pub written_all : (whole out bs : List ℕ) → IsUtf8 bs → no_backslash (chars bs)
    → whole ≡ out ++ encodes (undone (chars bs)) → out ++ bs ≡ whole
written_all whole out bs utf8 none so_far =
    sym (so_far ∙ ap (λ (l : List ℕ). out ++ encodes l) (plain_text (chars bs) none)
    ∙ ap (λ (l : List ℕ). out ++ l) (encodes-chars bs utf8))

-- ---- behind what a string had

-- old stands in front of now
abbrev pub Grown : List ℕ → List ℕ → Type 0
Grown old now = (added : List ℕ) × (now ≡ old ++ added)

pub grown_on : (old now now' more : List ℕ) → Grown old now → now' ≡ now ++ more → Grown old now'
grown_on old now now' more grown step =
    (grown.0 ++ more, step ∙ ap (λ (l : List ℕ). l ++ more) grown.1 ∙ append_assoc old grown.0 more)

-- where old ends may be cut
pub grown_cut : (old now : List ℕ) (n : ℕ) → n ≡ length old → IsUtf8 old → IsUtf8 now → Grown old now
    → IsCharBoundary now n
grown_cut old now n size old_utf8 utf8 grown =
    let front : take n now ≡ old = rw (size, grown.1) (take-append_seam old grown.0) in
    let whole = ap length grown.1 ∙ length-append old grown.0 in
    IsCharBoundary-from_take now n utf8 (omega (arith, size, whole)) (subst IsUtf8 (sym front) old_utf8)

-- the last text is pushed, or is not for want of memory
pub pushed_last : {T E : Type 0} (r : Result T E) (old now now' last whole : List ℕ)
    → Grown old now → now ++ last ≡ whole → now' ≡ (if is_ok r then now ++ last else now)
    → OnOk r (now' ≡ whole) × OnErr r (Grown old now')
pushed_last (Ok x) old now now' last whole grown all step = (step ∙ all, tt)
pushed_last (Err e) old now now' last whole grown all step = (tt, (grown.0, step ∙ grown.1))
