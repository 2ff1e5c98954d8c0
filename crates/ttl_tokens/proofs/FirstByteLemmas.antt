-- The first such character of a text, found by its byte.
use Rattle.std.proofs.Common.{◌≡◌, ◌≢◌, ℕ, ◌+◌, ◌<◌, ◌==◌, List, [], ◌∷◌, ◌++◌, length, get_or, refl, sym, ap}
use Rattle.std.proofs.Common.{◌≤◌, ◌∙◌, subst, arith, All, add-one, drop-cons, length-take, slice_range}
use Rattle.std.proofs.Math.ListN.{take, drop}
use Rattle.std.proofs.Math.Seq.{drop-append_seam}
use Rattle.std.proofs.Math.Utf8.{encode, encodes}
use Rattle.std.proofs.lemmas.Bool.{ne_eqb}
use Rattle.std.proofs.lemmas.List.{take-append-drop, get_or-take}
use Rattle.std.proofs.lemmas.List.Elements.{All-drop, All-from_get_or}
use Rattle.std.proofs.lemmas.Str.{chars_from_encodes, encodes-append, encodes-chars, encode_ascii}
use Rattle.std.specs.Str.{IsUtf8, NonePass, chars}
use Rattle.ttl_tokens.specs.Unescaped.{behind_colon}

-- ---- by characters

-- the first such character of cs stands between these
pub record IsCut (mark : ℕ) (cs front behind : List ℕ) : Type 0 where
  pub parts : cs ≡ front ++ mark ∷ behind
  pub none : NonePass (λ c. c == mark) front

-- ---- from bytes to characters

lacks : (mark : ℕ) → mark < 128 → (cs : List ℕ) → All (λ b. b ≢ mark) (encodes cs)
    → NonePass (λ c. c == mark) cs
lacks mark small [] none = tt
lacks mark small (c ∷ cs) none = (
  ne_eqb c mark other,
  lacks mark small cs
      (subst (All (λ b. b ≢ mark)) (drop-append_seam (encode c) (encodes cs))
      (All-drop (λ b. b ≢ mark) (length (encode c)) (encode c ++ encodes cs) none)),
)
  where
    other : c ≡ mark → ⊥
    other same =
        let one : encode c ≡ mark ∷ [] = ap encode same ∙ encode_ascii mark small in
        let first : All (λ b. b ≢ mark) (mark ∷ encodes cs) =
        subst (λ (l : List ℕ). All (λ b. b ≢ mark) (l ++ encodes cs)) one none in
        first 0 0 (omega arith) refl

pub no_mark : (mark : ℕ) → mark < 128 → (bs : List ℕ) → IsUtf8 bs → All (λ b. b ≢ mark) bs
    → NonePass (λ c. c == mark) (chars bs)
no_mark mark small bs utf8 none =
    lacks mark small (chars bs) (subst (All (λ b. b ≢ mark)) (sym (encodes-chars bs utf8)) none)

pub is_cut : (mark : ℕ) → mark < 128 → (bs front behind : List ℕ) → IsUtf8 bs → IsUtf8 front
    → IsUtf8 behind → bs ≡ front ++ mark ∷ behind → All (λ b. b ≢ mark) front
    → IsCut mark (chars bs) (chars front) (chars behind)
is_cut mark small bs front behind utf8 front_utf8 behind_utf8 parts none = record {
  parts =
      sym (chars_from_encodes (chars front ++ mark ∷ chars behind) bs utf8
      (encodes-append (chars front) (mark ∷ chars behind)
      ∙ rw (encode_ascii mark small, encodes-chars front front_utf8, encodes-chars behind behind_utf8)
      (sym parts)));
  none = no_mark mark small front front_utf8 none;
}

-- ---- by bytes

-- the byte stands here, and nowhere before
pub cut_here : (text front behind : List ℕ) (at byte : ℕ) → at < length text → get_or text at 0 ≡ byte
    → ((k : ℕ) → k < at → get_or text k 0 ≢ byte) → front ≡ slice_range text 0 at
    → behind ≡ drop (at + 1) text → (text ≡ front ++ byte ∷ behind) × All (λ b. b ≢ byte) front
cut_here text front behind at byte inside here before is_front is_behind =
    let same : front ≡ take at text = is_front ∙ ap (λ (n : ℕ). take n text) (omega arith) in (
      sym (take-append-drop at text) ∙ rw (← same) (ap (λ (l : List ℕ). front ++ l) next),
      subst (All (λ b. b ≢ byte)) (sym same) (All-from_get_or (λ b. b ≢ byte) (take at text) 0 none),
    )
  where
    next : drop at text ≡ byte ∷ behind
    next = drop-cons text at 0 inside ∙ rw (here, ← add-one, ← is_behind) refl

    none : (k : ℕ) → k < length (take at text) → get_or (take at text) k 0 ≢ byte
    none k below =
        let small : k < at = omega (arith, below, length-take at text) in
        rw (get_or-take at text k 0 small) (before k small)

pub lacks_byte : (text : List ℕ) (byte at : ℕ) → length text ≤ at
    → ((k : ℕ) → k < at → get_or text k 0 ≢ byte) → All (λ b. b ≢ byte) text
lacks_byte text byte at past before =
    All-from_get_or (λ b. b ≢ byte) text 0 (λ k below. before k (omega (arith, below, past)))

-- ---- the text behind a colon

pub behind_cut : {cs front behind : List ℕ} → IsCut 58 cs front behind → behind_colon cs ≡ behind
behind_cut {front = front} {behind = behind} cut = ap behind_colon cut.parts ∙ past front cut.none
  where
    past : (xs : List ℕ) → NonePass (λ c. c == 58) xs → behind_colon (xs ++ 58 ∷ behind) ≡ behind
    past [] none = refl
    past (c ∷ xs) none = rw none.0 (past xs none.1)

pub behind_none : (cs : List ℕ) → NonePass (λ c. c == 58) cs → behind_colon cs ≡ []
behind_none [] none = refl
behind_none (c ∷ cs) none = rw none.0 (behind_none cs none.1)
