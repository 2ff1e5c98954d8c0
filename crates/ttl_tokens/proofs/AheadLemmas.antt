-- Looking ahead: where no prefixed name begins, none begins within the longest prefix.
use Rattle.std.proofs.Common.{◌≡◌, ℕ, zero, suc, ◌+◌, ◌-◌, ◌≤◌, ◌<◌, true, List, [], ◌∷◌, ◌++◌, length, refl}
use Rattle.std.proofs.Common.{sym, ap, ◌∙◌, subst, ◌⊎◌, inl, inr, arith, length-append, true≢false}
use Rattle.std.proofs.Math.ListN.{take, drop}
use Rattle.std.proofs.Math.Seq.{take-append_seam, drop-drop}
use Rattle.std.proofs.Math.Utf8.{encodes}
use Rattle.std.proofs.lemmas.List.{length-drop}
use Rattle.std.proofs.lemmas.Str.{encodes-chars, chars-append, IsUtf8-take, IsUtf8-drop}
use Rattle.std.proofs.lemmas.Str.{IsCharBoundary-at_seam}
use Rattle.std.specs.Str.{IsUtf8, IsCharBoundary, chars}
use Rattle.ttl_tokens.specs.declared.lookahead.Lookahead.{Lookahead}
use Rattle.ttl_tokens.specs.declared.token.TokenKind.{TokenKind}
use Rattle.ttl_tokens.specs.declared.token.TokenKind.TheVariants.{PnameNs, WordA, WordTrue, WordFalse}
use Rattle.ttl_tokens.specs.declared.token.TokenKind.TheVariants.{WordPrefix, WordBase}
use Rattle.ttl_tokens.specs.inner.Lookahead.{KnowsAhead}
use Rattle.ttl_tokens.specs.inner.NameForms.{is_word}
use Rattle.ttl_tokens.specs.Tokens.{Stands, IsToken}
use Rattle.ttl_tokens.specs.Form.{Item, Then, Many, Times, Takes}
use Rattle.ttl_tokens.specs.Walks.{Never}
use Rattle.ttl_tokens.specs.Chars.{PastChar, exactly, is_name_char, is_name_start}
use Rattle.ttl_tokens.specs.Terminals.{pn_prefix, pname_ns, terminal}
use Rattle.ttl_tokens.proofs.FormLemmas.{times_then}
use Rattle.ttl_tokens.proofs.PrefixLemmas.{name_or_dot, prefix_run, colon_ends, past_wider, start_is_name}
use Rattle.ttl_tokens.proofs.PrefixLemmas.{word_shorter}
use Rattle.ttl_tokens.proofs.PlaceLemmas.{IsBehind, behind_begins, behind_drops, at_front, bytes_rest}
use Rattle.ttl_tokens.proofs.PlaceLemmas.{rest_drop}
use Rattle.ttl_tokens.proofs.RestLemmas.{IsRest, rest_then, takes_rest}

-- ---- a run of characters of names and dots, parted at a place within it

one_char : (c : ℕ) (cs ys : List ℕ) → Takes PastChar name_or_dot (c ∷ cs) ys → cs ≡ ys
one_char c cs ys (inl t) = t.1
one_char c cs ys (inr t) = t.1

-- the run comes to ps, and from there to its end
record Parted (xs ps end : List ℕ) : Type 0 where
  front : Takes PastChar (Many name_or_dot) xs ps
  back : Takes PastChar (Many name_or_dot) ps end

parted : (n : ℕ) (front xs ps end : List ℕ) → xs ≡ front ++ ps → length end ≤ length ps
    → Times (Takes PastChar name_or_dot) n xs end → Parted xs ps end
parted n [] xs ps end e le t = record {
  front = (zero, e);
  back = (n, subst (λ v. Times (Takes PastChar name_or_dot) n v end) e t);
}
parted zero (c ∷ front) xs ps end e le t =
    let whole = ap length (sym t ∙ e) in
    let parts = length-append front ps in
    absurd (omega (arith, whole, parts, le))
parted (suc n) (c ∷ front) xs ps end e le t =
    let step : Takes PastChar name_or_dot (c ∷ (front ++ ps)) t.0 =
    subst (λ v. Takes PastChar name_or_dot v t.0) e t.1 in
    let next = parted n front t.0 ps end (sym (one_char c (front ++ ps) t.0 step)) le t.2 in
    record { front = (suc next.front.0, (t.0, t.1, next.front.1)); back = next.back }

-- ---- prefixes

-- behind a character that begins names, and a run, a prefix still ends a prefix
longer_prefix : (c : ℕ) (cs ps m : List ℕ) → is_name_start c ≡ true
    → Takes PastChar (Many name_or_dot) cs ps → Takes PastChar pn_prefix ps m
    → Takes PastChar pn_prefix (c ∷ cs) m
longer_prefix c cs ps m begin run t = (cs, (begin, refl), inr (tail t.2))
  where
    first : PastChar is_name_char ps t.0
    first = past_wider is_name_start is_name_char start_is_name ps t.0 t.1

    onto : (w : List ℕ) → Takes PastChar (Many name_or_dot) ps w → Takes PastChar (Many name_or_dot) cs w
    onto w more = times_then (Takes PastChar name_or_dot) run.0 cs ps w run.1 more

    tail : (t.0 ≡ m) ⊎ Takes PastChar (Then (Many name_or_dot) (Item is_name_char)) t.0 m
        → Takes PastChar (Then (Many name_or_dot) (Item is_name_char)) cs m
    tail (inl e) = (ps, run, subst (λ v. PastChar is_name_char ps v) e first)
    tail (inr s) = (s.0, onto s.0 (suc s.1.0, (t.0, inl first, s.1.1)), s.2)

-- where no prefixed name begins, none begins behind it and before the end of the prefix
none_within : (xs ps end : List ℕ) → Never PastChar pname_ns xs → Takes PastChar pn_prefix xs end
    → IsRest xs ps → length ps < length xs → length end < length ps → Never PastChar pname_ns ps
none_within [] ps end never t rest less within = absurd (omega (arith, less))
none_within (c ∷ cs) ps end never t rest less within = record { none = λ ys s. go ys s.0 s.1 s.2 }
  where
    run : Takes PastChar (Many name_or_dot) (c ∷ cs) end
    run = prefix_run (c ∷ cs) end t

    parts : Parted (c ∷ cs) ps end
    parts = parted run.0 rest.0 (c ∷ cs) ps end rest.1 (omega (arith, within)) run.1

    no_colon : (ys : List ℕ) → Takes PastChar (exactly 58) ps ys → (n : ℕ)
        → Times (Takes PastChar name_or_dot) n ps end → ⊥
    no_colon ys mark zero e = let same = ap length e in omega (arith, same, within)
    no_colon ys mark (suc n) s = (colon_ends ps ys mark).none s.0 s.1

    -- the run up to ps begins with c
    to_place : (n : ℕ) → Times (Takes PastChar name_or_dot) n (c ∷ cs) ps
        → Takes PastChar (Many name_or_dot) cs ps
    to_place zero e = absurd (let same = ap length e in omega (arith, same, less))
    to_place (suc n) s =
        (n, subst (λ v. Times (Takes PastChar name_or_dot) n v ps) (sym (one_char c cs s.0 s.1)) s.2)

    go : (ys m : List ℕ) → (ps ≡ m) ⊎ Takes PastChar pn_prefix ps m → Takes PastChar (exactly 58) m ys → ⊥
    go ys m (inl e) mark =
        no_colon ys (subst (λ v. Takes PastChar (exactly 58) v ys) (sym e) mark) parts.back.0 parts.back.1
    go ys m (inr s) mark =
        never.none ys
        (m, inr (longer_prefix c cs ps m t.1.0 (to_place parts.front.0 parts.front.1) s), mark)

-- ---- words

stands_word : (k : TokenKind) (xs ys : List ℕ) → is_word k ≡ true → Stands k xs ys
    → Takes PastChar (terminal k) xs ys
stands_word WordA xs ys is t = t
stands_word WordTrue xs ys is t = t
stands_word WordFalse xs ys is t = t
stands_word WordPrefix xs ys is t = t
stands_word WordBase xs ys is t = t
stands_word k xs ys is t = absurd (true≢false (sym is))

-- where a word is the token, no prefixed name begins
word_never : (xs : List ℕ) (k : TokenKind) (ys : List ℕ) → is_word k ≡ true → IsToken xs k ys
    → Never PastChar pname_ns xs
word_never xs k ys is t = record { none = λ zs s. go zs s (t.longest PnameNs zs s) }
  where
    go : (zs : List ℕ) → Takes PastChar pname_ns xs zs → ((PnameNs ≡ k) × (zs ≡ ys)) ⊎ (length ys < length zs)
        → ⊥
    go zs s (inl e) = true≢false (sym is ∙ ap is_word (sym e.0))
    go zs s (inr less) =
        let before = word_shorter k xs zs ys is (stands_word k xs ys is t.stands) s in
        omega (arith, before, less)

-- ---- bytes

drop_rest : (text : List ℕ) (a b : ℕ) → a ≤ b → IsRest (drop a text) (drop b text)
drop_rest text a b le =
    let same : a + (b - a) ≡ b = omega (arith, le) in
    subst (λ v. IsRest (drop a text) v) (drop-drop (b - a) a text ∙ ap (λ (n : ℕ). drop n text) same)
    (at_front (drop a text) (b - a))

chars_rest : (xs ys : List ℕ) → IsUtf8 xs → IsUtf8 ys → IsRest xs ys → IsRest (chars xs) (chars ys)
chars_rest xs ys utf8 utf8' a = (chars a.0, ap chars a.1 ∙ chars-append a.0 ys front)
  where
    front : IsUtf8 a.0
    front =
        subst IsUtf8 (ap (take (length a.0)) a.1 ∙ take-append_seam a.0 ys)
        (IsUtf8-take xs (length a.0) utf8 (IsCharBoundary-at_seam xs a.0 ys a.1 utf8'))

chars_shorter : (xs ys : List ℕ) → IsUtf8 xs → IsUtf8 ys → IsRest xs ys → length ys < length xs
    → length (chars ys) < length (chars xs)
chars_shorter xs ys utf8 utf8' a less = let r = chars_rest xs ys utf8 utf8' a in go r.0 r.1
  where
    go : (front : List ℕ) → chars xs ≡ front ++ chars ys → length (chars ys) < length (chars xs)
    go [] e =
        let same = ap length (sym (encodes-chars xs utf8) ∙ ap encodes e ∙ encodes-chars ys utf8') in
        absurd (omega (arith, same, less))
    go (c ∷ front) e =
        let whole = ap length e in let parts = length-append front (chars ys) in omega (arith, whole, parts)

-- what the prefix at byte `start` leaves is a rest of the text
pub prefix_rest : (text : List ℕ) (start : ℕ) (slice end : List ℕ) → slice ≡ drop start text → IsUtf8 slice
    → IsUtf8 end → Takes PastChar pn_prefix (chars slice) (chars end) → IsRest text end
prefix_rest text start slice end cut whole utf8 t =
    rest_then text (drop start text) end (at_front text start)
    (subst (λ v. IsRest v end) cut
    (bytes_rest slice end whole utf8 (takes_rest pn_prefix (chars slice) (chars end) t)))

-- no prefixed name begins within the prefix at byte `start`, as none begins there
pub none_at : (text : List ℕ) (start p : ℕ) (slice end : List ℕ) → IsUtf8 text → slice ≡ drop start text
    → IsUtf8 slice → IsUtf8 end → Never PastChar pname_ns (chars (drop start text))
    → Takes PastChar pn_prefix (chars slice) (chars end) → start + 1 ≤ p → p < length text - length end
    → IsCharBoundary text p → Never PastChar pname_ns (chars (drop p text))
none_at text start p slice end utf8 cut whole utf8' never t from until begin =
    let rest : IsRest text end = prefix_rest text start slice end cut whole utf8' t in
    let start_utf8 : IsUtf8 (drop start text) = subst IsUtf8 cut whole in
    let place_utf8 : IsUtf8 (drop p text) = IsUtf8-drop text p utf8 begin in
    let front : IsRest (drop start text) (drop p text) = drop_rest text start p (omega (arith, from)) in
    let back : IsRest (drop p text) end =
    subst (λ v. IsRest (drop p text) v) (rest_drop text end rest)
    (drop_rest text p (length text - length end) (omega (arith, until))) in
    let from_start = length-drop start text in
    let from_place = length-drop p text in
    none_within (chars (drop start text)) (chars (drop p text)) (chars end) never
    (subst (λ v. Takes PastChar pn_prefix (chars v) (chars end)) cut t)
    (chars_rest (drop start text) (drop p text) start_utf8 place_utf8 front)
    (chars_shorter (drop start text) (drop p text) start_utf8 place_utf8 front
    (omega (arith, from, until, from_start, from_place)))
    (chars_shorter (drop p text) end place_utf8 utf8' back (omega (arith, until, from_place)))

-- ---- what stands behind white space and comments

pub known_behind : (text : List ℕ) (at : ℕ) (rest : List ℕ) (ahead : Lookahead) → IsBehind text at rest
    → KnowsAhead text ahead → ahead.from ≤ length text - length rest → length text - length rest < ahead.until
    → Never PastChar pname_ns (chars rest)
known_behind text at rest ahead b known from until =
    subst (λ v. Never PastChar pname_ns (chars v)) (behind_drops text at rest b)
    (known (length text - length rest) from until (behind_begins text at rest b))

pub word_behind : (text : List ℕ) (at : ℕ) (rest : List ℕ) (k : TokenKind) (ys : List ℕ)
    → IsBehind text at rest → is_word k ≡ true → IsToken (chars rest) k ys
    → Never PastChar pname_ns (chars (drop (length text - length rest) text))
word_behind text at rest k ys b is t =
    subst (λ v. Never PastChar pname_ns (chars v)) (sym (behind_drops text at rest b))
    (word_never (chars rest) k ys is t)
