-- A prefix and its colon: where it ends, and that a word at the same place ends before it.
use Rattle.std.proofs.Common.{◌≡◌, ℕ, zero, suc, ◌<◌, Bool, true, false, ◌&&◌, ◌||◌, ◌==◌, List, [], ◌∷◌}
use Rattle.std.proofs.Common.{◌+◌, codes, length, refl, sym, ◌∙◌, subst, ◌⊎◌, inl, inr, arith, true≢false}
use Rattle.std.proofs.lemmas.Bool.Decides.{nat_tests}
use Rattle.ttl_tokens.specs.declared.token.TokenKind.{TokenKind}
use Rattle.ttl_tokens.specs.declared.token.TokenKind.TheVariants.{WordA, WordTrue, WordFalse, WordPrefix}
use Rattle.ttl_tokens.specs.declared.token.TokenKind.TheVariants.{WordBase}
use Rattle.ttl_tokens.specs.Form.{Item, Then, Or, Maybe, Many, Times, Takes}
use Rattle.ttl_tokens.specs.Walks.{Never, Only, Same, Apart}
use Rattle.ttl_tokens.specs.Chars.{Chars, Longest, PastChar, word, any_case, between, is_letter, is_name_char}
use Rattle.ttl_tokens.specs.Chars.{is_name_start, exactly}
use Rattle.ttl_tokens.specs.Terminals.{pn_prefix, pname_ns, terminal}
use Rattle.ttl_tokens.specs.inner.NameForms.{is_word}
use Rattle.ttl_tokens.proofs.CharLemmas.{many_longest, apart_char, takes_shorter}
use Rattle.ttl_tokens.proofs.RestLemmas.{same_place}
use Rattle.ttl_tokens.proofs.FormLemmas.{times_one_more}

-- ---- runs of characters of names and dots

abbrev pub name_or_dot : Chars
name_or_dot = Or (Item is_name_char) (exactly 46)

pub past_wider : (p q : ℕ → Bool) → ((c : ℕ) → p c ≡ true → q c ≡ true) → (xs ys : List ℕ) → PastChar p xs ys
    → PastChar q xs ys
past_wider p q wider [] ys t = absurd t
past_wider p q wider (c ∷ cs) ys t = (wider c t.0, t.1)

past_same : (p q : ℕ → Bool) (xs ys zs : List ℕ) → PastChar p xs ys → PastChar q xs zs → ys ≡ zs
past_same p q [] ys zs s t = absurd s
past_same p q (c ∷ cs) ys zs s t = sym s.1 ∙ t.1

one_only : (xs ys : List ℕ) → Takes PastChar name_or_dot xs ys → Only PastChar name_or_dot xs ys
one_only xs ys t = record { takes = t; only = λ zs s. both zs t s }
  where
    both : (zs : List ℕ) → Takes PastChar name_or_dot xs ys → Takes PastChar name_or_dot xs zs → ys ≡ zs
    both zs (inl a) (inl b) = past_same is_name_char is_name_char xs ys zs a b
    both zs (inl a) (inr b) = past_same is_name_char (λ c. c == 46) xs ys zs a b
    both zs (inr a) (inl b) = past_same (λ c. c == 46) is_name_char xs ys zs a b
    both zs (inr a) (inr b) = past_same (λ c. c == 46) (λ c. c == 46) xs ys zs a b

times_only : (n : ℕ) (xs ys : List ℕ) → Times (Takes PastChar name_or_dot) n xs ys
    → Times (Only PastChar name_or_dot) n xs ys
times_only zero xs ys e = e
times_only (suc n) xs ys t = (t.0, one_only xs t.0 t.1, times_only n t.0 ys t.2)

pub colon_ends : (xs ys : List ℕ) → Takes PastChar (exactly 58) xs ys → Never PastChar name_or_dot xs
colon_ends xs ys mark = record { none = λ zs t. (name_apart).apart xs zs ys t mark }
  where
    name_apart : Apart PastChar name_or_dot (exactly 58)
    name_apart = apart_char name_or_dot 58 refl refl

-- a run of them up to a colon is the longest
run_longest : (xs w ys : List ℕ) → Takes PastChar (Many name_or_dot) xs w → Takes PastChar (exactly 58) w ys
    → Longest (Many name_or_dot) xs w
run_longest xs w ys t mark =
    many_longest (record { runs = (t.0, times_only t.0 xs w t.1); ends = colon_ends w ys mark })

-- ---- prefixes

pub start_is_name : (c : ℕ) → is_name_start c ≡ true → is_name_char c ≡ true
start_is_name c h = rw h refl

pub prefix_run : (xs w : List ℕ) → Takes PastChar pn_prefix xs w → Takes PastChar (Many name_or_dot) xs w
prefix_run xs w t = tail t.2
  where
    begun : Takes PastChar name_or_dot xs t.0
    begun = inl (past_wider is_name_start is_name_char start_is_name xs t.0 t.1)

    tail : (t.0 ≡ w) ⊎ Takes PastChar (Then (Many name_or_dot) (Item is_name_char)) t.0 w
        → Takes PastChar (Many name_or_dot) xs w
    tail (inl e) = (suc zero, (t.0, begun, e))
    tail (inr s) = (suc (suc s.1.0), (t.0, begun, times_one_more _ s.1.0 t.0 s.0 w s.1.1 (inl s.2)))

empty_or_run : (xs w : List ℕ) → Takes PastChar (Maybe pn_prefix) xs w
    → Takes PastChar (Many name_or_dot) xs w
empty_or_run xs w (inl e) = (zero, e)
empty_or_run xs w (inr t) = prefix_run xs w t

-- the prefix before a colon is the longest prefix
prefix_place : (xs end w ys : List ℕ) → Longest pn_prefix xs end → Takes PastChar pn_prefix xs w
    → Takes PastChar (exactly 58) w ys → end ≡ w
prefix_place xs end w ys found t mark =
    let upper = found.longest w t in
    let run = run_longest xs w ys (prefix_run xs w t) mark in
    let lower = run.longest end (prefix_run xs end found.takes) in
    same_place pn_prefix pn_prefix xs end w found.takes t (omega (arith, upper, lower))

pub behind_prefix : {xs end : List ℕ} → Longest pn_prefix xs end → Same PastChar pname_ns xs (exactly 58) end
behind_prefix {xs = xs} {end = end} found = record {
  to = λ ys t. to ys t.0 t.1 t.2;
  back = λ ys mark. (end, inr found.takes, mark);
}
  where
    prefix_apart : Apart PastChar pn_prefix (exactly 58)
    prefix_apart = apart_char pn_prefix 58 refl refl

    to : (ys w : List ℕ) → (xs ≡ w) ⊎ Takes PastChar pn_prefix xs w → Takes PastChar (exactly 58) w ys
        → Takes PastChar (exactly 58) end ys
    to ys w (inl e) mark =
        absurd
        ((prefix_apart).apart xs end ys found.takes
        (subst (λ v. Takes PastChar (exactly 58) v ys) (sym e) mark))
    to ys w (inr t) mark =
        subst (λ v. Takes PastChar (exactly 58) v ys) (sym (prefix_place xs end w ys found t mark)) mark

-- ---- words

letter_is_name : (c : ℕ) → is_letter c ≡ true → is_name_char c ≡ true
letter_is_name c h = rw h refl

-- small letters alone
abbrev small : List ℕ → Bool
small [] = true
small (c ∷ cs) = between 97 122 c && small cs

both_true : (p q : Bool) → (p && q) ≡ true → (p ≡ true) × (q ≡ true)
both_true true q e = (refl, e)
both_true false q e = absurd (true≢false (sym e))

written_name : (c d : ℕ) → between 97 122 c ≡ true → (d == c) ≡ true → is_name_char d ≡ true
written_name c d low h = letter_is_name d (grind (arith, nat_tests))

either_name : (c d : ℕ) → between 97 122 c ≡ true → ((d == c) || (d + 32 == c)) ≡ true → is_name_char d ≡ true
either_name c d low h = letter_is_name d (grind (arith, nat_tests))

one_run : (p : ℕ → Bool) → ((d : ℕ) → p d ≡ true → is_name_char d ≡ true) → (xs m ys : List ℕ)
    → PastChar p xs m → Takes PastChar (Many name_or_dot) m ys
    → Takes PastChar (Many name_or_dot) xs ys
one_run p name xs m ys t run = (suc run.0, (m, inl (past_wider p is_name_char name xs m t), run.1))

written_run : (cs : List ℕ) → small cs ≡ true → (xs ys : List ℕ) → Takes PastChar (word cs) xs ys
    → Takes PastChar (Many name_or_dot) xs ys
written_run [] low xs ys e = (zero, e)
written_run (c ∷ []) low xs ys t =
    one_run (λ d. d == c) (λ d. written_name c d (both_true _ _ low).0) xs ys ys t (zero, refl)
written_run (c ∷ d ∷ cs) low xs ys t =
    let parts = both_true (between 97 122 c) (small (d ∷ cs)) low in
    one_run (λ e. e == c) (λ e. written_name c e parts.0) xs t.0 ys t.1
    (written_run (d ∷ cs) parts.1 t.0 ys t.2)

either_run : (cs : List ℕ) → small cs ≡ true → (xs ys : List ℕ) → Takes PastChar (any_case cs) xs ys
    → Takes PastChar (Many name_or_dot) xs ys
either_run [] low xs ys e = (zero, e)
either_run (c ∷ []) low xs ys t =
    one_run (λ d. (d == c) || (d + 32 == c)) (λ d. either_name c d (both_true _ _ low).0) xs ys ys t
    (zero, refl)
either_run (c ∷ d ∷ cs) low xs ys t =
    let parts = both_true (between 97 122 c) (small (d ∷ cs)) low in
    one_run (λ e. (e == c) || (e + 32 == c)) (λ e. either_name c e parts.0) xs t.0 ys t.1
    (either_run (d ∷ cs) parts.1 t.0 ys t.2)

word_run : (k : TokenKind) (xs ys : List ℕ) → is_word k ≡ true → Takes PastChar (terminal k) xs ys
    → Takes PastChar (Many name_or_dot) xs ys
word_run WordA xs ys is t = written_run (codes "a") refl xs ys t
word_run WordTrue xs ys is t = written_run (codes "true") refl xs ys t
word_run WordFalse xs ys is t = written_run (codes "false") refl xs ys t
word_run WordPrefix xs ys is t = either_run (codes "prefix") refl xs ys t
word_run WordBase xs ys is t = either_run (codes "base") refl xs ys t
word_run k xs ys is t = absurd (true≢false (sym is))

-- a word ends before the colon of a prefixed name at its place
pub word_shorter : (k : TokenKind) (xs ys zs : List ℕ) → is_word k ≡ true → Takes PastChar (terminal k) xs zs
    → Takes PastChar pname_ns xs ys → length ys < length zs
word_shorter k xs ys zs is t ns =
    let run = run_longest xs ns.0 ys (empty_or_run xs ns.0 ns.1) ns.2 in
    let before = run.longest zs (word_run k xs zs is t) in
    let colon = takes_shorter (exactly 58) ns.0 ys refl ns.2 in
    omega (arith, before, colon)
