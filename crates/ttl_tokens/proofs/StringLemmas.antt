-- How strings go on, and which token of their group stands there.
use Rattle.std.proofs.Common.{◌≡◌, ℕ, Bool, true, false, ◌||◌, not, ◌==◌, ◌<◌, List, [], ◌∷◌, length, refl}
use Rattle.std.proofs.Common.{sym, ◌∙◌, subst, ◌⊎◌, inl, inr, arith}
use Rattle.std.proofs.lemmas.Bool.Decides.{nat_tests}
use Rattle.ttl_tokens.specs.declared.group.Group.{Group}
use Rattle.ttl_tokens.specs.declared.group.Group.TheVariants.{DoubleQuoted, SingleQuoted}
use Rattle.ttl_tokens.specs.declared.token.TokenKind.{TokenKind}
use Rattle.ttl_tokens.specs.declared.token.TokenKind.TheVariants.{StringQuote, StringSingleQuote}
use Rattle.ttl_tokens.specs.declared.token.TokenKind.TheVariants.{StringLongSingleQuote, StringLongQuote}
use Rattle.ttl_tokens.specs.Form.{Or, Takes}
use Rattle.ttl_tokens.specs.Walks.{Never, Only, Same, Apart, Greedy, Passes}
use Rattle.ttl_tokens.specs.Chars.{PastChar, exactly}
use Rattle.ttl_tokens.specs.Terminals.{up_to_2_quotes, echar, uchar, short_char, long_char, short_string}
use Rattle.ttl_tokens.specs.Terminals.{long_string, three_quotes, block}
use Rattle.ttl_tokens.specs.inner.StringForms.{IsQuote, long_rest}
use Rattle.ttl_tokens.specs.inner.Groups.{IsNoTokenOf, IsTokenOf, kind_group}
use Rattle.ttl_tokens.specs.Tokens.{BeginsLong, Stands}
use Rattle.ttl_tokens.proofs.FormLemmas.{same_trans, same_only, same_never, then_same, then_never, or_never}
use Rattle.ttl_tokens.proofs.FormLemmas.{left_same, right_same, many_same, maybe_yes, maybe_no, apart_never}
use Rattle.ttl_tokens.proofs.CharLemmas.{apart_begins, char_never}
use Rattle.ttl_tokens.proofs.EscapeLemmas.{begins_uchar}

-- ---- characters

pub short_escape : (q : ℕ) {xs cs : List ℕ} {c : ℕ} → xs ≡ c ∷ cs → c ≡ 92
    → Same PastChar (short_char q) xs (Or echar uchar) xs
short_escape q {c = c} e b = right_same (char_never e (test c b))
  where
    test : (c : ℕ) → c ≡ 92 → not ((c == q) || (c == 92) || (c == 10) || (c == 13)) ≡ false
    test c b = grind (arith, nat_tests)

pub long_escape : (q : ℕ) {xs cs : List ℕ} {c : ℕ} → xs ≡ c ∷ cs → c ≡ 92
    → Same PastChar (long_char q) xs (Or echar uchar) xs
long_escape q {c = c} e b = right_same (char_never e (test c b))
  where
    test : (c : ℕ) → c ≡ 92 → not ((c == q) || (c == 92)) ≡ false
    test c b = grind (arith, nat_tests)

-- with what an escape begins, as it computes
abbrev begins_escape : ℕ → Bool
begins_escape c = ((c == 92) || false) || begins_uchar c

quote_short : (q : ℕ) → IsQuote q → Apart PastChar (short_char q) (exactly q)
quote_short q is = apart_begins (short_char q) (exactly q) refl refl (λ c h. other is c h)
  where
    other : IsQuote q → (c : ℕ)
        → (not ((c == q) || (c == 92) || (c == 10) || (c == 13)) || begins_escape c) ≡ true → (c == q) ≡ false
    other (inl e) c h = grind (arith, nat_tests)
    other (inr e) c h = grind (arith, nat_tests)

quote_long : (q : ℕ) → IsQuote q → Apart PastChar (exactly q) (long_char q)
quote_long q is = apart_begins (exactly q) (long_char q) refl refl (λ c h. other is c h)
  where
    other : IsQuote q → (c : ℕ) → (c == q) ≡ true
        → (not ((c == q) || (c == 92)) || begins_escape c) ≡ false
    other (inl e) c h = grind (arith, nat_tests)
    other (inr e) c h = grind (arith, nat_tests)

-- ---- short strings

pub short_end : (q : ℕ) → IsQuote q → {xs ms ys : List ℕ} → Only PastChar (exactly q) xs ms
    → Greedy PastChar (short_char q) ms ys → Same PastChar (short_string q) xs (exactly q) ys
short_end q is o g = same_trans (then_same o) (many_same (quote_short q is) g)

-- ---- long strings

one_way : (p : ℕ → Bool) (xs ys zs : List ℕ) → PastChar p xs ys → PastChar p xs zs → ys ≡ zs
one_way p [] ys zs s t = absurd s
one_way p (c ∷ cs) ys zs s t = sym s.1 ∙ t.1

module _ (q : ℕ) (is : IsQuote q) where
  two_same : {xs ms ys : List ℕ} → Only PastChar (exactly q) xs ms → Only PastChar (exactly q) ms ys
      → Same PastChar (block q) xs (long_char q) ys
  two_same {xs = xs} {ms = ms} {ys = ys} o p = record {
    to = λ zs t. to zs t.0 t.1 t.2;
    back = λ zs t. (ys, inr (inr (ms, o.takes, p.takes)), t);
  }
    where
      none_xs : Never PastChar (long_char q) xs
      none_xs = apart_never (quote_long q is) o

      none_ms : Never PastChar (long_char q) ms
      none_ms = apart_never (quote_long q is) p

      to : (zs ws : List ℕ) → Takes PastChar (up_to_2_quotes q) xs ws
          → Takes PastChar (long_char q) ws zs → Takes PastChar (long_char q) ys zs
      to zs ws (inl e) l = absurd (none_xs.none zs (subst (λ v. Takes PastChar (long_char q) v zs) (sym e) l))
      to zs ws (inr (inl a)) l =
          absurd (none_ms.none zs (subst (λ v. Takes PastChar (long_char q) v zs) (sym (o.only ws a)) l))
      to zs ws (inr (inr b)) l =
          subst (λ v. Takes PastChar (long_char q) v zs) (sym ((same_only (then_same o) p).only ws b)) l

  one_same : {xs ms : List ℕ} → Only PastChar (exactly q) xs ms → Never PastChar (exactly q) ms
      → Same PastChar (block q) xs (long_char q) ms
  one_same o n =
      maybe_yes (same_only (left_same (same_never (then_same o) (n))) o) (apart_never (quote_long q is) o)

  pub block_same : {xs ms ys : List ℕ} → Passes PastChar (exactly q) xs ms → Passes PastChar (exactly q) ms ys
      → Same PastChar (block q) xs (long_char q) ys
  block_same (inl o) (inl p) = two_same o p
  block_same {xs = xs} (inl o) (inr p) =
      subst (λ v. Same PastChar (block q) xs (long_char q) v) p.1 (one_same o p.0)
  block_same {xs = xs} {ys = ys} (inr p) (inl o) =
      absurd (p.0.none ys (subst (λ v. Takes PastChar (exactly q) v ys) (sym p.1) o.takes))
  block_same {xs = xs} (inr n) (inr p) =
      subst (λ v. Same PastChar (block q) xs (long_char q) v) (n.1 ∙ p.1)
      (maybe_no (or_never n.0 (then_never n.0)))

  block_end : Apart PastChar (block q) (three_quotes q)
  block_end = record { apart = λ xs ys zs s t. at xs ys zs s.0 s.1 s.2 t.0 t.1 t.2.0 t.2.1 t.2.2 }
    where
      first : (xs ws ys zs : List ℕ) → xs ≡ ws → Takes PastChar (long_char q) ws ys
          → Takes PastChar (exactly q) xs zs → ⊥
      first xs ws ys zs e l t =
          (quote_long q is).apart xs zs ys t (subst (λ v. Takes PastChar (long_char q) v ys) (sym e) l)

      at : (xs ys zs ws : List ℕ) → Takes PastChar (up_to_2_quotes q) xs ws
          → Takes PastChar (long_char q) ws ys
          → (ms : List ℕ) → Takes PastChar (exactly q) xs ms
          → (ns : List ℕ) → Takes PastChar (exactly q) ms ns
          → Takes PastChar (exactly q) ns zs → ⊥
      at xs ys zs ws (inl e) l ms t ns u v = first xs ws ys ms e l t
      at xs ys zs ws (inr (inl a)) l ms t ns u v = first ms ws ys ns (one_way _ xs ms ws t a) l u
      at xs ys zs ws (inr (inr b)) l ms t ns u v =
          let same = one_way (λ c. c == q) xs b.0 ms b.1 t in
          let two = subst (λ v. Takes PastChar (exactly q) v ws) same b.2 in
          first ns ws ys zs (one_way _ ms ns ws u two) l v

  pub long_end : {xs ys : List ℕ} → Greedy PastChar (block q) xs ys
      → Same PastChar (long_rest q) xs (three_quotes q) ys
  long_end g = many_same block_end g

-- ---- tokens

-- which tokens of two kinds are strings with the exactly q
abbrev IsString : ℕ → TokenKind → TokenKind → List ℕ → TokenKind → List ℕ → Type 0
IsString q short long xs kind ys =
    ((kind ≡ short) × Takes PastChar (short_string q) xs ys × (BeginsLong q xs → ⊥))
    ⊎ ((kind ≡ long) × Takes PastChar (long_string q) xs ys)

-- the group has two kinds, of strings with the exactly q
pub record HasStrings (group : Group) (q : ℕ) (short long : TokenKind) : Type 0 where
  kinds : (xs : List ℕ) (k : TokenKind) (ys : List ℕ) → kind_group k ≡ group → Stands k xs ys
      → IsString q short long xs k ys
  is_short : (xs ys : List ℕ) → Takes PastChar (short_string q) xs ys → (BeginsLong q xs → ⊥)
      → Stands short xs ys
  is_long : (xs ys : List ℕ) → Takes PastChar (long_string q) xs ys → Stands long xs ys

double_kinds : (xs : List ℕ) (k : TokenKind) (ys : List ℕ) → kind_group k ≡ DoubleQuoted → Stands k xs ys
    → IsString 34 StringQuote StringLongQuote xs k ys
double_kinds xs StringQuote ys e t = inl (refl, t.0, t.1)
double_kinds xs StringLongQuote ys e t = inr (refl, t)
double_kinds xs k ys e t = absurd (cc)

pub double_strings : HasStrings DoubleQuoted 34 StringQuote StringLongQuote
double_strings = record { kinds = double_kinds; is_short = λ xs ys t n. (t, n); is_long = λ xs ys t. t }

single_kinds : (xs : List ℕ) (k : TokenKind) (ys : List ℕ) → kind_group k ≡ SingleQuoted → Stands k xs ys
    → IsString 39 StringSingleQuote StringLongSingleQuote xs k ys
single_kinds xs StringSingleQuote ys e t = inl (refl, t.0, t.1)
single_kinds xs StringLongSingleQuote ys e t = inr (refl, t)
single_kinds xs k ys e t = absurd (cc)

pub single_strings : HasStrings SingleQuoted 39 StringSingleQuote StringLongSingleQuote
single_strings = record { kinds = single_kinds; is_short = λ xs ys t n. (t, n); is_long = λ xs ys t. t }

module _ {group : Group} {q : ℕ} {short long : TokenKind} {xs ms : List ℕ} where
  pub long_found : {ys : List ℕ} → HasStrings group q short long → Only PastChar (three_quotes q) xs ms
      → Only PastChar (long_rest q) ms ys → IsTokenOf group xs long ys
  long_found {ys = ys} has o rest = record {
    stands = has.is_long xs ys whole.takes;
    longest = λ k zs e t. longest k zs (has.kinds xs k zs e t);
  }
    where
      whole : Only PastChar (long_string q) xs ys
      whole = same_only (then_same o) rest

      longest : (k : TokenKind) (zs : List ℕ) → IsString q short long xs k zs
          → ((k ≡ long) × (zs ≡ ys)) ⊎ (length ys < length zs)
      longest k zs (inl s) = absurd (s.2 (ms, o.takes))
      longest k zs (inr s) = inl (s.0, sym (whole.only zs s.1))

  pub long_missing : HasStrings group q short long → Only PastChar (three_quotes q) xs ms
      → Never PastChar (long_rest q) ms → IsNoTokenOf group xs
  long_missing has o rest = record { none = λ k zs e t. none k zs (has.kinds xs k zs e t) }
    where
      whole : Never PastChar (long_string q) xs
      whole = same_never (then_same o) rest

      none : (k : TokenKind) (zs : List ℕ) → IsString q short long xs k zs → ⊥
      none k zs (inl s) = s.2 (ms, o.takes)
      none k zs (inr s) = whole.none zs s.1

module _ {group : Group} {q : ℕ} {short long : TokenKind} {xs : List ℕ} where
  pub short_found : {ys : List ℕ} → HasStrings group q short long → Never PastChar (three_quotes q) xs
      → Only PastChar (short_string q) xs ys → IsTokenOf group xs short ys
  short_found {ys = ys} has n o = record {
    stands = has.is_short xs ys o.takes (λ b. n.none b.0 b.1);
    longest = λ k zs e t. longest k zs (has.kinds xs k zs e t);
  }
    where
      longest : (k : TokenKind) (zs : List ℕ) → IsString q short long xs k zs
          → ((k ≡ short) × (zs ≡ ys)) ⊎ (length ys < length zs)
      longest k zs (inl s) = inl (s.0, sym (o.only zs s.1))
      longest k zs (inr s) = absurd (n.none s.1.0 s.1.1)

  pub short_missing : HasStrings group q short long → Never PastChar (three_quotes q) xs
      → Never PastChar (short_string q) xs → IsNoTokenOf group xs
  short_missing has n m = record { none = λ k zs e t. none k zs (has.kinds xs k zs e t) }
    where
      none : (k : TokenKind) (zs : List ℕ) → IsString q short long xs k zs → ⊥
      none k zs (inl s) = m.none zs s.1
      none k zs (inr s) = n.none s.1.0 s.1.1
