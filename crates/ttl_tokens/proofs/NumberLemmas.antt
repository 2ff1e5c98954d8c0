-- Numbers and the dot.
use Rattle.std.proofs.Common.{◌≡◌, ◌==◌, ◌<◌, ℕ, zero, false, List, [], ◌∷◌, length, Option, Some, None}
use Rattle.std.proofs.Common.{MatchOption, refl, sym, subst, ◌⊎◌, inl, inr, arith, true≢false}
use Rattle.std.proofs.lemmas.Bool.Decides.{nat_tests}
use Rattle.ttl_tokens.specs.declared.group.Group.TheVariants.{Number}
use Rattle.ttl_tokens.specs.declared.token.TokenKind.{TokenKind}
use Rattle.ttl_tokens.specs.declared.token.TokenKind.TheVariants.{Integer, Decimal, Double, Dot}
use Rattle.ttl_tokens.specs.Form.{Empty, Item, Then, Or, Takes}
use Rattle.ttl_tokens.specs.Walks.{Never, Only, Same, Apart, Greedy, Passes}
use Rattle.ttl_tokens.specs.Chars.{Chars, PastChar, some, is_digit}
use Rattle.ttl_tokens.specs.Terminals.{none, digits, some_digits, point, integer, decimal, exponent, double}
use Rattle.ttl_tokens.specs.Tokens.{Stands}
use Rattle.ttl_tokens.specs.inner.Groups.{kind_group, IsTokenOf, IsNoTokenOf}
use Rattle.ttl_tokens.specs.inner.Leaves.{Leaves}
use Rattle.ttl_tokens.specs.inner.NumberForms.{is_sign, is_letter_e, fraction, fraction_exponent}
use Rattle.ttl_tokens.specs.inner.NumberForms.{double_behind_digits, number_form, IsNumberOf}
use Rattle.ttl_tokens.proofs.FormLemmas.{same_trans, same_never, then_same, then_never, left_same}
use Rattle.ttl_tokens.proofs.FormLemmas.{right_same, passes_same, many_same, same_sym, many_some}
use Rattle.ttl_tokens.proofs.FormLemmas.{apart_never, greedy_none, greedy_more}
use Rattle.ttl_tokens.proofs.CharLemmas.{takes_le, apart_begins, takes_shorter, item_only}
use Rattle.ttl_tokens.proofs.LeavesLemmas.{same_leaves, never_leaves, leaves_trans, then_leaves}
use Rattle.ttl_tokens.proofs.LeavesLemmas.{passes_leaves, or_leaves, stops_apart, many_leaves, some_leaves}
use Rattle.ttl_tokens.proofs.LeavesLemmas.{some_ends}

-- ---- characters that tell the parts apart

sign_digits : Apart PastChar (Item is_sign) some_digits
sign_digits = apart_begins (Item is_sign) some_digits refl refl (λ c h. grind (arith, nat_tests))

sign_point : Apart PastChar (Item is_sign) point
sign_point = apart_begins (Item is_sign) point refl refl (λ c h. grind (arith, nat_tests))

abbrev unsigned_decimal : Chars
unsigned_decimal = Then digits fraction

abbrev unsigned_double : Chars
unsigned_double =
    Or (Then some_digits (Then point (Then digits exponent)))
    (Or fraction_exponent (Then some_digits exponent))

sign_decimal : Apart PastChar (Item is_sign) unsigned_decimal
sign_decimal = apart_begins (Item is_sign) unsigned_decimal refl refl (λ c h. grind (arith, nat_tests))

sign_double : Apart PastChar (Item is_sign) unsigned_double
sign_double = apart_begins (Item is_sign) unsigned_double refl refl (λ c h. grind (arith, nat_tests))

digit_point : Apart PastChar (Item is_digit) point
digit_point = apart_begins (Item is_digit) point refl refl (λ c h. grind (arith, nat_tests))

digit_fraction : Apart PastChar (Item is_digit) fraction
digit_fraction = apart_begins (Item is_digit) fraction refl refl (λ c h. grind (arith, nat_tests))

digit_fraction_exponent : Apart PastChar (Item is_digit) fraction_exponent
digit_fraction_exponent =
    apart_begins (Item is_digit) fraction_exponent refl refl (λ c h. grind (arith, nat_tests))

abbrev point_exponent : Chars
point_exponent = Then point (Then digits exponent)

digit_point_exponent : Apart PastChar (Item is_digit) point_exponent
digit_point_exponent = apart_begins (Item is_digit) point_exponent refl refl (λ c h. grind (arith, nat_tests))

digit_exponent : Apart PastChar (Item is_digit) exponent
digit_exponent = apart_begins (Item is_digit) exponent refl refl (λ c h. grind (arith, nat_tests))

point_exponent_apart : Apart PastChar point exponent
point_exponent_apart = apart_begins point exponent refl refl (λ c h. grind (arith, nat_tests))

-- ---- the exponent

no_digits : {xs : List ℕ} → Never PastChar (Item is_digit) xs → Never PastChar some_digits xs
no_digits n = then_never n

pub exponent_found : {xs m u d ys : List ℕ} → Only PastChar (Item is_letter_e) xs m
    → Passes PastChar (Item is_sign) m u → Only PastChar (Item is_digit) u d
    → Greedy PastChar (Item is_digit) d ys → Leaves exponent xs Empty ys
exponent_found o p d r =
    leaves_trans (then_leaves o) (leaves_trans (passes_leaves sign_digits p) (some_ends refl d r))

-- ---- kinds of numbers

never_none : {xs : List ℕ} → Never PastChar none xs
never_none {xs = xs} = record { none = λ zs t. at xs zs t }
  where
    at : (us zs : List ℕ) → PastChar (λ c. false) us zs → ⊥
    at [] zs t = t
    at (c ∷ cs) zs t = true≢false (sym t.0)

number_cases : (i d e : Chars) (P : TokenKind → List ℕ → Type 0) (xs : List ℕ)
    → ((zs : List ℕ) → Takes PastChar i xs zs → P Integer zs)
    → ((zs : List ℕ) → Takes PastChar d xs zs → P Decimal zs)
    → ((zs : List ℕ) → Takes PastChar e xs zs → P Double zs)
    → (k : TokenKind) (zs : List ℕ) → Takes PastChar (number_form i d e k) xs zs → P k zs
number_cases i d e P xs of_i of_d of_e Integer zs t = of_i zs t
number_cases i d e P xs of_i of_d of_e Decimal zs t = of_d zs t
number_cases i d e P xs of_i of_d of_e Double zs t = of_e zs t
number_cases i d e P xs of_i of_d of_e k zs t = absurd (never_none.none zs t)

-- the same, where an integer has no form
fraction_cases : (d e : Chars) (P : TokenKind → List ℕ → Type 0) (xs : List ℕ)
    → ((zs : List ℕ) → Takes PastChar d xs zs → P Decimal zs)
    → ((zs : List ℕ) → Takes PastChar e xs zs → P Double zs)
    → (k : TokenKind) (zs : List ℕ) → Takes PastChar (number_form none d e k) xs zs → P k zs
fraction_cases d e P xs = number_cases none d e P xs (λ zs t. absurd (never_none.none zs t))

-- the kind with this rest, or another with less of a front
abbrev IsOrBeats : TokenKind → List ℕ → TokenKind → List ℕ → Type 0
IsOrBeats kind ys k zs = ((k ≡ kind) × (zs ≡ ys)) ⊎ (length ys < length zs)

is_or_beats : {kind : TokenKind} {ys zs : List ℕ} → (ys ≡ zs) ⊎ (length ys < length zs)
    → IsOrBeats kind ys kind zs
is_or_beats (inl e) = inl (refl, sym e)
is_or_beats (inr less) = inr less

-- what is left of each of the three is all there is to look at
number_behind : {i d e j f g : Chars} {xs m ys : List ℕ} {kind : TokenKind} → Leaves i xs j m
    → Leaves d xs f m → Leaves e xs g m → IsNumberOf j f g m kind ys → IsNumberOf i d e xs kind ys
number_behind {i = i} {d = d} {e = e} {j = j} {f = f} {g = g} {xs = xs} {m = m} {ys = ys} {kind = kind}
    li ld le n = record {
      takes = number_cases j f g (λ k zs. Takes PastChar (number_form i d e k) xs zs) m li.back ld.back
          le.back kind ys n.takes;
      longest = number_cases i d e (IsOrBeats kind ys) xs (λ zs t. past Integer zs (li.on zs t))
          (λ zs t. past Decimal zs (ld.on zs t)) (λ zs t. past Double zs (le.on zs t));
    }
  where
    past : (k : TokenKind) (zs : List ℕ) → Takes PastChar (number_form j f g k) m zs ⊎ (length m < length zs)
        → IsOrBeats kind ys k zs
    past k zs (inl t) = n.longest k zs t
    past k zs (inr less) =
        let within = takes_le (number_form j f g kind) m ys n.takes in
        inr (omega (arith, within, less))

-- ---- behind the digits of a fraction

pub fraction_double : {xs ys : List ℕ} → Leaves exponent xs Empty ys
    → IsNumberOf none Empty exponent xs Double ys
fraction_double {xs = xs} {ys = ys} l =
    let taken = l.back ys refl in
    let less = takes_shorter exponent xs ys refl taken in
    record {
      takes = taken;
      longest = fraction_cases Empty exponent (IsOrBeats Double ys) xs (λ zs e. inr (rw (sym e) less))
          (λ zs t. is_or_beats (l.on zs t));
    }

pub fraction_decimal : {xs : List ℕ} → Never PastChar exponent xs
    → IsNumberOf none Empty exponent xs Decimal xs
fraction_decimal {xs = xs} n = record {
  takes = refl;
  longest = fraction_cases Empty exponent (IsOrBeats Decimal xs) xs (λ zs e. is_or_beats (inl e))
      (λ zs t. absurd (n.none zs t));
}

-- ---- fractions

pub no_point : {xs : List ℕ} → Never PastChar point xs → Never PastChar fraction xs
no_point n = then_never n

pub fraction_found : {xs m d l ys : List ℕ} {kind : TokenKind} → Only PastChar point xs m
    → Only PastChar (Item is_digit) m d → Greedy PastChar (Item is_digit) d l
    → IsNumberOf none Empty exponent l kind ys → IsNumberOf none fraction fraction_exponent xs kind ys
fraction_found {xs = xs} {l = l} o d r n =
    let decimal_left : Leaves fraction xs Empty l = leaves_trans (then_leaves o) (some_ends refl d r) in
    let double_left : Leaves fraction_exponent xs exponent l =
    leaves_trans (then_leaves o) (some_leaves (stops_apart refl digit_exponent) d r) in
    number_behind (never_leaves never_none never_none decimal_left.within) decimal_left double_left n

-- ---- behind the first digits

-- a point stands there, and behind it a digit
record IsFraction (xs : List ℕ) : Type 0 where
  behind : List ℕ
  point_only : Only PastChar point xs behind
  rest : List ℕ
  digit_only : Only PastChar (Item is_digit) behind rest

begins_fraction : (xs : List ℕ) (k : TokenKind) (ys : List ℕ)
    → Takes PastChar (number_form none fraction fraction_exponent k) xs ys → IsFraction xs
begins_fraction xs =
    fraction_cases fraction fraction_exponent (λ k zs. IsFraction xs) xs
    (λ zs t. record {
      behind = t.0;
      point_only = item_only (λ c. c == 46) xs t.0 t.1;
      rest = t.2.0;
      digit_only = item_only is_digit t.0 t.2.0 t.2.1;
    })
    (λ zs t. record {
      behind = t.0;
      point_only = item_only (λ c. c == 46) xs t.0 t.1;
      rest = t.2.1.0;
      digit_only = item_only is_digit t.0 t.2.1.0 t.2.1.1;
    })

double_fraction : {xs : List ℕ} → IsFraction xs → Same PastChar double_behind_digits xs fraction_exponent xs
double_fraction b =
    same_trans (left_same (apart_never point_exponent_apart b.point_only))
    (same_trans (then_same b.point_only)
    (same_trans (many_some (apart_never digit_exponent b.digit_only)) (same_sym (then_same b.point_only))))

pub digits_fraction : {xs ys : List ℕ} {kind : TokenKind}
    → IsNumberOf none fraction fraction_exponent xs kind ys
    → IsNumberOf Empty fraction double_behind_digits xs kind ys
digits_fraction {xs = xs} {ys = ys} {kind = kind} n = record {
  takes = fraction_cases fraction fraction_exponent
      (λ k zs. Takes PastChar (number_form Empty fraction double_behind_digits k) xs zs) xs
      (λ zs t. t) same.back kind ys n.takes;
  longest = number_cases Empty fraction double_behind_digits (IsOrBeats kind ys) xs
      (λ zs e. inr (rw (sym e) less)) (n.longest Decimal) (λ zs t. n.longest Double zs (same.to zs t));
}
  where
    same : Same PastChar double_behind_digits xs fraction_exponent xs
    same = double_fraction (begins_fraction xs kind ys n.takes)

    less : length ys < length xs
    less = fraction_cases fraction fraction_exponent (λ k zs. length zs < length xs) xs
        (λ zs t. takes_shorter fraction xs zs refl t)
        (λ zs t. takes_shorter fraction_exponent xs zs refl t) kind ys n.takes

digits_exponent : {xs m : List ℕ} → Never PastChar fraction xs → Passes PastChar point xs m
    → Same PastChar double_behind_digits xs exponent m
digits_exponent {xs = xs} {m = m} n (inl o) =
    same_trans (left_same (apart_never point_exponent_apart o))
    (same_trans (then_same o) (many_same digit_exponent (greedy_none digit)))
  where
    digit : Never PastChar (Item is_digit) m
    digit = record { none = λ zs t. n.none zs (m, o.takes, (zs, t, (zero, refl))) }
digits_exponent {xs = xs} {m = m} n (inr p) =
    subst (λ v. Same PastChar double_behind_digits xs exponent v) p.1 (right_same (then_never p.0))

pub digits_double : {xs m ys : List ℕ} → Never PastChar fraction xs → Passes PastChar point xs m
    → Leaves exponent m Empty ys → IsNumberOf Empty fraction double_behind_digits xs Double ys
digits_double {xs = xs} {m = m} {ys = ys} n p l = record {
  takes = taken;
  longest = number_cases Empty fraction double_behind_digits (IsOrBeats Double ys) xs
      (λ zs e. inr (rw (sym e) (takes_shorter double_behind_digits xs ys refl taken)))
      (λ zs t. absurd (n.none zs t)) (λ zs t. is_or_beats (l.on zs ((digits_exponent n p).to zs t)));
}
  where
    taken : Takes PastChar double_behind_digits xs ys
    taken = (digits_exponent n p).back ys (l.back ys refl)

pub digits_integer : {xs m : List ℕ} → Never PastChar fraction xs → Passes PastChar point xs m
    → Never PastChar exponent m → IsNumberOf Empty fraction double_behind_digits xs Integer xs
digits_integer {xs = xs} n p e = record {
  takes = refl;
  longest = number_cases Empty fraction double_behind_digits (IsOrBeats Integer xs) xs
      (λ zs s. is_or_beats (inl s)) (λ zs t. absurd (n.none zs t))
      (λ zs t. absurd ((same_never (digits_exponent n p) e).none zs t));
}

-- ---- the group

group_cases : (P : TokenKind → List ℕ → Type 0) (xs : List ℕ)
    → ((zs : List ℕ) → Takes PastChar integer xs zs → P Integer zs)
    → ((zs : List ℕ) → Takes PastChar decimal xs zs → P Decimal zs)
    → ((zs : List ℕ) → Takes PastChar double xs zs → P Double zs)
    → ((zs : List ℕ) → Takes PastChar point xs zs → P Dot zs)
    → (k : TokenKind) (zs : List ℕ) → kind_group k ≡ Number → Stands k xs zs → P k zs
group_cases P xs of_i of_d of_e of_dot Integer zs g s = of_i zs s
group_cases P xs of_i of_d of_e of_dot Decimal zs g s = of_d zs s
group_cases P xs of_i of_d of_e of_dot Double zs g s = of_e zs s
group_cases P xs of_i of_d of_e of_dot Dot zs g s = of_dot zs s
group_cases P xs of_i of_d of_e of_dot k zs g s = absurd (cc)

number_token : {xs ys : List ℕ} {kind : TokenKind} → IsNumberOf integer decimal double xs kind ys
    → ((zs : List ℕ) → Takes PastChar point xs zs → length ys < length zs) → IsTokenOf Number xs kind ys
number_token {xs = xs} {ys = ys} {kind = kind} n dot = record {
  stands = number_cases integer decimal double (λ k zs. Stands k xs zs) xs (λ zs t. t) (λ zs t. t) (λ zs t. t)
      kind ys n.takes;
  longest = group_cases (IsOrBeats kind ys) xs (n.longest Integer) (n.longest Decimal) (n.longest Double)
      (λ zs t. inr (dot zs t));
}

-- a point stands only where no sign does
unsigned_point : {xs m : List ℕ} → Passes PastChar (Item is_sign) xs m → (zs : List ℕ)
    → Takes PastChar point xs zs → Takes PastChar point m zs
unsigned_point {xs = xs} (inl o) zs t = absurd (sign_point.apart xs _ zs o.takes t)
unsigned_point (inr p) zs t = subst (λ v. Takes PastChar point v zs) p.1 t

integer_left : {xs m d l : List ℕ} → Passes PastChar (Item is_sign) xs m → Only PastChar (Item is_digit) m d
    → Greedy PastChar (Item is_digit) d l → Leaves integer xs Empty l
integer_left p o r = leaves_trans (passes_leaves sign_digits p) (some_ends refl o r)

decimal_left : {xs m d l : List ℕ} → Passes PastChar (Item is_sign) xs m → Only PastChar (Item is_digit) m d
    → Greedy PastChar (Item is_digit) d l → Leaves decimal xs fraction l
decimal_left p o r =
    leaves_trans (passes_leaves sign_decimal p)
    (many_leaves (stops_apart refl digit_fraction) (greedy_more o r))

double_left : {xs m d l : List ℕ} → Passes PastChar (Item is_sign) xs m → Only PastChar (Item is_digit) m d
    → Greedy PastChar (Item is_digit) d l → Leaves double xs double_behind_digits l
double_left p o r =
    leaves_trans (passes_leaves sign_double p)
    (or_leaves (some_leaves (stops_apart refl digit_point_exponent) o r)
    (leaves_trans (same_leaves (right_same (apart_never digit_fraction_exponent o)) (omega arith))
    (some_leaves (stops_apart refl digit_exponent) o r)))

pub number_digits : {xs m d l ys : List ℕ} {kind : TokenKind} → Passes PastChar (Item is_sign) xs m
    → Only PastChar (Item is_digit) m d → Greedy PastChar (Item is_digit) d l
    → IsNumberOf Empty fraction double_behind_digits l kind ys → IsTokenOf Number xs kind ys
number_digits {m = m} {d = d} p o r n =
    number_token (number_behind (integer_left p o r) (decimal_left p o r) (double_left p o r) n)
    (λ zs t. absurd (digit_point.apart m d zs o.takes (unsigned_point p zs t)))

bare_double : {xs : List ℕ} → Never PastChar (Item is_digit) xs
    → Same PastChar unsigned_double xs fraction_exponent xs
bare_double n = same_trans (right_same (then_never (no_digits n))) (left_same (then_never (no_digits n)))

-- a fraction is longer than its point
point_shorter : (xs ys zs : List ℕ) (k : TokenKind)
    → Takes PastChar (number_form none fraction fraction_exponent k) xs ys → Takes PastChar point xs zs
    → length ys < length zs
point_shorter xs ys zs k t s =
    fraction_cases fraction fraction_exponent (λ j us. length us < length zs) xs
    (λ us r. takes_shorter some_digits zs us refl ((then_same {g = some_digits} at_point).to us r))
    (λ us r. takes_shorter (Then some_digits exponent) zs us refl
    ((then_same {g = Then some_digits exponent} at_point).to us r))
    k ys t
  where
    at_point : Only PastChar point xs zs
    at_point = item_only (λ c. c == 46) xs zs s

pub number_fraction : {xs m ys : List ℕ} {kind : TokenKind} → Passes PastChar (Item is_sign) xs m
    → Never PastChar (Item is_digit) m → IsNumberOf none fraction fraction_exponent m kind ys
    → IsTokenOf Number xs kind ys
number_fraction {m = m} {ys = ys} {kind = kind} p n f =
    number_token
    (number_behind
    (leaves_trans (passes_leaves sign_digits p) (never_leaves (no_digits n) never_none (omega arith)))
    (leaves_trans (passes_leaves sign_decimal p)
    (same_leaves (many_same digit_fraction (greedy_none n)) (omega arith)))
    (leaves_trans (passes_leaves sign_double p) (same_leaves (bare_double n) (omega arith))) f)
    (λ zs t. point_shorter m ys zs kind f.takes (unsigned_point p zs t))

no_number : {xs m : List ℕ} → Passes PastChar (Item is_sign) xs m → Never PastChar (Item is_digit) m
    → Never PastChar fraction m → (k : TokenKind) (zs : List ℕ) → kind_group k ≡ Number → Stands k xs zs
    → (k ≡ Dot) × Takes PastChar point xs zs
no_number {xs = xs} {m = m} p n f =
    group_cases (λ k zs. (k ≡ Dot) × Takes PastChar point xs zs) xs
    (λ zs t. absurd ((same_never (passes_same sign_digits p) (no_digits n)).none zs t))
    (λ zs t. absurd ((same_never (passes_same sign_decimal p)
    (same_never (many_same digit_fraction (greedy_none n)) f)).none zs t))
    (λ zs t. absurd ((same_never (passes_same sign_double p)
    (same_never (bare_double n) no_double)).none zs t))
    (λ zs t. (refl, t))
  where
    no_double : Never PastChar fraction_exponent m
    no_double = record { none = λ zs t. f.none t.2.0 (t.0, t.1, t.2.1) }

pub number_dot : {xs m ys : List ℕ} → Passes PastChar (Item is_sign) xs m → Never PastChar (Item is_digit) m
    → Never PastChar fraction m → Only PastChar point xs ys → IsTokenOf Number xs Dot ys
number_dot {ys = ys} p n f o = record {
  stands = o.takes;
  longest = λ k zs g s. let dot = no_number p n f k zs g s in inl (dot.0, sym (o.only zs dot.1));
}

pub number_none : {xs m : List ℕ} → Passes PastChar (Item is_sign) xs m → Never PastChar (Item is_digit) m
    → Never PastChar fraction m → Never PastChar point xs → IsNoTokenOf Number xs
number_none p n f d = record { none = λ k zs g s. d.none zs (no_number p n f k zs g s).1 }

-- ---- answers

pub fraction_answer : {A : Type 0} (kind : A → TokenKind) (rest : A → List ℕ) (found : Option A)
    {xs m : List ℕ} → Passes PastChar (Item is_sign) xs m → Never PastChar (Item is_digit) m
    → (found ≡ None → ⊥) → MatchOption found (Never PastChar fraction m)
    (λ t. IsNumberOf none fraction fraction_exponent m (kind t) (rest t))
    → MatchOption found (IsNoTokenOf Number xs) (λ t. IsTokenOf Number xs (kind t) (rest t))
fraction_answer kind rest None p n some f = absurd (some refl)
fraction_answer kind rest (Some t) p n some f = number_fraction p n f

pub dot_answer : {A : Type 0} (kind : A → TokenKind) (rest : A → List ℕ) (found : Option A) {xs m : List ℕ}
    → Passes PastChar (Item is_sign) xs m → Never PastChar (Item is_digit) m → Never PastChar fraction m
    → MatchOption found (Never PastChar point xs) (λ t. (kind t ≡ Dot) × Only PastChar point xs (rest t))
    → MatchOption found (IsNoTokenOf Number xs) (λ t. IsTokenOf Number xs (kind t) (rest t))
dot_answer kind rest None p n f d = number_none p n f d
dot_answer kind rest (Some t) p n f d = rw d.0 (number_dot p n f d.1)
