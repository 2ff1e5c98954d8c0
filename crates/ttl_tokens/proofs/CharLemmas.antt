-- Forms over characters: what they leave is shorter, and with which characters they begin.
use Rattle.std.proofs.Common.{◌≡◌, ℕ, zero, suc, ◌≤◌, ◌<◌, Bool, true, false, ◌&&◌, ◌||◌, List, []}
use Rattle.std.proofs.Common.{◌∷◌, ◌++◌, length, refl, sym, ap, ◌∙◌, subst, ◌⊎◌, inl, inr, arith, true≢false}
use Rattle.std.proofs.Common.{◌==◌, eqb-true, Option, MatchOption}
use Rattle.std.specs.Borrow.{Bor}
use Rattle.std.specs.Str.{chars}
use Rattle.ttl_tokens.specs.Form.{Empty, Item, Then, Or, Maybe, Many, Times, Takes, is_empty, begins}
use Rattle.ttl_tokens.specs.Walks.{Never, Only, Same, Apart, Greedy}
use Rattle.ttl_tokens.specs.Chars.{Chars, Longest, PastChar, exactly, word}
use Rattle.ttl_tokens.proofs.BeginLemmas.{begins_with, never_where, never_where_none}
use Rattle.ttl_tokens.proofs.FormLemmas.{times_takes, match_only}

-- whether a form of characters may take nothing, and which characters it may begin with
abbrev pub takes_nothing : Chars → Bool
takes_nothing f = is_empty (λ p. false) f

abbrev pub first : Chars → ℕ → Bool
first f c = begins (λ p. false) (λ p d. p d) f c

-- ---- lengths

past_shorter : (p : ℕ → Bool) (xs ys : List ℕ) → PastChar p xs ys → length ys < length xs
past_shorter p [] ys t = absurd t
past_shorter p (c ∷ cs) ys t = rw (sym t.1) (omega arith)

times_le : (R : List ℕ → List ℕ → Type 0) → ((xs ys : List ℕ) → R xs ys → length ys ≤ length xs) → (n : ℕ)
    (xs ys : List ℕ) → Times R n xs ys → length ys ≤ length xs
times_le R le zero xs ys e = rw e (omega arith)
times_le R le (suc n) xs ys t =
    let rest = times_le R le n t.0 ys t.2 in
    let front = le xs t.0 t.1 in
    omega (arith, rest, front)

pub takes_le : (f : Chars) (xs ys : List ℕ) → Takes PastChar f xs ys → length ys ≤ length xs
takes_le Empty xs ys e = rw e (omega arith)
takes_le (Item p) xs ys t = let less = past_shorter p xs ys t in omega (arith, less)
takes_le (Then a b) xs ys t =
    let front = takes_le a xs t.0 t.1 in
    let rest = takes_le b t.0 ys t.2 in
    omega (arith, front, rest)
takes_le (Or a b) xs ys (inl t) = takes_le a xs ys t
takes_le (Or a b) xs ys (inr t) = takes_le b xs ys t
takes_le (Maybe a) xs ys (inl e) = rw e (omega arith)
takes_le (Maybe a) xs ys (inr t) = takes_le a xs ys t
takes_le (Many a) xs ys t = times_le (Takes PastChar a) (takes_le a) t.0 xs ys t.1

-- ---- beginnings

-- this character stands first
abbrev pub StandsFirst : ℕ → List ℕ → Type 0
StandsFirst c xs = (cs : List ℕ) × (xs ≡ c ∷ cs)

char_item : (c : ℕ) (p : ℕ → Bool) (xs ys : List ℕ) → StandsFirst c xs → PastChar p xs ys
    → (p c ≡ true) ⊎ ((false ≡ true) × StandsFirst c ys)
char_item c p xs ys s t = inl (first_of (subst (λ v. PastChar p v ys) s.1 t))
  where
    first_of : PastChar p (c ∷ s.0) ys → p c ≡ true
    first_of u = u.0

end_item : (p : ℕ → Bool) (xs ys : List ℕ) → xs ≡ [] → PastChar p xs ys → (false ≡ true) × (ys ≡ [])
end_item p xs ys e t = absurd (none (subst (λ v. PastChar p v ys) e t))
  where
    none : PastChar p [] ys → ⊥
    none u = u

pub takes_begins : (f : Chars) (c : ℕ) (cs ys : List ℕ) → takes_nothing f ≡ false
    → Takes PastChar f (c ∷ cs) ys → first f c ≡ true
takes_begins f c cs ys some t =
    begins_with PastChar (λ p. false) (λ p d. p d) (StandsFirst c) c (char_item c) f (c ∷ cs) ys some
    (cs, refl) t

pub never_begins : (f : Chars) (c : ℕ) (cs : List ℕ) → takes_nothing f ≡ false → first f c ≡ false
    → Never PastChar f (c ∷ cs)
never_begins f c cs some other =
    never_where PastChar (λ p. false) (λ p d. p d) (StandsFirst c) c (char_item c) f (c ∷ cs) some other
    (cs, refl)

pub never_at_end : (f : Chars) → takes_nothing f ≡ false → Never PastChar f []
never_at_end f some = never_where_none PastChar (λ p. false) (λ xs. xs ≡ []) end_item f [] some refl

pub apart_begins : (f g : Chars) → takes_nothing f ≡ false → takes_nothing g ≡ false
    → ((c : ℕ) → first f c ≡ true → first g c ≡ false) → Apart PastChar f g
apart_begins f g some_f some_g other = record { apart = λ xs ys zs s t. at xs ys zs s t }
  where
    at : (xs ys zs : List ℕ) → Takes PastChar f xs ys → Takes PastChar g xs zs → ⊥
    at [] ys zs s t = (never_at_end f some_f).none ys s
    at (c ∷ cs) ys zs s t =
        (never_begins g c cs some_g (other c (takes_begins f c cs ys some_f s))).none zs t

-- ---- the longest front

pub same_longest : {f g : Chars} {xs ys zs : List ℕ} → Same PastChar f xs g ys → Longest g ys zs
    → Longest f xs zs
same_longest s l = record { takes = s.back _ l.takes; longest = λ ws t. l.longest ws (s.to ws t) }

not_longer : (f : Chars) (m : List ℕ) → Never PastChar f m → (k n : ℕ) (xs zs : List ℕ)
    → Times (Only PastChar f) k xs m → Times (Takes PastChar f) n xs zs → length m ≤ length zs
not_longer f m never k zero xs zs r e =
    let le = times_le (Takes PastChar f) (takes_le f) k xs m (times_takes PastChar f k xs m r) in
    rw (sym e) le
not_longer f m never zero (suc n) xs zs e t =
    absurd (never.none t.0 (subst (λ v. Takes PastChar f v t.0) e t.1))
not_longer f m never (suc k) (suc n) xs zs r t =
    not_longer f m never k n r.0 zs r.2
    (subst (λ v. Times (Takes PastChar f) n v zs) (sym (r.1.only t.0 t.1)) t.2)

pub many_longest : {f : Chars} {xs ys : List ℕ} → Greedy PastChar f xs ys → Longest (Many f) xs ys
many_longest {f = f} {xs = xs} {ys = ys} g = record {
  takes = (g.runs.0, times_takes PastChar f g.runs.0 xs ys g.runs.1);
  longest = λ zs t. not_longer f ys g.ends g.runs.0 t.0 xs zs g.runs.1 t.1;
}

-- ---- fronts that are not empty, which are the measure of loops

or_first : (a b : Bool) → (a || b) ≡ false → a ≡ false
or_first true b e = e
or_first false b e = refl

or_second : (a b : Bool) → (a || b) ≡ false → b ≡ false
or_second true b e = absurd (true≢false e)
or_second false b e = e

pub takes_shorter : (f : Chars) (xs ys : List ℕ) → takes_nothing f ≡ false → Takes PastChar f xs ys
    → length ys < length xs
takes_shorter Empty xs ys some t = absurd (true≢false some)
takes_shorter (Item p) [] ys some t = absurd t
takes_shorter (Item p) (c ∷ cs) ys some t = rw (sym t.1) (omega arith)
takes_shorter (Then a b) xs ys some t =
    part (takes_nothing a) some (takes_shorter a xs t.0) (takes_shorter b t.0 ys)
  where
    part : (nothing : Bool) → (nothing && takes_nothing b) ≡ false
        → (nothing ≡ false → Takes PastChar a xs t.0 → length t.0 < length xs)
        → (takes_nothing b ≡ false → Takes PastChar b t.0 ys → length ys < length t.0) → length ys < length xs
    part true s front rest =
        let le = takes_le a xs t.0 t.1 in
        let less = rest s t.2 in
        omega (arith, le, less)
    part false s front rest =
        let le = takes_le b t.0 ys t.2 in
        let less = front refl t.1 in
        omega (arith, le, less)
takes_shorter (Or a b) xs ys some (inl t) =
    takes_shorter a xs ys (or_first (takes_nothing a) (takes_nothing b) some) t
takes_shorter (Or a b) xs ys some (inr t) =
    takes_shorter b xs ys (or_second (takes_nothing a) (takes_nothing b) some) t
takes_shorter (Maybe a) xs ys some t = absurd (true≢false some)
takes_shorter (Many a) xs ys some t = absurd (true≢false some)

pub only_le : {f : Chars} {xs ys : List ℕ} → Only PastChar f xs ys → length ys ≤ length xs
only_le {f = f} {xs = xs} {ys = ys} o = takes_le f xs ys o.takes

pub only_shorter : (f : Chars) (xs ys : List ℕ) → takes_nothing f ≡ false → Only PastChar f xs ys
    → length ys < length xs
only_shorter f xs ys some o = takes_shorter f xs ys some o.takes

-- ---- one character

pub item_only : (p : ℕ → Bool) (xs ys : List ℕ) → PastChar p xs ys → Only PastChar (Item p) xs ys
item_only p [] ys t = absurd t
item_only p (c ∷ cs) ys t = record { takes = t; only = λ zs s. sym t.1 ∙ s.1 }

pub char_only : {p : ℕ → Bool} {xs cs : List ℕ} {c : ℕ} → xs ≡ c ∷ cs → p c ≡ true
    → Only PastChar (Item p) xs cs
char_only {p = p} {xs = xs} {cs = cs} {c = c} e h =
    subst (λ v. Only PastChar (Item p) v cs) (sym e) (record { takes = (h, refl); only = λ z t. t.1 })

pub char_never : {p : ℕ → Bool} {xs cs : List ℕ} {c : ℕ} → xs ≡ c ∷ cs → p c ≡ false
    → Never PastChar (Item p) xs
char_never {p = p} {xs = xs} {cs = cs} {c = c} e h =
    subst (λ v. Never PastChar (Item p) v) (sym e) (never_begins (Item p) c cs refl h)

-- past a character, and past a text
pub past_item : (p : ℕ → Bool) (xs ys : List ℕ) → PastChar p xs ys
    → (c : ℕ) × (xs ≡ c ∷ ys) × (p c ≡ true)
past_item p [] ys t = absurd t
past_item p (c ∷ cs) ys t = (c, ap (λ (l : List ℕ). c ∷ l) t.1, t.0)

pub past_exactly : (n : ℕ) (xs ys : List ℕ) → Takes PastChar (exactly n) xs ys → xs ≡ n ∷ ys
past_exactly n xs ys t =
    let c = past_item (λ d. d == n) xs ys t in
    c.1 ∙ ap (λ d. d ∷ ys) (eqb-true c.0 n c.2)

pub past_word : (cs xs ys : List ℕ) → Takes PastChar (word cs) xs ys → xs ≡ cs ++ ys
past_word [] xs ys e = e
past_word (c ∷ []) xs ys t = past_exactly c xs ys t
past_word (c ∷ d ∷ cs) xs ys t =
    past_exactly c xs t.0 t.1 ∙ ap (λ (l : List ℕ). c ∷ l) (past_word (d ∷ cs) t.0 ys t.2)

-- a character of which a test holds is none of which it fails
pub other_char : (p : ℕ → Bool) (c d : ℕ) → p d ≡ false → p c ≡ true → (c == d) ≡ false
other_char p c d fails holds = go (c == d) refl
  where
    go : (e : Bool) → (c == d) ≡ e → e ≡ false
    go true e = absurd (true≢false (sym holds ∙ ap p (eqb-true c d e) ∙ fails))
    go false e = refl

pub apart_char : (f : Chars) (d : ℕ) → takes_nothing f ≡ false → first f d ≡ false
    → Apart PastChar f (Item (λ c. c == d))
apart_char f d some other =
    apart_begins f (Item (λ c. c == d)) some refl (λ c h. other_char (first f) c d other h)

-- what a walk over what is left says, it says over the whole
pub walk_on : {f g : Chars} {xs ys : List ℕ} (r : Option (Bor (List ℕ))) → Same PastChar f xs g ys
    → MatchOption r (Never PastChar g ys) (λ rest. Only PastChar g ys (chars rest.now))
    → MatchOption r (Never PastChar f xs) (λ rest. Only PastChar f xs (chars rest.now))
walk_on {f = f} {g = g} {xs = xs} {ys = ys} r s m = match_only (λ rest. chars rest.now) r f g xs ys s m
