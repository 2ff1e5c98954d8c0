-- White space and comments: what the walk over them leaves stands behind the longest front of them.
use Rattle.std.proofs.Common.{◌≡◌, ℕ, zero, suc, ◌≤◌, Bool, true, false, not, ◌==◌, List, [], ◌∷◌, length}
use Rattle.std.proofs.Common.{refl, sym, subst, inl, inr, arith, true≢false, ◌∙◌, ◌⊎◌}
use Rattle.std.proofs.lemmas.Bool.Decides.{nat_tests}
use Rattle.std.specs.Prelude.{if◌then◌else◌}
use Rattle.ttl_tokens.specs.Form.{Item, Then, Or, Many, Times, Takes}
use Rattle.ttl_tokens.specs.Chars.{Chars, PastChar, Longest, is_white, is_line_end}
use Rattle.ttl_tokens.specs.Blanks.{comment, blanks, SkipsBlanks}
use Rattle.ttl_tokens.specs.inner.BlankWalk.{after_blanks}
use Rattle.ttl_tokens.proofs.CharLemmas.{takes_le}

-- ---- one character

abbrev blank : Chars
blank = Or (Item is_white) comment

-- of a comment, what stands behind its `#`
abbrev line_rest : Chars
line_rest = Many (Item (λ c. not (is_line_end c)))

-- what is left to take, where a comment is open or not
abbrev left : Bool → Chars
left true = Then line_rest blanks
left false = blanks

-- how white space and comments begin with c
data Begins (c : ℕ) (cs zs : List ℕ) : Type 0 where
  Nowhere : c ∷ cs ≡ zs → Begins c cs zs
  White : is_white c ≡ true → Takes PastChar blanks cs zs → Begins c cs zs
  Hash : (c == 35) ≡ true → Takes PastChar (left true) cs zs → Begins c cs zs

begun : (c : ℕ) (cs zs : List ℕ) → Takes PastChar blanks (c ∷ cs) zs → Begins c cs zs
begun c cs zs t = from t.0 t.1
  where
    one : (n : ℕ) (m : List ℕ) → Takes PastChar blank (c ∷ cs) m → Times (Takes PastChar blank) n m zs
        → Begins c cs zs
    one n m (inl w) more =
        White w.0 (n, subst (λ v. Times (Takes PastChar blank) n v zs) (sym w.1) more)
    one n m (inr h) more =
        Hash h.1.0 (m, subst (λ v. Takes PastChar line_rest v m) (sym h.1.1) h.2, (n, more))

    from : (n : ℕ) → Times (Takes PastChar blank) n (c ∷ cs) zs → Begins c cs zs
    from zero e = Nowhere e
    from (suc n) s = one n s.0 s.1 s.2

-- an open comment ends before c, or goes on with it
abbrev GoesOn : ℕ → List ℕ → List ℕ → Type 0
GoesOn c cs zs =
    Takes PastChar blanks (c ∷ cs) zs ⊎ ((not (is_line_end c) ≡ true) × Takes PastChar (left true) cs zs)

goes_on : (c : ℕ) (cs zs : List ℕ) → Takes PastChar (left true) (c ∷ cs) zs → GoesOn c cs zs
goes_on c cs zs t = from t.1.0 t.1.1
  where
    from : (k : ℕ) → Times (PastChar (λ d. not (is_line_end d))) k (c ∷ cs) t.0 → GoesOn c cs zs
    from zero e = inl (subst (λ v. Takes PastChar blanks v zs) (sym e) t.2)
    from (suc k) s =
        let run = subst (λ v. Times (PastChar (λ d. not (is_line_end d))) k v t.0) (sym s.1.1) s.2 in
        inr (s.1.0, (t.0, (k, run), t.2))

module _ {c : ℕ} {cs ys : List ℕ} where
  white_step : is_white c ≡ true → Longest blanks cs ys → Longest blanks (c ∷ cs) ys
  white_step w l = record {
    takes = (suc l.takes.0, (cs, inl (w, refl), l.takes.1));
    longest = λ zs t. by zs (begun c cs zs t);
  }
    where
      le : length ys ≤ length cs
      le = takes_le blanks cs ys l.takes

      by : (zs : List ℕ) → Begins c cs zs → length ys ≤ length zs
      by zs (Nowhere e) = rw (sym e) (omega (arith, le))
      by zs (White v t) = l.longest zs t
      by zs (Hash h t) = absurd (grind (arith, nat_tests, w, h))

  hash_step : (c == 35) ≡ true → Longest (left true) cs ys → Longest blanks (c ∷ cs) ys
  hash_step h l = record {
    takes = (suc l.takes.2.0, (l.takes.0, inr (cs, (h, refl), l.takes.1), l.takes.2.1));
    longest = λ zs t. by zs (begun c cs zs t);
  }
    where
      le : length ys ≤ length cs
      le = takes_le (left true) cs ys l.takes

      by : (zs : List ℕ) → Begins c cs zs → length ys ≤ length zs
      by zs (Nowhere e) = rw (sym e) (omega (arith, le))
      by zs (White w t) = absurd (grind (arith, nat_tests, w, h))
      by zs (Hash g t) = l.longest zs t

  line_step : is_line_end c ≡ true → Longest blanks cs ys → Longest (left true) (c ∷ cs) ys
  line_step e l = record {
    takes = (c ∷ cs, (zero, refl), whole.takes);
    longest = λ zs t. by zs (goes_on c cs zs t);
  }
    where
      whole : Longest blanks (c ∷ cs) ys
      whole = white_step (grind (arith, nat_tests)) l

      by : (zs : List ℕ) → GoesOn c cs zs → length ys ≤ length zs
      by zs (inl t) = whole.longest zs t
      by zs (inr t) = absurd (true≢false (sym t.0 ∙ rw e refl))

  within_step : is_line_end c ≡ false → Longest (left true) cs ys → Longest (left true) (c ∷ cs) ys
  within_step e l = record {
    takes = (l.takes.0, (suc l.takes.1.0, (cs, (rw e refl, refl), l.takes.1.1)), l.takes.2);
    longest = λ zs t. by zs (goes_on c cs zs t);
  }
    where
      le : length ys ≤ length cs
      le = takes_le (left true) cs ys l.takes

      here : (zs : List ℕ) → Begins c cs zs → length ys ≤ length zs
      here zs (Nowhere s) = rw (sym s) (omega (arith, le))
      here zs (White w t) = l.longest zs (cs, (zero, refl), t)
      here zs (Hash h t) = l.longest zs t

      by : (zs : List ℕ) → GoesOn c cs zs → length ys ≤ length zs
      by zs (inl t) = here zs (begun c cs zs t)
      by zs (inr t) = l.longest zs t.1

stop_step : (c : ℕ) (cs : List ℕ) → is_white c ≡ false → (c == 35) ≡ false → Longest blanks (c ∷ cs) (c ∷ cs)
stop_step c cs w h = record { takes = (zero, refl); longest = λ zs t. by zs (begun c cs zs t) }
  where
    by : (zs : List ℕ) → Begins c cs zs → length (c ∷ cs) ≤ length zs
    by zs (Nowhere e) = rw (sym e) (omega arith)
    by zs (White v t) = absurd (true≢false (sym v ∙ w))
    by zs (Hash g t) = absurd (true≢false (sym g ∙ h))

-- ---- the walk

walk_longest : (b : Bool) (xs : List ℕ) → Longest (left b) xs (after_blanks b xs)
walk_longest true [] = record { takes = ([], (zero, refl), (zero, refl)); longest = λ zs t. omega arith }
walk_longest false [] = record { takes = (zero, refl); longest = λ zs t. omega arith }
walk_longest true (c ∷ cs) = step (is_line_end c) refl (walk_longest false cs) (walk_longest true cs)
  where
    step : (e : Bool) → is_line_end c ≡ e → Longest blanks cs (after_blanks false cs)
        → Longest (left true) cs (after_blanks true cs)
        → Longest (left true) (c ∷ cs) (if e then after_blanks false cs else after_blanks true cs)
    step true is p q = line_step is p
    step false is p q = within_step is q
walk_longest false (c ∷ cs) =
    step (is_white c) (c == 35) refl refl (walk_longest false cs) (walk_longest true cs)
  where
    step : (w h : Bool) → is_white c ≡ w → (c == 35) ≡ h → Longest blanks cs (after_blanks false cs)
        → Longest (left true) cs (after_blanks true cs)
        → Longest blanks (c ∷ cs)
        (if w then after_blanks false cs else if h then after_blanks true cs else (c ∷ cs))
    step true h white hash p q = white_step white p
    step false true white hash p q = hash_step hash q
    step false false white hash p q = stop_step c cs white hash

-- where nothing is left, or something else, of what is left behind the white space and comments of xs
module _ (xs ys : List ℕ) where
  skipped : ys ≡ after_blanks false xs → SkipsBlanks xs ys
  skipped e = subst (λ v. SkipsBlanks xs v) (sym e) (walk_longest false xs)

  pub walk_ends : (b : Bool) → after_blanks b ys ≡ after_blanks false xs → ys ≡ [] → SkipsBlanks xs ys
  walk_ends b left none = skipped (none ∙ rw none at left)

  pub walk_stops : (c : ℕ) (cs : List ℕ) → after_blanks false ys ≡ after_blanks false xs → ys ≡ c ∷ cs
      → is_white c ≡ false → (c ≡ 35 → ⊥) → SkipsBlanks xs ys
  walk_stops c cs left here w h =
      let other : (c == 35) ≡ false = grind (arith, nat_tests) in
      let stays : after_blanks false (c ∷ cs) ≡ c ∷ cs = rw (w, other) refl in
      skipped (here ∙ sym stays ∙ rw here at left)
