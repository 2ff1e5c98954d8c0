-- The walk over ((last | dot)* last)? that remembers where it last took `last`.
use Rattle.std.proofs.Common.{◌≡◌, ℕ, zero, suc, ◌≤◌, Bool, true, false, List, length, refl, sym, subst}
use Rattle.std.proofs.Common.{◌⊎◌, inl, inr, arith, true≢false}
use Rattle.ttl_tokens.specs.Form.{Then, Or, Many, Times, Takes}
use Rattle.ttl_tokens.specs.Walks.{Never, Only}
use Rattle.ttl_tokens.specs.Chars.{Chars, Longest, PastChar, dotted, exactly}
use Rattle.ttl_tokens.specs.inner.NameForms.{Steps}
use Rattle.ttl_tokens.proofs.CharLemmas.{first, takes_le, takes_nothing, apart_char}
use Rattle.ttl_tokens.proofs.FormLemmas.{apart_never, times_one_more}

-- what begins with no dot is no dot
pub last_no_dot : (last : Chars) {xs ys : List ℕ} → takes_nothing last ≡ false → first last 46 ≡ false
    → Only PastChar last xs ys → Only PastChar last xs ys × Never PastChar (exactly 46) xs
last_no_dot last some other o = (o, apart_never (apart_char last 46 some other) o)

-- the walk stands at rest, and end is where it last took `last`
pub record Walked (last dot : Chars) (xs end rest : List ℕ) : Type 0 where
  pub reached : Takes PastChar (Many (Or last dot)) xs rest
  pub ended : Takes PastChar (dotted last dot) xs end
  pub within : length rest ≤ length end
  pub ahead : (zs : List ℕ) → Takes PastChar (dotted last dot) xs zs
      → (length end ≤ length zs) ⊎ Takes PastChar (Then (Many (Or last dot)) last) rest zs

-- past the one front that either takes at rest, the walk has ended, or it goes on
one_step : (last dot : Chars) (rest m zs : List ℕ)
    → ((w : List ℕ) → Takes PastChar (Or last dot) rest w → m ≡ w)
    → Takes PastChar (Then (Many (Or last dot)) last) rest zs
    → Takes PastChar last rest zs ⊎ Takes PastChar (Then (Many (Or last dot)) last) m zs
one_step last dot rest m zs only t = go t.0 t.1.0 t.1.1 t.2
  where
    go : (w : List ℕ) (n : ℕ) → Times (Takes PastChar (Or last dot)) n rest w → Takes PastChar last w zs
        → Takes PastChar last rest zs ⊎ Takes PastChar (Then (Many (Or last dot)) last) m zs
    go w zero e s = inl (subst (λ v. Takes PastChar last v zs) (sym e) s)
    go w (suc n) r s =
        inr (w, (n, subst (λ v. Times (Takes PastChar (Or last dot)) n v w) (sym (only r.0 r.1)) r.2), s)

module _ {last dot : Chars} where
  pub walked_none : {xs : List ℕ} → Walked last dot xs xs xs
  walked_none {xs = xs} = record {
    reached = (zero, refl);
    ended = inl refl;
    within = omega arith;
    ahead = λ zs t. ahead zs t;
  }
    where
      ahead : (zs : List ℕ) → (xs ≡ zs) ⊎ Takes PastChar (Then (Many (Or last dot)) last) xs zs
          → (length xs ≤ length zs) ⊎ Takes PastChar (Then (Many (Or last dot)) last) xs zs
      ahead zs (inl e) = inl (rw e (omega arith))
      ahead zs (inr t) = inr t

  pub walked_last : {xs end rest m : List ℕ} → Walked last dot xs end rest → Only PastChar last rest m
      → Never PastChar dot rest → Walked last dot xs m m
  walked_last {xs = xs} {end = end} {rest = rest} {m = m} walked step other = record {
    reached =
        (suc walked.reached.0, times_one_more _ walked.reached.0 xs rest m walked.reached.1 (inl step.takes));
    ended = inr (rest, walked.reached, step.takes);
    within = omega arith;
    ahead = λ zs t. ahead zs (walked.ahead zs t);
  }
    where
      only : (w : List ℕ) → Takes PastChar last rest w ⊎ Takes PastChar dot rest w → m ≡ w
      only w (inl t) = step.only w t
      only w (inr t) = absurd (other.none w t)

      ends : (zs : List ℕ)
          → Takes PastChar last rest zs ⊎ Takes PastChar (Then (Many (Or last dot)) last) m zs
          → (length m ≤ length zs) ⊎ Takes PastChar (Then (Many (Or last dot)) last) m zs
      ends zs (inl t) = let e = step.only zs t in inl (rw e (omega arith))
      ends zs (inr t) = inr t

      ahead : (zs : List ℕ)
          → (length end ≤ length zs) ⊎ Takes PastChar (Then (Many (Or last dot)) last) rest zs
          → (length m ≤ length zs) ⊎ Takes PastChar (Then (Many (Or last dot)) last) m zs
      ahead zs (inl le) =
          let less = takes_le last rest m step.takes in
          let within = walked.within in
          inl (omega arith)
      ahead zs (inr t) = ends zs (one_step last dot rest m zs only t)

  pub walked_dot : {xs end rest m : List ℕ} → Walked last dot xs end rest → Only PastChar dot rest m
      → Never PastChar last rest → Walked last dot xs end m
  walked_dot {xs = xs} {end = end} {rest = rest} {m = m} walked step other = record {
    reached =
        (suc walked.reached.0, times_one_more _ walked.reached.0 xs rest m walked.reached.1 (inr step.takes));
    ended = walked.ended;
    within = let less = takes_le dot rest m step.takes in let before = walked.within in omega arith;
    ahead = λ zs t. ahead zs (walked.ahead zs t);
  }
    where
      only : (w : List ℕ) → Takes PastChar last rest w ⊎ Takes PastChar dot rest w → m ≡ w
      only w (inl t) = absurd (other.none w t)
      only w (inr t) = step.only w t

      ends : (zs : List ℕ)
          → Takes PastChar last rest zs ⊎ Takes PastChar (Then (Many (Or last dot)) last) m zs
          → (length end ≤ length zs) ⊎ Takes PastChar (Then (Many (Or last dot)) last) m zs
      ends zs (inl t) = absurd (other.none zs t)
      ends zs (inr t) = inr t

      ahead : (zs : List ℕ)
          → (length end ≤ length zs) ⊎ Takes PastChar (Then (Many (Or last dot)) last) rest zs
          → (length end ≤ length zs) ⊎ Takes PastChar (Then (Many (Or last dot)) last) m zs
      ahead zs (inl le) = inl le
      ahead zs (inr t) = ends zs (one_step last dot rest m zs only t)

  pub walked_true : {xs end rest m : List ℕ} (is_last : Bool) → is_last ≡ true → Steps last dot is_last rest m
      → Walked last dot xs end rest → Walked last dot xs m m
  walked_true true e step walked = walked_last walked step.0 step.1
  walked_true false e step walked = absurd (true≢false (sym e))

  pub walked_false : {xs end rest m : List ℕ} (is_last : Bool) → is_last ≡ false
      → Steps last dot is_last rest m → Walked last dot xs end rest → Walked last dot xs end m
  walked_false true e step walked = absurd (true≢false e)
  walked_false false e step walked = walked_dot walked step.0 step.1

  pub walked_longest : {xs end rest : List ℕ} → Walked last dot xs end rest
      → Never PastChar (Or last dot) rest → Longest (dotted last dot) xs end
  walked_longest {xs = xs} {end = end} {rest = rest} walked never = record {
    takes = walked.ended;
    longest = λ zs t. longest zs (walked.ahead zs t);
  }
    where
      none : (zs w : List ℕ) (n : ℕ) → Times (Takes PastChar (Or last dot)) n rest w
          → Takes PastChar last w zs → ⊥
      none zs w zero e s = never.none zs (inl (subst (λ v. Takes PastChar last v zs) (sym e) s))
      none zs w (suc n) r s = never.none r.0 r.1

      longest : (zs : List ℕ)
          → (length end ≤ length zs) ⊎ Takes PastChar (Then (Many (Or last dot)) last) rest zs
          → length end ≤ length zs
      longest zs (inl le) = le
      longest zs (inr t) = absurd (none zs t.0 t.1.0 t.1.1 t.2)
