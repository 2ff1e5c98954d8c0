-- What a form takes, from what its parts take. R is the relation of the items.
use Rattle.std.proofs.Common.{◌≡◌, ℕ, zero, suc, refl, sym, ◌∙◌, subst, ◌⊎◌, inl, inr, Option, Some, None}
use Rattle.std.proofs.Common.{MatchOption}
use Rattle.ttl_tokens.specs.Form.{Form, Empty, Then, Or, Maybe, Many, Times, Takes}
use Rattle.ttl_tokens.specs.Walks.{Never, Only, Same, Apart, Runs, Greedy, Passes}

pub times_one_more : {P : Type 0} (S : P → P → Type 0) (n : ℕ) (x m y : P) → Times S n x m → S m y
    → Times S (suc n) x y
times_one_more S zero x m y e s = (y, subst (λ v. S v y) (sym e) s, refl)
times_one_more S (suc n) x m y t s = (t.0, t.1, times_one_more S n t.0 m y t.2 s)

pub times_then : {P : Type 0} (S : P → P → Type 0) (n : ℕ) (x m y : P) → Times S n x m
    → (k : ℕ) × Times S k m y → (k : ℕ) × Times S k x y
times_then S zero x m y e t = subst (λ v. (k : ℕ) × Times S k v y) (sym e) t
times_then S (suc n) x m y s t = let more = times_then S n s.0 m y s.2 t in (suc more.0, (s.0, s.1, more.1))

pub times_takes : {I P : Type 0} (R : I → P → P → Type 0) (f : Form I) (n : ℕ) (x y : P)
    → Times (Only R f) n x y → Times (Takes R f) n x y
times_takes R f zero x y e = e
times_takes R f (suc n) x y t = (t.0, t.1.takes, times_takes R f n t.0 y t.2)

module _ {I P : Type 0} {R : I → P → P → Type 0} where
  -- ---- what is the same is taken the same

  pub same_refl : {f : Form I} {x : P} → Same R f x f x
  same_refl = record { to = λ z t. t; back = λ z t. t }

  pub same_trans : {f g h : Form I} {x y z : P} → Same R f x g y → Same R g y h z → Same R f x h z
  same_trans s t = record { to = λ w a. t.to w (s.to w a); back = λ w a. s.back w (t.back w a) }

  pub same_sym : {f g : Form I} {x y : P} → Same R f x g y → Same R g y f x
  same_sym s = record { to = s.back; back = s.to }

  pub same_only : {f g : Form I} {x y z : P} → Same R f x g y → Only R g y z → Only R f x z
  same_only s o = record { takes = s.back _ o.takes; only = λ w t. o.only w (s.to w t) }

  pub same_never : {f g : Form I} {x y : P} → Same R f x g y → Never R g y → Never R f x
  same_never s n = record { none = λ z t. n.none z (s.to z t) }

  pub empty_same : {f : Form I} {x y : P} → Only R f x y → Same R f x Empty y
  empty_same {f = f} {x = x} o = record {
    to = λ z t. o.only z t;
    back = λ z e. subst (λ v. Takes R f x v) e o.takes;
  }

  -- what a walk over what is left says, it says over the whole
  pub match_only : {A : Type 0} (view : A → P) (r : Option A) (f g : Form I) (x y : P) → Same R f x g y
      → MatchOption r (Never R g y) (λ a. Only R g y (view a))
      → MatchOption r (Never R f x) (λ a. Only R f x (view a))
  match_only view None f g x y s h = same_never s h
  match_only view (Some a) f g x y s h = same_only s h

  -- ---- sequences and choices

  pub then_same : {f g : Form I} {x m : P} → Only R f x m → Same R (Then f g) x g m
  then_same {g = g} o = record {
    to = λ z t. subst (λ w. Takes R g w z) (sym (o.only t.0 t.1)) t.2;
    back = λ z t. (_, o.takes, t);
  }

  pub then_never : {f g : Form I} {x : P} → Never R f x → Never R (Then f g) x
  then_never n = record { none = λ z t. n.none t.0 t.1 }

  pub or_never : {f g : Form I} {x : P} → Never R f x → Never R g x → Never R (Or f g) x
  or_never {f = f} {g = g} {x = x} m n = record { none = λ z t. either z t }
    where
      either : (z : P) → Takes R f x z ⊎ Takes R g x z → ⊥
      either z (inl t) = m.none z t
      either z (inr t) = n.none z t

  pub left_same : {f g : Form I} {x : P} → Never R g x → Same R (Or f g) x f x
  left_same {f = f} {g = g} {x = x} n = record { to = λ z t. left z t; back = λ z t. inl t }
    where
      left : (z : P) → Takes R f x z ⊎ Takes R g x z → Takes R f x z
      left z (inl t) = t
      left z (inr t) = absurd (n.none z t)

  pub right_same : {f g : Form I} {x : P} → Never R f x → Same R (Or f g) x g x
  right_same {f = f} {g = g} {x = x} n = record { to = λ z t. right z t; back = λ z t. inr t }
    where
      right : (z : P) → Takes R f x z ⊎ Takes R g x z → Takes R g x z
      right z (inl t) = absurd (n.none z t)
      right z (inr t) = t

  pub or_same : {f g h k : Form I} {x y : P} → Same R f x h y → Same R g x k y
      → Same R (Or f g) x (Or h k) y
  or_same {f = f} {g = g} {h = h} {k = k} {x = x} {y = y} s t = record {
    to = λ z a. to z a;
    back = λ z a. back z a;
  }
    where
      to : (z : P) → Takes R f x z ⊎ Takes R g x z → Takes R h y z ⊎ Takes R k y z
      to z (inl a) = inl (s.to z a)
      to z (inr a) = inr (t.to z a)

      back : (z : P) → Takes R h y z ⊎ Takes R k y z → Takes R f x z ⊎ Takes R g x z
      back z (inl a) = inl (s.back z a)
      back z (inr a) = inr (t.back z a)

  -- ---- what may be absent

  pub maybe_yes : {f g : Form I} {x m : P} → Only R f x m → Never R g x → Same R (Then (Maybe f) g) x g m
  maybe_yes {f = f} {g = g} {x = x} {m = m} o n = record {
    to = λ z t. past z t.0 t.1 t.2;
    back = λ z t. (m, inr o.takes, t);
  }
    where
      past : (z w : P) → (x ≡ w) ⊎ Takes R f x w → Takes R g w z → Takes R g m z
      past z w (inl e) t = absurd (n.none z (subst (λ v. Takes R g v z) (sym e) t))
      past z w (inr s) t = subst (λ v. Takes R g v z) (sym (o.only w s)) t

  pub maybe_no : {f g : Form I} {x : P} → Never R f x → Same R (Then (Maybe f) g) x g x
  maybe_no {f = f} {g = g} {x = x} n = record {
    to = λ z t. past z t.0 t.1 t.2;
    back = λ z t. (x, inl refl, t);
  }
    where
      past : (z w : P) → (x ≡ w) ⊎ Takes R f x w → Takes R g w z → Takes R g x z
      past z w (inl e) t = subst (λ v. Takes R g v z) (sym e) t
      past z w (inr s) t = absurd (n.none w s)

  pub passes_same : {f g : Form I} {x m : P} → Apart R f g → Passes R f x m → Same R (Then (Maybe f) g) x g m
  passes_same {f = f} {g = g} {x = x} a (inl o) =
      maybe_yes o (record { none = λ z t. a.apart x _ z o.takes t })
  passes_same {f = f} {g = g} {x = x} a (inr p) =
      subst (λ v. Same R (Then (Maybe f) g) x g v) p.1 (maybe_no p.0)

  -- ---- what comes many times

  pub runs_more : {f : Form I} {x m y : P} → Runs R f x m → Only R f m y → Runs R f x y
  runs_more {f = f} {x = x} {m = m} {y = y} r o = (suc r.0, times_one_more (Only R f) r.0 x m y r.1 o)

  behind : {f g : Form I} {m : P} → Apart R f g → Never R f m → (k n : ℕ) (x w z : P)
      → Times (Only R f) k x m → Times (Takes R f) n x w → Takes R g w z → Takes R g m z
  behind {g = g} a never zero zero x w z e d t = subst (λ v. Takes R g v z) (sym d ∙ e) t
  behind {f = f} a never zero (suc n) x w z e d t =
      absurd (never.none d.0 (subst (λ v. Takes R f v d.0) e d.1))
  behind {g = g} a never (suc k) zero x w z r d t =
      absurd (a.apart x r.0 z r.1.takes (subst (λ v. Takes R g v z) (sym d) t))
  behind {f = f} a never (suc k) (suc n) x w z r d t =
      behind a never k n r.0 w z r.2 (subst (λ v. Times (Takes R f) n v w) (sym (r.1.only d.0 d.1)) d.2) t

  pub many_same : {f g : Form I} {x m : P} → Apart R f g → Greedy R f x m → Same R (Then (Many f) g) x g m
  many_same {f = f} {x = x} {m = m} a r = record {
    to = λ z t. behind a r.ends r.runs.0 t.1.0 x t.0 z r.runs.1 t.1.1 t.2;
    back = λ z t. (m, (r.runs.0, times_takes R f r.runs.0 x m r.runs.1), t);
  }

  -- ---- one after the other

  pub then_assoc : {f g h : Form I} {x : P} → Same R (Then (Then f g) h) x (Then f (Then g h)) x
  then_assoc = record {
    to = λ z t. (t.1.0, t.1.1, (t.0, t.1.2, t.2));
    back = λ z t. (t.2.0, (t.0, t.1, t.2.1), t.2.2);
  }

  pub then_nothing : {f : Form I} {x : P} → Same R f x (Then f Empty) x
  then_nothing {f = f} {x = x} = record {
    to = λ z t. (z, t, refl);
    back = λ z t. subst (λ v. Takes R f x v) t.2 t.1;
  }

  -- past the first of three
  pub then_step : {f g h : Form I} {x m : P} → Only R f x m → Same R (Then (Then f g) h) x (Then g h) m
  then_step {g = g} {m = m} o = record {
    to = λ z t. (t.0, subst (λ v. Takes R g v t.0) (sym (o.only t.1.0 t.1.1)) t.1.2, t.2);
    back = λ z t. (t.0, (m, o.takes, t.1), t.2);
  }

  -- past the first two of four
  pub past_two : {f g h k : Form I} {x m : P} → Only R (Then f g) x m
      → Same R (Then (Then f (Then g h)) k) x (Then h k) m
  past_two {h = h} {m = m} o = record {
    to = λ z t.
        let here = o.only t.1.2.0 (t.1.0, t.1.1, t.1.2.1) in
        (t.0, subst (λ v. Takes R h v t.0) (sym here) t.1.2.2, t.2);
    back = λ z t. (t.0, (o.takes.0, o.takes.1, (m, o.takes.2, t.1)), t.2);
  }

  pub past_two_never : {f g h k : Form I} {x : P} → Never R (Then f g) x
      → Never R (Then (Then f (Then g h)) k) x
  past_two_never n = record { none = λ z t. n.none t.1.2.0 (t.1.0, t.1.1, t.1.2.1) }

  -- f* where g takes nothing
  pub many_some : {f g : Form I} {x : P} → Never R g x
      → Same R (Then (Many f) g) x (Then (Then f (Many f)) g) x
  many_some {f = f} {g = g} {x = x} n = record {
    to = λ z t. at z t.1.0 t.0 t.1.1 t.2;
    back = λ z t. (t.0, (suc t.1.2.0, (t.1.0, t.1.1, t.1.2.1)), t.2);
  }
    where
      at : (z : P) (k : ℕ) (w : P) → Times (Takes R f) k x w → Takes R g w z
          → Takes R (Then (Then f (Many f)) g) x z
      at z zero w e t = absurd (n.none z (subst (λ v. Takes R g v z) (sym e) t))
      at z (suc k) w s t = (w, (s.0, s.1, (k, s.2)), t)

  -- ---- apart

  pub apart_never : {f g : Form I} {x y : P} → Apart R f g → Only R f x y → Never R g x
  apart_never {x = x} {y = y} a o = record { none = λ z t. a.apart x y z o.takes t }

  pub left_only : {f g : Form I} {x y : P} → Apart R f g → Only R f x y → Only R (Or f g) x y
  left_only apart o = same_only (left_same (apart_never apart o)) o

  -- ---- runs

  pub greedy_none : {f : Form I} {x : P} → Never R f x → Greedy R f x x
  greedy_none n = record { runs = (zero, refl); ends = n }

  pub greedy_more : {f : Form I} {x m y : P} → Only R f x m → Greedy R f m y → Greedy R f x y
  greedy_more {m = m} o r = record { runs = (suc r.runs.0, (m, o, r.runs.1)); ends = r.ends }
