-- The fronts that a form over characters takes, where what is said of them holds of two in turn.
use Rattle.std.proofs.Common.{◌≡◌, ℕ, zero, suc, Bool, true, List, [], ◌∷◌, ◌++◌, sym, ap, ◌∙◌, ◌⊎◌, inl, inr}
use Rattle.std.proofs.Common.{append_assoc}
use Rattle.ttl_tokens.specs.Form.{Item, Then, Or, Maybe, Many, Times, Takes}
use Rattle.ttl_tokens.specs.Chars.{Chars, PastChar, dotted}

-- what stands before ys in xs, of which Q holds
pub record HasFront (Q : List ℕ → Type 0) (xs ys : List ℕ) : Type 0 where
  pub front : List ℕ
  pub parts : xs ≡ front ++ ys
  pub holds : Q front

-- Q holds of whatever the form takes
pub record TakesOnly (Q : List ℕ → Type 0) (f : Chars) : Type 0 where
  pub front : (xs ys : List ℕ) → Takes PastChar f xs ys → HasFront Q xs ys

-- Q holds of nothing and of two fronts in turn
pub record Joins (Q : List ℕ → Type 0) : Type 0 where
  pub nothing : Q []
  pub both : (a b : List ℕ) → Q a → Q b → Q (a ++ b)

pub item_front : {Q : List ℕ → Type 0} {p : ℕ → Bool} → ((c : ℕ) → p c ≡ true → Q (c ∷ []))
    → TakesOnly Q (Item p)
item_front {Q = Q} {p = p} one = record { front = front }
  where
    front : (xs ys : List ℕ) → PastChar p xs ys → HasFront Q xs ys
    front [] ys t = absurd t
    front (c ∷ cs) ys t = record {
      front = c ∷ [];
      parts = ap (λ (l : List ℕ). c ∷ l) t.1;
      holds = one c t.0;
    }

pub or_front : {Q : List ℕ → Type 0} {f g : Chars} → TakesOnly Q f → TakesOnly Q g → TakesOnly Q (Or f g)
or_front {Q = Q} {f = f} {g = g} a b = record { front = either }
  where
    either : (xs ys : List ℕ) → Takes PastChar f xs ys ⊎ Takes PastChar g xs ys → HasFront Q xs ys
    either xs ys (inl t) = a.front xs ys t
    either xs ys (inr t) = b.front xs ys t

module _ {Q : List ℕ → Type 0} (joins : Joins Q) where
  front_then : (xs ms ys : List ℕ) → HasFront Q xs ms → HasFront Q ms ys → HasFront Q xs ys
  front_then xs ms ys a b = record {
    front = a.front ++ b.front;
    parts = a.parts ∙ ap (λ (l : List ℕ). a.front ++ l) b.parts ∙ sym (append_assoc a.front b.front ys);
    holds = joins.both a.front b.front a.holds b.holds;
  }

  front_nothing : (xs ys : List ℕ) → xs ≡ ys → HasFront Q xs ys
  front_nothing xs ys e = record { front = []; parts = e; holds = joins.nothing }

  pub then_front : {f g : Chars} → TakesOnly Q f → TakesOnly Q g → TakesOnly Q (Then f g)
  then_front a b = record {
    front = λ xs ys t. front_then xs t.0 ys (a.front xs t.0 t.1) (b.front t.0 ys t.2);
  }

  pub maybe_front : {f : Chars} → TakesOnly Q f → TakesOnly Q (Maybe f)
  maybe_front {f = f} a = record { front = either }
    where
      either : (xs ys : List ℕ) → (xs ≡ ys) ⊎ Takes PastChar f xs ys → HasFront Q xs ys
      either xs ys (inl e) = front_nothing xs ys e
      either xs ys (inr t) = a.front xs ys t

  pub many_front : {f : Chars} → TakesOnly Q f → TakesOnly Q (Many f)
  many_front {f = f} a = record { front = λ xs ys t. all t.0 xs ys t.1 }
    where
      all : (n : ℕ) (xs ys : List ℕ) → Times (Takes PastChar f) n xs ys → HasFront Q xs ys
      all zero xs ys e = front_nothing xs ys e
      all (suc n) xs ys t = front_then xs t.0 ys (a.front xs t.0 t.1) (all n t.0 ys t.2)

  pub dotted_front : {last dot : Chars} → TakesOnly Q last → TakesOnly Q dot → TakesOnly Q (dotted last dot)
  dotted_front a b = maybe_front (then_front (many_front (or_front a b)) a)
