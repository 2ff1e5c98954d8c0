-- With what a form begins, over any items: what it takes begins with what stands there, or is nothing.
use Rattle.std.proofs.Common.{◌≡◌, ℕ, zero, suc, Bool, true, false, ◌&&◌, ◌||◌, refl, sym, ◌∙◌, subst, ◌⊎◌}
use Rattle.std.proofs.Common.{inl, inr, true≢false}
use Rattle.ttl_tokens.specs.Form.{Form, Empty, Item, Then, Or, Maybe, Many, Times, Takes, is_empty, begins}
use Rattle.ttl_tokens.specs.Walks.{Never}

or_right : (b : Bool) → (b || true) ≡ true
or_right true = refl
or_right false = refl

-- one after the other, each begins so or stays where this holds
times_begin : {P : Type 0} (R : P → P → Type 0) (S : P → Type 0) (B : Bool)
    → ((x y : P) → S x → R x y → (B ≡ true) ⊎ S y) → (n : ℕ) (x y : P) → S x → Times R n x y
    → (B ≡ true) ⊎ S y
times_begin R S B one zero x y s e = inr (subst S e s)
times_begin R S B one (suc n) x y s t = go (one x t.0 s t.1) (λ m. times_begin R S B one n t.0 y m t.2)
  where
    go : (B ≡ true) ⊎ S t.0 → (S t.0 → (B ≡ true) ⊎ S y) → (B ≡ true) ⊎ S y
    go (inl b) more = inl b
    go (inr m) more = more m

-- `nothing` and `starts` say of an item whether it may take nothing, and with what it begins; S that this
-- stands at a place
module _ {I P A : Type 0} (R : I → P → P → Type 0) (nothing : I → Bool) (starts : I → A → Bool)
    (S : P → Type 0) (a : A)
    (item : (i : I) (x y : P) → S x → R i x y → (starts i a ≡ true) ⊎ ((nothing i ≡ true) × S y)) where
  begins_or_nothing : (f : Form I) (x y : P) → S x → Takes R f x y
      → (begins nothing starts f a ≡ true) ⊎ ((is_empty nothing f ≡ true) × S y)
  begins_or_nothing Empty x y s e = inr (refl, subst S e s)
  begins_or_nothing (Item i) x y s t = item i x y s t
  begins_or_nothing (Then f g) x y s t =
      front (begins_or_nothing f x t.0 s t.1) (λ m. begins_or_nothing g t.0 y m t.2)
    where
      rest : is_empty nothing f ≡ true
          → (begins nothing starts g a ≡ true) ⊎ ((is_empty nothing g ≡ true) × S y)
          → (begins nothing starts (Then f g) a ≡ true) ⊎ ((is_empty nothing (Then f g) ≡ true) × S y)
      rest empty (inl b) = inl (rw (empty, b) (or_right (begins nothing starts f a)))
      rest empty (inr n) = inr (rw (empty, n.0) refl, n.1)

      front : (begins nothing starts f a ≡ true) ⊎ ((is_empty nothing f ≡ true) × S t.0)
          → (S t.0 → (begins nothing starts g a ≡ true) ⊎ ((is_empty nothing g ≡ true) × S y))
          → (begins nothing starts (Then f g) a ≡ true) ⊎ ((is_empty nothing (Then f g) ≡ true) × S y)
      front (inl b) more = inl (rw b refl)
      front (inr n) more = rest n.0 (more n.1)
  begins_or_nothing (Or f g) x y s (inl t) = left (begins_or_nothing f x y s t)
    where
      left : (begins nothing starts f a ≡ true) ⊎ ((is_empty nothing f ≡ true) × S y)
          → (begins nothing starts (Or f g) a ≡ true) ⊎ ((is_empty nothing (Or f g) ≡ true) × S y)
      left (inl b) = inl (rw b refl)
      left (inr n) = inr (rw n.0 refl, n.1)
  begins_or_nothing (Or f g) x y s (inr t) = right (begins_or_nothing g x y s t)
    where
      right : (begins nothing starts g a ≡ true) ⊎ ((is_empty nothing g ≡ true) × S y)
          → (begins nothing starts (Or f g) a ≡ true) ⊎ ((is_empty nothing (Or f g) ≡ true) × S y)
      right (inl b) = inl (rw b (or_right (begins nothing starts f a)))
      right (inr n) = inr (rw n.0 (or_right (is_empty nothing f)), n.1)
  begins_or_nothing (Maybe f) x y s (inl e) = inr (refl, subst S e s)
  begins_or_nothing (Maybe f) x y s (inr t) = some (begins_or_nothing f x y s t)
    where
      some : (begins nothing starts f a ≡ true) ⊎ ((is_empty nothing f ≡ true) × S y)
          → (begins nothing starts f a ≡ true) ⊎ ((true ≡ true) × S y)
      some (inl b) = inl b
      some (inr n) = inr (refl, n.1)
  begins_or_nothing (Many f) x y s t =
      all (times_begin (Takes R f) S (begins nothing starts f a)
      (λ v w m u. one w (begins_or_nothing f v w m u)) t.0 x y s t.1)
    where
      one : (w : P) → (begins nothing starts f a ≡ true) ⊎ ((is_empty nothing f ≡ true) × S w)
          → (begins nothing starts f a ≡ true) ⊎ S w
      one w (inl b) = inl b
      one w (inr n) = inr n.1

      all : (begins nothing starts f a ≡ true) ⊎ S y
          → (begins nothing starts f a ≡ true) ⊎ ((true ≡ true) × S y)
      all (inl b) = inl b
      all (inr m) = inr (refl, m)

  pub begins_with : (f : Form I) (x y : P) → is_empty nothing f ≡ false → S x → Takes R f x y
      → begins nothing starts f a ≡ true
  begins_with f x y some s t = only (begins_or_nothing f x y s t)
    where
      only : (begins nothing starts f a ≡ true) ⊎ ((is_empty nothing f ≡ true) × S y)
          → begins nothing starts f a ≡ true
      only (inl b) = b
      only (inr n) = absurd (true≢false (sym n.0 ∙ some))

  pub never_where : (f : Form I) (x : P) → is_empty nothing f ≡ false → begins nothing starts f a ≡ false
      → S x → Never R f x
  never_where f x some other s = record {
    none = λ y t. true≢false (sym (begins_with f x y some s t) ∙ other);
  }

and_none : (b : Bool) → (b && false) ≡ false
and_none true = refl
and_none false = refl

begins_none : {I A : Type 0} (nothing : I → Bool) (a : A) (f : Form I)
    → begins nothing (λ i u. false) f a ≡ false
begins_none nothing a Empty = refl
begins_none nothing a (Item i) = refl
begins_none nothing a (Then f g) =
    rw (begins_none nothing a f, begins_none nothing a g) (and_none (is_empty nothing f))
begins_none nothing a (Or f g) = rw (begins_none nothing a f, begins_none nothing a g) refl
begins_none nothing a (Maybe f) = begins_none nothing a f
begins_none nothing a (Many f) = begins_none nothing a f

-- where no item takes anything but nothing, no form does that has to take something
pub never_where_none : {I P : Type 0} (R : I → P → P → Type 0) (nothing : I → Bool) (S : P → Type 0)
    → ((i : I) (x y : P) → S x → R i x y → (nothing i ≡ true) × S y) → (f : Form I) (x : P)
    → is_empty nothing f ≡ false → S x → Never R f x
never_where_none R nothing S item f x some s =
    never_where R nothing (λ i u. false) S zero (λ i v w m t. inr (item i v w m t)) f x some
    (begins_none nothing zero f) s
