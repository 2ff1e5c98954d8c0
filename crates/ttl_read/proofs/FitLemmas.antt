-- Forms that keep a fact of places: from where P holds, what f takes g takes too; and g leads from where P
-- holds to where Q holds, and back.
use Rattle.std.proofs.Common.{ℕ, zero, suc, List, ◌⊎◌, inl, inr, subst, sym}
use Rattle.ttl_tokens.specs.Form.{Empty, Then, Or, Maybe, Many, Times, Takes}
use Rattle.ttl_read.specs.Grammar.{Place, Rule, StepsTo}

pub record Fits (text : List ℕ) (P Q : Place → Type 0) (f g : Rule) : Type 0 where
  pub within : (x y : Place) → P x → Takes (StepsTo text) f x y → Takes (StepsTo text) g x y
  pub on : (x y : Place) → Takes (StepsTo text) g x y → P x → Q y
  pub back : (x y : Place) → Takes (StepsTo text) g x y → Q y → P x

module _ {text : List ℕ} {P : Place → Type 0} where
  pub empty_fits : Fits text P P Empty Empty
  empty_fits = record {
    within = λ x y p t. t;
    on = λ x y t p. subst P t p;
    back = λ x y t q. subst P (sym t) q;
  }

  pub then_fits : {Q S : Place → Type 0} {f g h k : Rule} → Fits text P Q f g → Fits text Q S h k
      → Fits text P S (Then f h) (Then g k)
  then_fits a b = record {
    within = λ x y p t.
        let first = a.within x t.0 p t.1 in
        (t.0, first, b.within t.0 y (a.on x t.0 first p) t.2);
    on = λ x y t p. b.on t.0 y t.2 (a.on x t.0 t.1 p);
    back = λ x y t s. a.back x t.0 t.1 (b.back t.0 y t.2 s);
  }

  pub or_fits : {Q : Place → Type 0} {f g h k : Rule} → Fits text P Q f g → Fits text P Q h k
      → Fits text P Q (Or f h) (Or g k)
  or_fits {Q} {f} {g} {h} {k} a b = record { within = within; on = on; back = back }
    where
      within : (x y : Place) → P x → Takes (StepsTo text) f x y ⊎ Takes (StepsTo text) h x y
          → Takes (StepsTo text) g x y ⊎ Takes (StepsTo text) k x y
      within x y p (inl t) = inl (a.within x y p t)
      within x y p (inr t) = inr (b.within x y p t)

      on : (x y : Place) → Takes (StepsTo text) g x y ⊎ Takes (StepsTo text) k x y → P x → Q y
      on x y (inl t) p = a.on x y t p
      on x y (inr t) p = b.on x y t p

      back : (x y : Place) → Takes (StepsTo text) g x y ⊎ Takes (StepsTo text) k x y → Q y → P x
      back x y (inl t) q = a.back x y t q
      back x y (inr t) q = b.back x y t q

  -- a choice more
  pub left_fits : {Q : Place → Type 0} {f g h : Rule} → Fits text P Q f g → Fits text P Q h h
      → Fits text P Q f (Or g h)
  left_fits a b =
      let both = or_fits a b in
      record { within = λ x y p t. inl (a.within x y p t); on = both.on; back = both.back }

  -- a choice less, which leads nowhere
  pub lone_fits : {Q : Place → Type 0} {f g h : Rule} → Fits text P Q f g
      → ((x y : Place) → P x → Takes (StepsTo text) h x y → ⊥) → Fits text P Q (Or f h) g
  lone_fits {Q} {f} {g} {h} a none = record { within = within; on = a.on; back = a.back }
    where
      within : (x y : Place) → P x → Takes (StepsTo text) f x y ⊎ Takes (StepsTo text) h x y
          → Takes (StepsTo text) g x y
      within x y p (inl t) = a.within x y p t
      within x y p (inr t) = absurd (none x y p t)

  pub maybe_fits : {f g : Rule} → Fits text P P f g → Fits text P P (Maybe f) (Maybe g)
  maybe_fits a =
      let both = or_fits empty_fits a in
      record { within = both.within; on = both.on; back = both.back }

  pub many_fits : {f g : Rule} → Fits text P P f g → Fits text P P (Many f) (Many g)
  many_fits {f} {g} a = record {
    within = λ x y p t. (t.0, within t.0 x y p t.1);
    on = λ x y t p. on t.0 x y t.1 p;
    back = λ x y t q. back t.0 x y t.1 q;
  }
    where
      within : (n : ℕ) (x y : Place) → P x → Times (Takes (StepsTo text) f) n x y
          → Times (Takes (StepsTo text) g) n x y
      within zero x y p e = e
      within (suc n) x y p t =
          let first = a.within x t.0 p t.1 in
          (t.0, first, within n t.0 y (a.on x t.0 first p) t.2)

      on : (n : ℕ) (x y : Place) → Times (Takes (StepsTo text) g) n x y → P x → P y
      on zero x y e p = subst P e p
      on (suc n) x y t p = on n t.0 y t.2 (a.on x t.0 t.1 p)

      back : (n : ℕ) (x y : Place) → Times (Takes (StepsTo text) g) n x y → P y → P x
      back zero x y e q = subst P (sym e) q
      back (suc n) x y t q = a.back x t.0 t.1 (back n t.0 y t.2 q)
