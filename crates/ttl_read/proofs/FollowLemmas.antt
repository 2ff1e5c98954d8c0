-- Laws of what leads on, whatever follows.
use Rattle.std.proofs.Common.{◌≡◌, ℕ, zero, suc, Bool, List, refl, sym, subst, ◌⊎◌, inl, inr}
use Rattle.ttl_tokens.specs.Form.{Then, Or, Maybe, Many, Times, Takes}
use Rattle.ttl_tokens.specs.Walks.{Never, Only, Same}
use Rattle.ttl_tokens.specs.declared.token.Token.{Token}
use Rattle.ttl_tokens.proofs.FormLemmas.{same_trans, same_never, then_same, then_never, then_assoc}
use Rattle.ttl_tokens.proofs.FormLemmas.{left_same, right_same, or_never}
use Rattle.ttl_read.specs.Grammar.{Place, Rule, StepsTo}
use Rattle.ttl_read.specs.inner.Follows.{Avoids, Leads, Fails}

pub only_leads : {text : List ℕ} {f : Rule} {stop : Token → Bool} {x y : Place} → Only (StepsTo text) f x y
    → Leads text f stop x y
only_leads o = record { on = λ g a. then_same o }

pub never_fails : {text : List ℕ} {f : Rule} {stop : Token → Bool} {x : Place} → Never (StepsTo text) f x
    → Fails text f stop x
never_fails n = record { none = λ g a. then_never n }

-- ---- sequences: what follows f is g with whatever follows it

pub then_leads : {text : List ℕ} {f g : Rule} {stop next : Token → Bool} {x m y : Place}
    → ((h : Rule) → Avoids stop h → Avoids next (Then g h)) → Leads text f next x m → Leads text g stop m y
    → Leads text (Then f g) stop x y
then_leads {g = g} avoids l k = record {
  on = λ h a. same_trans then_assoc (same_trans (l.on (Then g h) (avoids h a)) (k.on h a));
}

pub then_fails : {text : List ℕ} {f g : Rule} {stop next : Token → Bool} {x : Place}
    → ((h : Rule) → Avoids stop h → Avoids next (Then g h)) → Fails text f next x
    → Fails text (Then f g) stop x
then_fails {g = g} avoids n = record { none = λ h a. same_never then_assoc (n.none (Then g h) (avoids h a)) }

pub behind_fails : {text : List ℕ} {f g : Rule} {stop next : Token → Bool} {x m : Place}
    → ((h : Rule) → Avoids stop h → Avoids next (Then g h)) → Leads text f next x m → Fails text g stop m
    → Fails text (Then f g) stop x
behind_fails {g = g} avoids l n = record {
  none = λ h a. same_never (same_trans then_assoc (l.on (Then g h) (avoids h a))) (n.none h a);
}

-- ---- choices

or_then : {text : List ℕ} {f g h : Rule} {x : Place}
    → Same (StepsTo text) (Then (Or f g) h) x (Or (Then f h) (Then g h)) x
or_then {text = text} {f = f} {g = g} {h = h} {x = x} = record { to = λ z t. to z t; back = λ z t. back z t }
  where
    to : (z : Place) → Takes (StepsTo text) (Then (Or f g) h) x z
        → Takes (StepsTo text) (Then f h) x z ⊎ Takes (StepsTo text) (Then g h) x z
    to z t = which t.0 t.1 t.2
      where
        which : (m : Place) → Takes (StepsTo text) f x m ⊎ Takes (StepsTo text) g x m
            → Takes (StepsTo text) h m z
            → Takes (StepsTo text) (Then f h) x z ⊎ Takes (StepsTo text) (Then g h) x z
        which m (inl a) b = inl (m, a, b)
        which m (inr a) b = inr (m, a, b)

    back : (z : Place) → Takes (StepsTo text) (Then f h) x z ⊎ Takes (StepsTo text) (Then g h) x z
        → Takes (StepsTo text) (Then (Or f g) h) x z
    back z (inl t) = (t.0, inl t.1, t.2)
    back z (inr t) = (t.0, inr t.1, t.2)

pub left_leads : {text : List ℕ} {f g : Rule} {stop : Token → Bool} {x y : Place} → Leads text f stop x y
    → Fails text g stop x → Leads text (Or f g) stop x y
left_leads l n = record { on = λ h a. same_trans or_then (same_trans (left_same (n.none h a)) (l.on h a)) }

pub right_leads : {text : List ℕ} {f g : Rule} {stop : Token → Bool} {x y : Place} → Fails text f stop x
    → Leads text g stop x y → Leads text (Or f g) stop x y
right_leads n l = record { on = λ h a. same_trans or_then (same_trans (right_same (n.none h a)) (l.on h a)) }

pub or_fails : {text : List ℕ} {f g : Rule} {stop : Token → Bool} {x : Place} → Fails text f stop x
    → Fails text g stop x → Fails text (Or f g) stop x
or_fails n m = record { none = λ h a. same_never or_then (or_never (n.none h a) (m.none h a)) }

-- ---- what may be absent

maybe_then : {text : List ℕ} {f h : Rule} {x : Place}
    → Same (StepsTo text) (Then (Maybe f) h) x (Or h (Then f h)) x
maybe_then {text = text} {f = f} {h = h} {x = x} = record {
  to = λ z t. to z t.0 t.1 t.2;
  back =
      λ z t. back z t;
}
  where
    to : (z m : Place) → (x ≡ m) ⊎ Takes (StepsTo text) f x m → Takes (StepsTo text) h m z
        → Takes (StepsTo text) h x z ⊎ Takes (StepsTo text) (Then f h) x z
    to z m (inl e) b = inl (subst (λ v. Takes (StepsTo text) h v z) (sym e) b)
    to z m (inr a) b = inr (m, a, b)

    back : (z : Place) → Takes (StepsTo text) h x z ⊎ Takes (StepsTo text) (Then f h) x z
        → Takes (StepsTo text) (Then (Maybe f) h) x z
    back z (inl t) = (x, inl refl, t)
    back z (inr t) = (t.0, inr t.1, t.2)

-- no follower begins here
abbrev pub NoneFollows : List ℕ → (Token → Bool) → Place → Type 0
NoneFollows text stop x = (h : Rule) → Avoids stop h → Never (StepsTo text) h x

pub maybe_there : {text : List ℕ} {f : Rule} {stop : Token → Bool} {x y : Place} → NoneFollows text stop x
    → Leads text f stop x y → Leads text (Maybe f) stop x y
maybe_there none l = record {
  on = λ h a. same_trans maybe_then (same_trans (right_same (none h a)) (l.on h a));
}

pub maybe_absent : {text : List ℕ} {f : Rule} {stop : Token → Bool} {x : Place} → Fails text f stop x
    → Leads text (Maybe f) stop x x
maybe_absent n = record { on = λ h a. same_trans maybe_then (left_same (n.none h a)) }

pub maybe_fails : {text : List ℕ} {f : Rule} {stop : Token → Bool} {x : Place} → NoneFollows text stop x
    → Fails text f stop x → Fails text (Maybe f) stop x
maybe_fails none n = record { none = λ h a. same_never maybe_then (or_never (none h a) (n.none h a)) }

-- ---- what comes many times

many_then : {text : List ℕ} {f h : Rule} {x : Place}
    → Same (StepsTo text) (Then (Many f) h) x (Or h (Then f (Then (Many f) h))) x
many_then {text = text} {f = f} {h = h} {x = x} = record {
  to = λ z t. to z t.1.0 t.0 t.1.1 t.2;
  back = λ z t. back z t;
}
  where
    to : (z : Place) (n : ℕ) (m : Place) → Times (Takes (StepsTo text) f) n x m → Takes (StepsTo text) h m z
        → Takes (StepsTo text) h x z ⊎ Takes (StepsTo text) (Then f (Then (Many f) h)) x z
    to z zero m e b = inl (subst (λ v. Takes (StepsTo text) h v z) (sym e) b)
    to z (suc n) m s b = inr (s.0, s.1, (m, (n, s.2), b))

    back : (z : Place) → Takes (StepsTo text) h x z ⊎ Takes (StepsTo text) (Then f (Then (Many f) h)) x z
        → Takes (StepsTo text) (Then (Many f) h) x z
    back z (inl t) = (x, (zero, refl), t)
    back z (inr t) = (t.2.0, (suc t.2.1.0, (t.0, t.1, t.2.1.1)), t.2.2)

-- one more of them, where none of what may follow them begins
pub many_more : {text : List ℕ} {f h : Rule} {stop : Token → Bool} {x m : Place} → Never (StepsTo text) h x
    → Avoids stop (Then (Many f) h) → Leads text f stop x m
    → Same (StepsTo text) (Then (Many f) h) x (Then (Many f) h) m
many_more {f = f} {h = h} none a l =
    same_trans many_then (same_trans (right_same none) (l.on (Then (Many f) h) a))

-- no more of them
pub many_end : {text : List ℕ} {f h : Rule} {stop : Token → Bool} {x : Place} → Avoids stop (Then (Many f) h)
    → Fails text f stop x → Same (StepsTo text) (Then (Many f) h) x h x
many_end {f = f} {h = h} a n = same_trans many_then (left_same (n.none (Then (Many f) h) a))

-- one of them is begun and is none, where none of what may follow them begins
pub many_fails : {text : List ℕ} {f h : Rule} {stop : Token → Bool} {x : Place} → Never (StepsTo text) h x
    → Avoids stop (Then (Many f) h) → Fails text f stop x → Never (StepsTo text) (Then (Many f) h) x
many_fails {f = f} {h = h} none a n = same_never many_then (or_never none (n.none (Then (Many f) h) a))
