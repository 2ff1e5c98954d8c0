-- What is left of a form, from what is left of its parts.
use Rattle.std.proofs.Common.{◌≡◌, ℕ, zero, suc, ◌≤◌, ◌<◌, false, List}
use Rattle.std.proofs.Common.{length, refl, sym, ◌∙◌, subst, ◌⊎◌, inl, inr, arith}
use Rattle.ttl_tokens.specs.Form.{Empty, Then, Or, Maybe, Many, Times, Takes}
use Rattle.ttl_tokens.specs.Walks.{Never, Only, Same, Apart, Greedy, Passes}
use Rattle.ttl_tokens.specs.Chars.{Chars, PastChar, some}
use Rattle.ttl_tokens.specs.inner.Leaves.{Leaves}
use Rattle.ttl_tokens.proofs.FormLemmas.{times_takes, same_trans, then_same, passes_same, then_assoc}
use Rattle.ttl_tokens.proofs.FormLemmas.{then_nothing}
use Rattle.ttl_tokens.proofs.CharLemmas.{takes_nothing, takes_le, takes_shorter, only_le}

-- ---- steps over parts

pub only_leaves : {f : Chars} {xs ys : List ℕ} → Only PastChar f xs ys → Leaves f xs Empty ys
only_leaves {f = f} {xs = xs} o = record {
  back = λ zs e. subst (λ v. Takes PastChar f xs v) e o.takes;
  on = λ zs t. inl (o.only zs t);
  within = only_le o;
}

pub same_leaves : {f g : Chars} {xs ys : List ℕ} → Same PastChar f xs g ys → length ys ≤ length xs
    → Leaves f xs g ys
same_leaves s le = record { back = λ zs t. s.back zs t; on = λ zs t. inl (s.to zs t); within = le }

pub never_leaves : {f g : Chars} {xs ys : List ℕ} → Never PastChar f xs → Never PastChar g ys
    → length ys ≤ length xs → Leaves f xs g ys
never_leaves n m le = record {
  back = λ zs t. absurd (m.none zs t);
  on = λ zs t. absurd (n.none zs t);
  within = le;
}

pub leaves_trans : {f g h : Chars} {xs ys zs : List ℕ} → Leaves f xs g ys → Leaves g ys h zs
    → Leaves f xs h zs
leaves_trans {f = f} {g = g} {h = h} {xs = xs} {ys = ys} {zs = zs} l m = record {
  back = λ ws t. l.back ws (m.back ws t);
  on = λ ws t. past ws (l.on ws t);
  within = let front = l.within in let rest = m.within in omega (arith, front, rest);
}
  where
    past : (ws : List ℕ) → Takes PastChar g ys ws ⊎ (length ys < length ws)
        → Takes PastChar h zs ws ⊎ (length zs < length ws)
    past ws (inl t) = m.on ws t
    past ws (inr less) = inr (let within = m.within in omega (arith, within, less))

pub then_leaves : {f g : Chars} {xs m : List ℕ} → Only PastChar f xs m → Leaves (Then f g) xs g m
then_leaves o = same_leaves (then_same o) (only_le o)

pub passes_leaves : {f g : Chars} {xs m : List ℕ} → Apart PastChar f g → Passes PastChar f xs m
    → Leaves (Then (Maybe f) g) xs g m
passes_leaves {f = f} {g = g} {xs = xs} {m = m} a p = same_leaves (passes_same a p) (shorter p)
  where
    shorter : Passes PastChar f xs m → length m ≤ length xs
    shorter (inl o) = only_le o
    shorter (inr stay) = rw stay.1 (omega arith)

pub or_leaves : {f g h i : Chars} {xs m : List ℕ} → Leaves f xs h m → Leaves g xs i m
    → Leaves (Or f g) xs (Or h i) m
or_leaves {f = f} {g = g} {h = h} {i = i} {xs = xs} {m = m} l r = record {
  back = λ zs t. back zs t;
  on = λ zs t. on zs t;
  within = l.within;
}
  where
    back : (zs : List ℕ) → Takes PastChar h m zs ⊎ Takes PastChar i m zs
        → Takes PastChar f xs zs ⊎ Takes PastChar g xs zs
    back zs (inl t) = inl (l.back zs t)
    back zs (inr t) = inr (r.back zs t)

    left : (zs : List ℕ) → Takes PastChar h m zs ⊎ (length m < length zs)
        → (Takes PastChar h m zs ⊎ Takes PastChar i m zs) ⊎ (length m < length zs)
    left zs (inl t) = inl (inl t)
    left zs (inr less) = inr less

    right : (zs : List ℕ) → Takes PastChar i m zs ⊎ (length m < length zs)
        → (Takes PastChar h m zs ⊎ Takes PastChar i m zs) ⊎ (length m < length zs)
    right zs (inl t) = inl (inr t)
    right zs (inr less) = inr less

    on : (zs : List ℕ) → Takes PastChar f xs zs ⊎ Takes PastChar g xs zs
        → (Takes PastChar h m zs ⊎ Takes PastChar i m zs) ⊎ (length m < length zs)
    on zs (inl t) = left zs (l.on zs t)
    on zs (inr t) = right zs (r.on zs t)

-- ---- what comes many times

-- f takes no empty front, and where it takes one, g takes the empty one alone
pub record Stops (f g : Chars) : Type 0 where
  pub some : takes_nothing f ≡ false
  pub stops : (xs ys zs : List ℕ) → Takes PastChar f xs ys → Takes PastChar g xs zs → xs ≡ zs

pub stops_empty : {f : Chars} → takes_nothing f ≡ false → Stops f Empty
stops_empty some = record { some = some; stops = λ xs ys zs s t. t }

pub stops_apart : {f g : Chars} → takes_nothing f ≡ false → Apart PastChar f g → Stops f g
stops_apart some a = record { some = some; stops = λ xs ys zs s t. absurd (a.apart xs ys zs s t) }

pub stops_many : {f g : Chars} → takes_nothing f ≡ false → Apart PastChar f g → Stops f (Many g)
stops_many {f = f} {g = g} some a = record { some = some; stops = λ xs ys zs s t. at xs ys zs s t.0 t.1 }
  where
    at : (xs ys zs : List ℕ) → Takes PastChar f xs ys → (n : ℕ) → Times (Takes PastChar g) n xs zs → xs ≡ zs
    at xs ys zs s zero e = e
    at xs ys zs s (suc n) t = absurd (a.apart xs ys t.0 s t.1)

ahead : {f g : Chars} {m : List ℕ} → Stops f g → Never PastChar f m → (k n : ℕ) (xs ws zs : List ℕ)
    → Times (Only PastChar f) k xs m → Times (Takes PastChar f) n xs ws → Takes PastChar g ws zs
    → Takes PastChar g m zs ⊎ (length m < length zs)
ahead {g = g} s never zero zero xs ws zs e d t = inl (subst (λ v. Takes PastChar g v zs) (sym d ∙ e) t)
ahead {f = f} s never zero (suc n) xs ws zs e d t =
    absurd (never.none d.0 (subst (λ v. Takes PastChar f v d.0) e d.1))
ahead {f = f} {g = g} {m = m} s never (suc k) zero xs ws zs r d t =
    let same = s.stops xs r.0 zs r.1.takes (subst (λ v. Takes PastChar g v zs) (sym d) t) in
    let less = takes_shorter f xs r.0 s.some r.1.takes in
    let le = takes_le (Many f) r.0 m (k, times_takes PastChar f k r.0 m r.2) in
    inr (rw (sym same) (omega (arith, less, le)))
ahead {f = f} s never (suc k) (suc n) xs ws zs r d t =
    ahead s never k n r.0 ws zs r.2
    (subst (λ v. Times (Takes PastChar f) n v ws) (sym (r.1.only d.0 d.1)) d.2) t

pub many_leaves : {f g : Chars} {xs m : List ℕ} → Stops f g → Greedy PastChar f xs m
    → Leaves (Then (Many f) g) xs g m
many_leaves {f = f} {xs = xs} {m = m} s r =
    let all : Takes PastChar (Many f) xs m = (r.runs.0, times_takes PastChar f r.runs.0 xs m r.runs.1) in
    record {
      back = λ zs t. (m, all, t);
      on = λ zs t. ahead s r.ends r.runs.0 t.1.0 xs t.0 zs r.runs.1 t.1.1 t.2;
      within = takes_le (Many f) xs m all;
    }

pub some_leaves : {f g : Chars} {xs d m : List ℕ} → Stops f g → Only PastChar f xs d → Greedy PastChar f d m
    → Leaves (Then (some f) g) xs g m
some_leaves s o r =
    leaves_trans (same_leaves (same_trans then_assoc (then_same o)) (only_le o)) (many_leaves s r)

-- f+, to its end
pub some_ends : {f : Chars} {xs d m : List ℕ} → takes_nothing f ≡ false → Only PastChar f xs d
    → Greedy PastChar f d m → Leaves (some f) xs Empty m
some_ends some o r =
    leaves_trans (same_leaves then_nothing (omega arith)) (some_leaves (stops_empty some) o r)

-- one f of many, and that no f is left
pub many_more : {f : Chars} {xs m : List ℕ} → takes_nothing f ≡ false → Leaves (some f) xs (Many f) m
    → Leaves (Many f) xs (Many f) m
many_more {f = f} {xs = xs} {m = m} nothing l = record {
  back = λ zs t. front zs (l.back zs t);
  on = λ zs t. on zs t.0 t.1;
  within = l.within;
}
  where
    front : (zs : List ℕ) → Takes PastChar (some f) xs zs → Takes PastChar (Many f) xs zs
    front zs t = (suc t.2.0, (t.0, t.1, t.2.1))

    on : (zs : List ℕ) (n : ℕ) → Times (Takes PastChar f) n xs zs
        → Takes PastChar (Many f) m zs ⊎ (length m < length zs)
    on zs zero e =
        let less = takes_shorter (some f) xs m (rw nothing refl) (l.back m (zero, refl)) in
        inr (rw (sym e) less)
    on zs (suc n) t = l.on zs (t.0, t.1, (n, t.2))

pub many_ends : {f : Chars} {xs : List ℕ} → Never PastChar f xs → Leaves (Many f) xs Empty xs
many_ends {f = f} {xs = xs} never = record {
  back = λ zs e. (zero, e);
  on = λ zs t. inl (on zs t.0 t.1);
  within = omega arith;
}
  where
    on : (zs : List ℕ) (n : ℕ) → Times (Takes PastChar f) n xs zs → xs ≡ zs
    on zs zero e = e
    on zs (suc n) t = absurd (never.none t.0 t.1)
