-- Laws of the order of values.
use Rattle.std.proofs.Common.{◌≡◌, ℕ, Bool, true, false, cond, Option, Some, None, List, refl, ap, inl, inr}
use Rattle.std.proofs.Common.{◌⊎◌, IsTrue, arith, ℤ, pos, ◌+ℤ◌, ◌<ℤ◌}
use Rattle.std.specs.Prelude.{is_some, int_lt, ◌↔◌}
use Rattle.std.specs.Option.{option_map}
use Rattle.std.specs.Ordering.{nat_cmp, ordering_reverse, is_lt, is_le}
use Rattle.std.specs.Cmp.{IsTotalOrder}
use Rattle.std.specs.Cmp.Lexicographic.{slice_cmp, nat_list_cmp_total}
use Rattle.std.specs.declared.cmp.Ordering.{Ordering}
use Rattle.std.specs.declared.cmp.Ordering.TheVariants.{Less, Equal, Greater}
use Rattle.std.proofs.lemmas.Int.{ints}
use Rattle.value_space.specs.declared.value.Value.{Value}
use Rattle.value_space.specs.declared.value.Value.TheVariants.{Num, Text, Stamp, Day, IllTyped, Opaque}
use Rattle.value_space.specs.declared.value.Value.TheVariants.{Bool as Truth}
use Rattle.value_space.specs.Numbers.{units}
use Rattle.value_space.specs.Comparison.{int_order, truth_order, fourteen_hours, moment_order}
use Rattle.value_space.specs.Comparison.{order_of_values}
use Rattle.value_space.specs.Laws.{IsNumber, IsExactlyOne}

-- what `<` and `<=` say of an order
pub less-order : (o : Option Ordering) → option_map is_lt o ≡ Some true → o ≡ Some Less
less-order None h = cc
less-order (Some Less) h = refl
less-order (Some Equal) h = cc
less-order (Some Greater) h = cc

pub order-less : (o : Option Ordering) → o ≡ Some Less → option_map is_lt o ≡ Some true
order-less o h = ap (option_map is_lt) h

pub less_eq-order : (o : Option Ordering)
    → (option_map is_le o ≡ Some true) ↔ ((option_map is_lt o ≡ Some true) ⊎ (o ≡ Some Equal))
less_eq-order None = (
  (λ h. cc),
  (λ h. elim h as (λ _. option_map is_le None ≡ Some true) [ inl l ↦ cc | inr r ↦ cc ]),
)
less_eq-order (Some Less) = ((λ h. inl refl), (λ h. refl))
less_eq-order (Some Equal) = ((λ h. inr refl), (λ h. refl))
less_eq-order (Some Greater) = (
  (λ h. cc),
  (λ h. elim h as (λ _. option_map is_le (Some Greater) ≡ Some true)
      [ inl l ↦ cc | inr r ↦ cc ]),
)

pub less_eq-answers : (o : Option Ordering)
    → is_some (option_map is_le o) ≡ is_some (option_map is_lt o)
less_eq-answers None = refl
less_eq-answers (Some o) = refl

same_order : (o p : Ordering) → Some o ≡ Some p → o ≡ p
same_order o p h = cc

-- the order of whole numbers
int_order-less : (a b : ℤ) → int_order a b ≡ Less → a <ℤ b
int_order-less a b h = grind (arith, ints)

less-int_order : (a b : ℤ) → a <ℤ b → int_order a b ≡ Less
less-int_order a b h = grind (arith, ints)

int_order-same : (a : ℤ) → int_order a a ≡ Equal
int_order-same a = grind (arith, ints)

below-trans : (a b c : ℤ) → a <ℤ b → b <ℤ c → a <ℤ c
below-trans a b c p q = omega (arith, ints)

int_order-trans : (a b c : ℤ) → int_order a b ≡ Less → int_order b c ≡ Less → int_order a c ≡ Less
int_order-trans a b c p q =
    less-int_order a c (below-trans a b c (int_order-less a b p) (int_order-less b c q))

-- a moment with a zone and one without are fourteen hours apart where they are comparable
gap : Bool → Bool → ℤ
gap true true = pos 0
gap false false = pos 0
gap true false = fourteen_hours
gap false true = fourteen_hours

moment_order-less : (a : ℤ) (y : Bool) (b : ℤ) (z : Bool) → moment_order a y b z ≡ Some Less
    → (a +ℤ gap y z) <ℤ b
unfolding gap
moment_order-less a true b true h =
    let less : a <ℤ b = int_order-less a b (same_order (int_order a b) Less h) in
    omega (arith, ints)
moment_order-less a false b false h =
    let less : a <ℤ b = int_order-less a b (same_order (int_order a b) Less h) in
    omega (arith, ints)
moment_order-less a true b false h = grind (arith, ints)
moment_order-less a false b true h = grind (arith, ints)

less-moment_order : (a : ℤ) (y : Bool) (b : ℤ) (z : Bool) → (a +ℤ gap y z) <ℤ b
    → moment_order a y b z ≡ Some Less
unfolding gap
less-moment_order a true b true h = ap Some (less-int_order a b (omega (arith, ints)))
less-moment_order a false b false h = ap Some (less-int_order a b (omega (arith, ints)))
less-moment_order a true b false h = grind (arith, ints)
less-moment_order a false b true h = grind (arith, ints)

gaps : (a b c : ℤ) (x y z : Bool) → (a +ℤ gap x y) <ℤ b → (b +ℤ gap y z) <ℤ c → (a +ℤ gap x z) <ℤ c
unfolding gap
gaps a b c true true true p q = omega (arith, ints)
gaps a b c true true false p q = omega (arith, ints)
gaps a b c true false true p q = omega (arith, ints)
gaps a b c true false false p q = omega (arith, ints)
gaps a b c false true true p q = omega (arith, ints)
gaps a b c false true false p q = omega (arith, ints)
gaps a b c false false true p q = omega (arith, ints)
gaps a b c false false false p q = omega (arith, ints)

moment_order-trans : (a : ℤ) (x : Bool) (b : ℤ) (y : Bool) (c : ℤ) (z : Bool)
    → moment_order a x b y ≡ Some Less → moment_order b y c z ≡ Some Less → moment_order a x c z ≡ Some Less
moment_order-trans a x b y c z p q =
    less-moment_order a x c z (gaps a b c x y z (moment_order-less a x b y p) (moment_order-less b y c z q))

moment_order-same : (a : ℤ) (z : Bool) → moment_order a z a z ≡ Some Equal
moment_order-same a true = ap Some (int_order-same a)
moment_order-same a false = ap Some (int_order-same a)

truth_order-trans : (a b c : Bool) → truth_order a b ≡ Less → truth_order b c ≡ Less → truth_order a c ≡ Less
truth_order-trans false false c p q = cc
truth_order-trans false true false p q = cc
truth_order-trans false true true p q = cc
truth_order-trans true false c p q = cc
truth_order-trans true true c p q = cc

truth_order-same : (a : Bool) → truth_order a a ≡ Equal
truth_order-same true = refl
truth_order-same false = refl

self_tied : (o : Ordering) → o ≡ ordering_reverse o → o ≡ Equal
self_tied Less h = cc
self_tied Equal h = refl
self_tied Greater h = cc

total-same : {K : Type 0} {R : K → K → Ordering} → IsTotalOrder R → (x : K) → R x x ≡ Equal
total-same {R = R} o x = self_tied (R x x) (o.antisymm x x)

text_order-same : (s : List ℕ) → slice_cmp nat_cmp s s ≡ Equal
text_order-same s = total-same nat_list_cmp_total s

-- what is less than something less is less
num-trans : (s t u : List ℕ) (n : Bool) (w f : ℕ) (y x : Value)
    → order_of_values s t (Num n w f) y ≡ Some Less → order_of_values t u y x ≡ Some Less
    → order_of_values s u (Num n w f) x ≡ Some Less
num-trans s t u n w f (Num n' w' f') (Num n'' w'' f'') l m =
    ap Some
    (int_order-trans (units n w f) (units n' w' f') (units n'' w'' f'') (same_order _ _ l)
    (same_order _ _ m))
num-trans s t u n w f (Num n' w' f') x l m = cc
num-trans s t u n w f y x l m = cc

truth-trans : (s t u : List ℕ) (p : Bool) (y x : Value) → order_of_values s t (Truth p) y ≡ Some Less
    → order_of_values t u y x ≡ Some Less → order_of_values s u (Truth p) x ≡ Some Less
truth-trans s t u p (Truth p') (Truth p'') l m =
    ap Some (truth_order-trans p p' p'' (same_order _ _ l) (same_order _ _ m))
truth-trans s t u p (Truth p') x l m = cc
truth-trans s t u p y x l m = cc

stamp-trans : (s t u : List ℕ) (a : ℤ) (z : Bool) (y x : Value)
    → order_of_values s t (Stamp a z) y ≡ Some Less → order_of_values t u y x ≡ Some Less
    → order_of_values s u (Stamp a z) x ≡ Some Less
stamp-trans s t u a z (Stamp a' z') (Stamp a'' z'') l m = moment_order-trans a z a' z' a'' z'' l m
stamp-trans s t u a z (Stamp a' z') x l m = cc
stamp-trans s t u a z y x l m = cc

day-trans : (s t u : List ℕ) (a : ℤ) (z : Bool) (y x : Value) → order_of_values s t (Day a z) y ≡ Some Less
    → order_of_values t u y x ≡ Some Less → order_of_values s u (Day a z) x ≡ Some Less
day-trans s t u a z (Day a' z') (Day a'' z'') l m = moment_order-trans a z a' z' a'' z'' l m
day-trans s t u a z (Day a' z') x l m = cc
day-trans s t u a z y x l m = cc

text-trans : (s t u : List ℕ) (y x : Value) → order_of_values s t Text y ≡ Some Less
    → order_of_values t u y x ≡ Some Less → order_of_values s u Text x ≡ Some Less
text-trans s t u Text Text l m =
    ap Some (nat_list_cmp_total.trans s t u (same_order _ _ l) (same_order _ _ m))
text-trans s t u Text x l m = cc
text-trans s t u y x l m = cc

pub order-trans : (s t u : List ℕ) (v y x : Value) → order_of_values s t v y ≡ Some Less
    → order_of_values t u y x ≡ Some Less → order_of_values s u v x ≡ Some Less
order-trans s t u (Num n w f) y x l m = num-trans s t u n w f y x l m
order-trans s t u Text y x l m = text-trans s t u y x l m
order-trans s t u (Truth p) y x l m = truth-trans s t u p y x l m
order-trans s t u (Stamp a z) y x l m = stamp-trans s t u a z y x l m
order-trans s t u (Day a z) y x l m = day-trans s t u a z y x l m
order-trans s t u IllTyped y x l m = cc
order-trans s t u Opaque y x l m = cc

-- a value is not less than itself
pub order-same : (s : List ℕ) (v : Value) → order_of_values s s v v ≡ Some Less → ⊥
order-same s (Num n w f) h = let same = ap (λ o. Some o) (int_order-same (units n w f)) in cc
order-same s Text h = let same = ap (λ o. Some o) (text_order-same s) in cc
order-same s (Truth p) h = let same = ap (λ o. Some o) (truth_order-same p) in cc
order-same s (Stamp a z) h = let same = moment_order-same a z in cc
order-same s (Day a z) h = let same = moment_order-same a z in cc
order-same s IllTyped h = cc
order-same s Opaque h = cc

-- two numbers
one_of : (p q : Bool) → (p ≡ true → q ≡ true → ⊥)
    → IsExactlyOne (Some (is_lt (cond p Less (cond q Greater Equal))) ≡ Some true)
    (Some (cond p Less (cond q Greater Equal)) ≡ Some Equal)
    (Some (is_lt (cond q Less (cond p Greater Equal))) ≡ Some true)
one_of true true h = absurd (h refl refl)
one_of true false h = inl (refl, (λ e. cc), (λ e. cc))
one_of false true h = inr (inr ((λ e. cc), (λ e. cc), refl))
one_of false false h = inr (inl ((λ e. cc), refl, (λ e. cc)))

not_both : (a b : ℤ) → int_lt a b ≡ true → int_lt b a ≡ true → ⊥
not_both a b p q = grind (arith, ints)

int_orders : (a b : ℤ)
    → IsExactlyOne (Some (is_lt (int_order a b)) ≡ Some true) (Some (int_order a b) ≡ Some Equal)
    (Some (is_lt (int_order b a)) ≡ Some true)
int_orders a b = one_of (int_lt a b) (int_lt b a) (not_both a b)

pub numbers-comparable : (s t : List ℕ) (v y : Value) → IsNumber v → IsNumber y
    → IsTrue (is_some (option_map is_lt (order_of_values s t v y)))
numbers-comparable s t (Num n w f) (Num n' w' f') p q = refl
numbers-comparable s t (Num n w f) y p q = absurd q
numbers-comparable s t v y p q = absurd p

pub numbers-total : (s t : List ℕ) (v y : Value) → IsNumber v → IsNumber y
    → IsExactlyOne (option_map is_lt (order_of_values s t v y) ≡ Some true)
    (order_of_values s t v y ≡ Some Equal) (option_map is_lt (order_of_values t s y v) ≡ Some true)
numbers-total s t (Num n w f) (Num n' w' f') p q = int_orders (units n w f) (units n' w' f')
numbers-total s t (Num n w f) y p q = absurd q
numbers-total s t v y p q = absurd p
