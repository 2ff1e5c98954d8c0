-- Laws of counts against the numbers of literals.
use Rattle.std.proofs.Common.{◌≡◌, ℕ, Bool, true, false, cond, ◌&&◌, List, refl, ℤ, arith}
use Rattle.std.specs.Prelude.{int_lt, nat_lt}
use Rattle.std.specs.Ordering.{is_lt}
use Rattle.std.specs.declared.cmp.Ordering.TheVariants.{Less, Equal, Greater}
use Rattle.std.proofs.lemmas.Int.{ints}
use Rattle.shx_term.specs.declared.term.Literal.{Literal}
use Rattle.shx_term.specs.declared.term.Term.{Term}
use Rattle.shx_term.specs.declared.term.Term.TheVariants.{Iri, Blank, Lit}
use Rattle.value_space.specs.declared.value.Value.{Value}
use Rattle.value_space.specs.declared.value.Value.TheVariants.{Num}
use Rattle.value_space.specs.Compared.{is_less_term, is_true}
use Rattle.value_space.specs.Comparison.{int_order, less_of_values}
use Rattle.value_space.specs.Counts.{is_fewer, is_fewer_than, is_more, is_more_than}
use Rattle.value_space.specs.Numbers.{units}
use Rattle.value_space.specs.Values.{value_of}

is_lt-of : (p q : Bool) → p ≡ is_lt (cond p Less (cond q Greater Equal))
is_lt-of true q = refl
is_lt-of false true = refl
is_lt-of false false = refl

int_order-lt : (a b : ℤ) → int_lt a b ≡ is_lt (int_order a b)
int_order-lt a b = is_lt-of (int_lt a b) (int_lt b a)

fewer-less : (s t : List ℕ) (count : ℕ) (v : Value)
    → is_fewer_than count v ≡ is_true (less_of_values s t (Num false count 0) v)
fewer-less s t count (Num n w f) = int_order-lt (units false count 0) (units n w f)
fewer-less s t count v = refl

more-less : (s t : List ℕ) (count : ℕ) (v : Value)
    → is_more_than count v ≡ is_true (less_of_values s t v (Num false count 0))
more-less s t count (Num n w f) = int_order-lt (units n w f) (units false count 0)
more-less s t count v = refl

-- a count compares as a literal of its value
module _ (count : ℕ) (integer : Literal) (is : value_of integer ≡ Num false count 0) where
  pub fewer-less_term : (t : Term) → is_fewer count t ≡ is_less_term (Lit integer) t
  fewer-less_term (Iri iri) = refl
  fewer-less_term (Blank blank) = refl
  fewer-less_term (Lit l) = rw is (fewer-less integer.lexical l.lexical count (value_of l))

  pub more-less_term : (t : Term) → is_more count t ≡ is_less_term t (Lit integer)
  more-less_term (Iri iri) = refl
  more-less_term (Blank blank) = refl
  more-less_term (Lit l) = rw is (more-less l.lexical integer.lexical count (value_of l))

-- whole numbers compare as their units do
whole_units : (m n : ℕ) → int_lt (units false m 0) (units false n 0) ≡ nat_lt m n
whole_units m n = grind (arith, ints)

-- a literal of a whole number
module _ (count n : ℕ) (l : Literal) (is : value_of l ≡ Num false n 0) where
  pub fewer-whole : is_fewer count (Lit l) ≡ nat_lt count n
  fewer-whole = rw is (whole_units count n)

  pub more-whole : is_more count (Lit l) ≡ nat_lt n count
  more-whole = rw is (whole_units n count)

-- no number is on both sides of another
one_side : (a b : ℤ) → (int_lt a b && int_lt b a) ≡ false
one_side a b = grind (arith, ints)

fewer_or_more : (count : ℕ) (v : Value) → (is_fewer_than count v && is_more_than count v) ≡ false
fewer_or_more count (Num n w f) = one_side (units false count 0) (units n w f)
fewer_or_more count v = refl

pub never_both : (count : ℕ) (t : Term) → (is_fewer count t && is_more count t) ≡ false
never_both count (Iri iri) = refl
never_both count (Blank blank) = refl
never_both count (Lit l) = fewer_or_more count (value_of l)
