-- When one value is less than another (SPARQL 1.1, section 17.3; XML Schema 1.1 part 2, section
-- 3.3.7.1 for moments with and without a zone).
use Rattle.std.specs.Prelude.{ℕ, Bool, true, false, ℤ, pos, ◌+ℤ◌, ◌-ℤ◌, int_lt, List, Option, Some, None}
use Rattle.std.specs.Prelude.{if◌then◌else◌}
use Rattle.std.specs.declared.cmp.Ordering.{Ordering}
use Rattle.std.specs.declared.cmp.Ordering.TheVariants.{Less, Equal, Greater}
use Rattle.std.specs.Ordering.{nat_cmp, is_lt, is_le}
use Rattle.std.specs.Option.{option_map}
use Rattle.std.specs.Cmp.Lexicographic.{slice_cmp}
use Rattle.shx_term.specs.declared.term.Literal.{Literal}
use Rattle.value_space.specs.declared.value.Value.{Value}
use Rattle.value_space.specs.declared.value.Value.TheVariants.{Num, Text, Stamp, Day}
use Rattle.value_space.specs.declared.value.Value.TheVariants.{Bool as Truth}
use Rattle.value_space.specs.Numbers.{units}
use Rattle.value_space.specs.Values.{value_of}

abbrev pub int_order : ℤ → ℤ → Ordering
int_order a b = if int_lt a b then Less else (if int_lt b a then Greater else Equal)

abbrev pub truth_order : Bool → Bool → Ordering
truth_order false true = Less
truth_order true false = Greater
truth_order false false = Equal
truth_order true true = Equal

-- the greatest offset of a zone, in nanoseconds
abbrev pub fourteen_hours : ℤ
fourteen_hours = pos 50_400_000_000_000

-- a moment with a zone against one without, whose zone may be any
abbrev pub zoned_order : ℤ → ℤ → Option Ordering
zoned_order zoned unzoned =
    if int_lt zoned (unzoned -ℤ fourteen_hours) then Some Less
    else (if int_lt (unzoned +ℤ fourteen_hours) zoned then Some Greater
    else None)

abbrev pub unzoned_order : ℤ → ℤ → Option Ordering
unzoned_order unzoned zoned =
    if int_lt (unzoned +ℤ fourteen_hours) zoned then Some Less
    else (if int_lt zoned (unzoned -ℤ fourteen_hours) then Some Greater
    else None)

abbrev pub moment_order : ℤ → Bool → ℤ → Bool → Option Ordering
moment_order a true b true = Some (int_order a b)
moment_order a false b false = Some (int_order a b)
moment_order a true b false = zoned_order a b
moment_order a false b true = unzoned_order a b

-- the order of two literals with these texts and values, where they have one
abbrev pub order_of_values : List ℕ → List ℕ → Value → Value → Option Ordering
order_of_values s t (Num n w f) (Num n' w' f') = Some (int_order (units n w f) (units n' w' f'))
order_of_values s t Text Text = Some (slice_cmp nat_cmp s t)
order_of_values s t (Truth a) (Truth b) = Some (truth_order a b)
order_of_values s t (Stamp a zoned) (Stamp b zoned') = moment_order a zoned b zoned'
order_of_values s t (Day a zoned) (Day b zoned') = moment_order a zoned b zoned'
order_of_values s t a b = None

-- texts are compared by code points, which is by the bytes of UTF-8
abbrev pub order_of : Literal → Literal → Option Ordering
order_of a b = order_of_values a.lexical b.lexical (value_of a) (value_of b)

-- `<` and `<=` of two literals with these texts and values: nothing where the two are incomparable
abbrev pub less_of_values : List ℕ → List ℕ → Value → Value → Option Bool
less_of_values s t a b = option_map is_lt (order_of_values s t a b)

abbrev pub less_eq_of_values : List ℕ → List ℕ → Value → Value → Option Bool
less_eq_of_values s t a b = option_map is_le (order_of_values s t a b)

abbrev pub less_of : Literal → Literal → Option Bool
less_of a b = less_of_values a.lexical b.lexical (value_of a) (value_of b)

abbrev pub less_eq_of : Literal → Literal → Option Bool
less_eq_of a b = less_eq_of_values a.lexical b.lexical (value_of a) (value_of b)
