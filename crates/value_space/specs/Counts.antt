-- A count against the number of a literal (SHACL, sections 4.2, 4.4.1, 4.4.2 and 4.7.3).
use Rattle.std.specs.Prelude.{ℕ, Bool, false, int_lt, Option, Some, None}
use Rattle.shx_term.specs.declared.term.Term.{Term}
use Rattle.shx_term.specs.declared.term.Term.TheVariants.{Iri, Blank, Lit}
use Rattle.value_space.specs.declared.value.Value.{Value}
use Rattle.value_space.specs.declared.value.Value.TheVariants.{Num, Text, Stamp, Day, IllTyped, Opaque}
use Rattle.value_space.specs.declared.value.Value.TheVariants.{Bool as Truth}
use Rattle.value_space.specs.Compared.{Compared}
use Rattle.value_space.specs.Numbers.{units}
use Rattle.value_space.specs.Values.{value_of}

-- the count is less than the number; nothing is less than what is no number
abbrev pub is_fewer_than : ℕ → Value → Bool
is_fewer_than count (Num negative whole fraction) =
    int_lt (units false count 0) (units negative whole fraction)
is_fewer_than count Text = false
is_fewer_than count (Truth truth) = false
is_fewer_than count (Stamp nanos zoned) = false
is_fewer_than count (Day nanos zoned) = false
is_fewer_than count IllTyped = false
is_fewer_than count Opaque = false

-- the number is less than the count
abbrev pub is_more_than : ℕ → Value → Bool
is_more_than count (Num negative whole fraction) =
    int_lt (units negative whole fraction) (units false count 0)
is_more_than count Text = false
is_more_than count (Truth truth) = false
is_more_than count (Stamp nanos zoned) = false
is_more_than count (Day nanos zoned) = false
is_more_than count IllTyped = false
is_more_than count Opaque = false

-- the same of a term, of which a literal alone has a value
abbrev pub is_fewer : ℕ → Term → Bool
is_fewer count (Iri iri) = false
is_fewer count (Blank blank) = false
is_fewer count (Lit literal) = is_fewer_than count (value_of literal)

abbrev pub is_more : ℕ → Term → Bool
is_more count (Iri iri) = false
is_more count (Blank blank) = false
is_more count (Lit literal) = is_more_than count (value_of literal)

-- the same of a term that was read
abbrev pub is_fewer_read : ℕ → Option Compared → Bool
is_fewer_read count None = false
is_fewer_read count (Some bound) = is_fewer_than count bound.value

abbrev pub is_more_read : ℕ → Option Compared → Bool
is_more_read count None = false
is_more_read count (Some bound) = is_more_than count bound.value
