-- The limits of a length.
use Rattle.std.specs.Prelude.{ℕ, Bool, not, Option}
use Rattle.shx_term.specs.declared.term.Term.{Term}
use Rattle.value_space.specs.Compared.{Compared, compared_by}
use Rattle.value_space.specs.Counts.{is_fewer_read, is_more_read}
use Rattle.value_components.specs.declared.lengths.Limit.{Limit}
use Rattle.value_components.specs.declared.lengths.Limit.TheVariants.{AtLeast, AtMost}
use Rattle.value_components.specs.Lengths.{has_length}

abbrev pub is_kept : Limit → Option Compared → ℕ → Bool
is_kept AtLeast bound count = not (is_fewer_read count bound)
is_kept AtMost bound count = not (is_more_read count bound)

abbrev pub is_kept_by : Limit → Term → Term → Bool
is_kept_by limit bound t = has_length (is_kept limit (compared_by bound)) t
