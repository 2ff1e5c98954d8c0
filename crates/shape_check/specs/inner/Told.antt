-- What a row of the table in code says.
use Rattle.shape_check.specs.declared.restrictions.Restriction.{Restriction as Row}
use Rattle.shape_check.specs.Restrictions.{Restriction}

abbrev pub told_restriction : Row → Restriction
told_restriction row = record { predicates = row.predicates.now; expected = row.expected; one = row.one }
