use Rattle.shape_check.proofs.KindLemmas.{boolean_value, integer_value}
use Rattle.shape_check.proofs.laws.accepted_literals_have_values.Goals as goal

pub returns-clause-booleans : goal.returns-clause-booleans
returns-clause-booleans c = boolean_value

pub returns-clause-integers : goal.returns-clause-integers
returns-clause-integers c = integer_value
