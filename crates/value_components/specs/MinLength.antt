-- sh:minLength (SHACL, section 4.4.1).
use Rattle.std.specs.Prelude.{ℕ, Bool, not, List}
use Rattle.shx_term.specs.declared.term.Term.{Term}
use Rattle.graph_view.specs.Graph.{Graph}
use Rattle.value_space.specs.Compared.{compared_by}
use Rattle.value_space.specs.Counts.{is_fewer_read}
use Rattle.comp_core.specs.declared.pair.At.{At}
use Rattle.comp_core.specs.declared.row.ResultRow.{ResultRow}
use Rattle.comp_core.specs.declared.kinds.TheConstants.{MIN_LENGTH}
use Rattle.value_components.specs.declared.min_length.MinLength.{MinLength}
use Rattle.value_components.specs.Lengths.{has_length}
use Rattle.comp_core.specs.Results.{each_unless}
use Rattle.comp_core.specs.TermTests.{are_so_at}

-- the term has a length, and that is not fewer than the number
abbrev pub is_long : Term → Term → Bool
is_long bound t = has_length (λ count. not (is_fewer_read count (compared_by bound))) t

-- a result for each value node that is blank or has fewer code points than the number says
abbrev pub min_length_hits : MinLength → Graph → At → List ℕ → List ResultRow
min_length_hits c g at vs = each_unless (are_so_at is_long g c.value) MIN_LENGTH at vs
