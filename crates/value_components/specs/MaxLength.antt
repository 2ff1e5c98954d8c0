-- sh:maxLength (SHACL, section 4.4.2).
use Rattle.std.specs.Prelude.{ℕ, Bool, not, List}
use Rattle.shx_term.specs.declared.term.Term.{Term}
use Rattle.graph_view.specs.Graph.{Graph}
use Rattle.value_space.specs.Compared.{compared_by}
use Rattle.value_space.specs.Counts.{is_more_read}
use Rattle.comp_core.specs.declared.pair.At.{At}
use Rattle.comp_core.specs.declared.row.ResultRow.{ResultRow}
use Rattle.comp_core.specs.declared.kinds.TheConstants.{MAX_LENGTH}
use Rattle.value_components.specs.declared.max_length.MaxLength.{MaxLength}
use Rattle.value_components.specs.Lengths.{has_length}
use Rattle.comp_core.specs.Results.{each_unless}
use Rattle.comp_core.specs.TermTests.{are_so_at}

-- the term has a length, and that is not more than the number
abbrev pub is_short : Term → Term → Bool
is_short bound t = has_length (λ count. not (is_more_read count (compared_by bound))) t

-- a result for each value node that is blank or has more code points than the number says
abbrev pub max_length_hits : MaxLength → Graph → At → List ℕ → List ResultRow
max_length_hits c g at vs = each_unless (are_so_at is_short g c.value) MAX_LENGTH at vs
