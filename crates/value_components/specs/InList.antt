-- sh:in (SHACL, section 4.8.3).
use Rattle.std.specs.Prelude.{ℕ, List}
use Rattle.comp_core.specs.declared.pair.At.{At}
use Rattle.comp_core.specs.declared.row.ResultRow.{ResultRow}
use Rattle.comp_core.specs.declared.kinds.TheConstants.{IN}
use Rattle.value_components.specs.declared.in_list.In.{In}
use Rattle.comp_core.specs.Results.{each_unless}
use Rattle.comp_core.specs.TermTests.{is_among}

-- a result for each value node that is no member of the list
abbrev pub in_hits : In → At → List ℕ → List ResultRow
in_hits c at vs = each_unless (λ v. is_among v c.members) IN at vs
