-- sh:hasValue (SHACL, section 4.8.2).
use Rattle.std.specs.Prelude.{ℕ, not, List}
use Rattle.comp_core.specs.declared.pair.At.{At}
use Rattle.comp_core.specs.declared.row.ResultRow.{ResultRow}
use Rattle.comp_core.specs.declared.kinds.TheConstants.{HAS_VALUE}
use Rattle.value_components.specs.declared.has_value.HasValue.{HasValue}
use Rattle.comp_core.specs.Results.{once_if}
use Rattle.comp_core.specs.TermTests.{is_among}

-- one result without a value, where the value is no value node
abbrev pub has_value_hits : HasValue → At → List ℕ → List ResultRow
has_value_hits c at vs = once_if (not (is_among c.value vs)) HAS_VALUE at
