-- Results as components give them (SHACL, section 3.6.2).
use Rattle.std.specs.Prelude.{ℕ, Bool, List, [], ◌∷◌, Some, None, flat_map, map}
use Rattle.std.specs.Prelude.{if◌then◌else◌}
use Rattle.comp_core.specs.declared.pair.At.{At}
use Rattle.comp_core.specs.declared.row.ResultRow.{ResultRow}
use Rattle.comp_core.specs.Rows.{detail_of, is_empty, plain_row, row_over}

-- one result without a value, where it is so
abbrev pub once_if : Bool → ℕ → At → List ResultRow
once_if is_so kind at = if is_so then plain_row at.focus None None at.shape kind ∷ [] else []

-- a result at the node, unless it is as it should be
abbrev pub unless : Bool → ℕ → At → ℕ → List ResultRow
unless is_fine kind at node = if is_fine then [] else plain_row at.focus (Some node) None at.shape kind ∷ []

-- a result for each value node that is not as it should be
abbrev pub each_unless : (ℕ → Bool) → ℕ → At → List ℕ → List ResultRow
each_unless is_fine kind at vs = flat_map (λ v. unless (is_fine v) kind at v) vs

-- a result at the node that rests on what was found, unless that is nothing
abbrev pub resting_on : List ResultRow → ℕ → At → ℕ → List ResultRow
resting_on found kind at node =
    if is_empty found then []
    else row_over (map detail_of found) at.focus (Some node) None at.shape kind ∷ []
