-- sh:property (SHACL, section 4.7.2).
use Rattle.std.specs.Prelude.{ℕ, List, flat_map}
use Rattle.comp_core.specs.declared.pair.Pair.{Pair}
use Rattle.comp_core.specs.declared.row.ResultRow.{ResultRow}
use Rattle.comp_core.specs.Asking.{pair_of}
use Rattle.logic_components.specs.declared.property.Property.{Property}

-- the results of each value node at the shape, as they are
abbrev pub property_hits : Property → (Pair → List ResultRow) → List ℕ → List ResultRow
property_hits c m vs = flat_map (λ v. m (pair_of v c.shape)) vs
