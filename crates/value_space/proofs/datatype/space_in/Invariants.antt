use Rattle.std.proofs.Common.{◌≡◌, drop}
use Rattle.value_space.specs.inner.Spaces.{space_of_name}
use Rattle.value_space.proofs.datatype.space_in.Given as goal

abbrev pub invariant-loop-datatype : goal.invariant-loop-datatype
invariant-loop-datatype l =
    space_of_name (drop l.datatype-index l.datatypes) l.name ≡ space_of_name l.datatypes l.name
