-- How numbers are held that are looked up.
use Rattle.std.specs.Prelude.{ℕ, List}
use Rattle.comp_core.specs.declared.held.Held.{Held}
use Rattle.comp_core.specs.declared.held.Held.TheVariants.{Few, Many}

abbrev pub held_ids : Held → List ℕ
held_ids (Few ids) = ids.now
held_ids (Many ids) = ids.keys
