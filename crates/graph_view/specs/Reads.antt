-- Keys that were read, and triples that touch them.
use Rattle.std.specs.Prelude.{List, Contains}
use Rattle.shx_term.specs.declared.triple.Triple.{Triple}
use Rattle.graph_view.specs.declared.key.Key.{Key}
use Rattle.graph_view.specs.Key.{Touches}

-- the triple touches one of the keys
abbrev pub IsTouchedBy : Triple → List Key → Type 0
IsTouchedBy t keys = (key : Key) × (Contains keys key × Touches t key)
