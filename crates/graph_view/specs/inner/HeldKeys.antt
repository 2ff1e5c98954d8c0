-- The list that a set of keys is seen as, in either of its forms.
use Rattle.std.specs.Prelude.{List}
use Rattle.graph_view.specs.declared.key.Key.{Key}
use Rattle.graph_view.specs.declared.keys.Keys.{Keys}
use Rattle.graph_view.specs.declared.keys.Keys.TheVariants.{Few, Many}

abbrev pub held_keys : Keys → List Key
held_keys (Few keys) = keys.items
held_keys (Many keys) = keys.value.keys
