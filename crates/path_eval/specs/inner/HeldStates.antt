-- The list that the states of a search are seen as, in either form of their set.
use Rattle.std.specs.Prelude.{List}
use Rattle.path_eval.specs.declared.edge.State.{State}
use Rattle.path_eval.specs.declared.held.Held.{Held}
use Rattle.path_eval.specs.declared.held.Held.TheVariants.{Few, Many}

abbrev pub held_states : Held → List State
held_states (Few states) = states.items
held_states (Many states) = states.value.keys
