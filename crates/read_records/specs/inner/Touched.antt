-- Keys that triples touch.
use Rattle.std.specs.Prelude.{List, Contains}
use Rattle.shx_term.specs.declared.triple.Triple.{Triple}
use Rattle.graph_view.specs.declared.key.Key.{Key}
use Rattle.graph_view.specs.Key.{Touches}

-- one of the triples touches the key
pub record IsTouchedKey (changed : List Triple) (key : Key) : Type 0 where
  pub triple : Triple
  pub changes : Contains changed triple
  pub touches : Touches triple key
