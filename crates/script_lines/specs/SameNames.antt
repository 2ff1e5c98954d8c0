-- Documents with the same names: nothing else of a document plays a part where a line is read.
use Rattle.std.specs.Prelude.{◌≡◌}
use Rattle.ttl_meaning.specs.declared.document.Document.{Document}
use Rattle.ttl_meaning.specs.InForce.{in_force}

-- the base and the prefixes in force, and the blank nodes
pub record HaveSameNames (a b : Document) : Type 0 where
  pub force : in_force a ≡ in_force b
  pub labels : a.labels.items ≡ b.labels.items
  pub anonymous : a.anonymous ≡ b.anonymous
