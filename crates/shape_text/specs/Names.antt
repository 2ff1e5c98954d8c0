-- The names that hold behind a data text: the base, the prefixes and the blank nodes at its end.
use Rattle.std.specs.Prelude.{◌≡◌, ◌-◌, Contains}
use Rattle.std.specs.Cmp.Lexicographic.{slice_cmp}
use Rattle.std.specs.Ordering.{nat_cmp}
use Rattle.shx_term.specs.InOrder.{Lists}
use Rattle.ttl_meaning.specs.declared.document.Document.{Document}
use Rattle.ttl_meaning.specs.inner.DocumentOf.{IsPrefixTable}
use Rattle.ttl_meaning.specs.State.{State}

-- the document has the base, the prefixes and the blank nodes of a state
pub record HasNamesOf (end : State) (document : Document) : Type 0 where
  pub prefixes : IsPrefixTable end document.prefixes.items
  pub base : document.base ≡ end.base
  pub labels : Lists (slice_cmp nat_cmp) (Contains end.labels) document.labels.items
  pub anonymous : document.anonymous ≡ end.next - 1
