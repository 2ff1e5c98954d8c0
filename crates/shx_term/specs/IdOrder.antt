-- The order of numbers by their terms, and lists of numbers in that order.
use Rattle.std.specs.Prelude.{ℕ, List, slice_get, Contains}
use Rattle.std.specs.declared.cmp.Ordering.{Ordering}
use Rattle.std.specs.Ordering.{nat_cmp, ordering_then}
use Rattle.std.specs.Option.{option_cmp}
use Rattle.shx_term.specs.declared.term.Term.{Term}
use Rattle.shx_term.specs.InOrder.{in_order, Lists}
use Rattle.shx_term.specs.TermOrder.{term_cmp}

-- by the terms; a pool has no two equal ones, so that the numbers themselves never decide there
abbrev pub id_cmp : List Term → ℕ → ℕ → Ordering
id_cmp terms a b = ordering_then (option_cmp term_cmp (slice_get terms a) (slice_get terms b)) (nat_cmp a b)

-- the numbers of a list in the order of their terms, each once
abbrev pub in_term_order : List Term → List ℕ → List ℕ
in_term_order terms ids = in_order (id_cmp terms) ids

-- xs has each of these numbers once, and no other, in the order of their terms
abbrev pub ListsInTermOrder : List Term → List ℕ → List ℕ → Type 0
ListsInTermOrder terms ids xs = Lists (id_cmp terms) (Contains ids) xs

-- what is in term order lists the numbers
abbrev pub TermOrderLists : Type 0
TermOrderLists = (terms : List Term) (ids : List ℕ) → ListsInTermOrder terms ids (in_term_order terms ids)
