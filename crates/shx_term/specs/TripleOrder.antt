-- The order of triples of numbers, and lists of triples in that order.
use Rattle.std.specs.Prelude.{List, Contains}
use Rattle.std.specs.declared.cmp.Ordering.{Ordering}
use Rattle.std.specs.Ordering.{ordering_then}
use Rattle.shx_term.specs.declared.term.Term.{Term}
use Rattle.shx_term.specs.declared.triple.Triple.{Triple}
use Rattle.shx_term.specs.IdOrder.{id_cmp}
use Rattle.shx_term.specs.InOrder.{in_order, Lists}

-- by subject, then by predicate, then by object, each in the order of terms
abbrev pub triple_cmp : List Term → Triple → Triple → Ordering
triple_cmp terms t u =
    ordering_then (id_cmp terms t.s u.s) (ordering_then (id_cmp terms t.p u.p) (id_cmp terms t.o u.o))

-- the triples of a list in that order, each once
abbrev pub in_triple_order : List Term → List Triple → List Triple
in_triple_order terms triples = in_order (triple_cmp terms) triples

-- xs has each of these triples once, and no other, in that order
abbrev pub ListsInTripleOrder : List Term → List Triple → List Triple → Type 0
ListsInTripleOrder terms triples xs = Lists (triple_cmp terms) (Contains triples) xs

-- what is in that order lists the triples
abbrev pub TripleOrderLists : Type 0
TripleOrderLists =
    (terms : List Term) (triples : List Triple)
    → ListsInTripleOrder terms triples (in_triple_order terms triples)
