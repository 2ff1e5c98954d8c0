-- Keys: the parts of a graph that look-ups read, and what was found of pairs of a shape and a node.
use Rattle.std.specs.Prelude.{◌≡◌, ℕ, Bool, false, ◌&&◌, ◌==◌, List, [], ◌∷◌, ◌++◌, filter}
use Rattle.std.specs.declared.cmp.Ordering.{Ordering}
use Rattle.std.specs.Hash as fed
use Rattle.std.specs.Ordering.{nat_cmp, ordering_then}
use Rattle.shx_term.specs.declared.triple.Triple.{Triple}
use Rattle.graph_view.specs.declared.key.Key.{Key}
use Rattle.graph_view.specs.declared.key.Key.TheVariants.{Out, In, Subject, Predicate, Answer}

-- the triple is in the part that the key names
abbrev pub Touches : Triple → Key → Type 0
Touches t (Out s p) = (t.s ≡ s) × (t.p ≡ p)
Touches t (In p o) = (t.p ≡ p) × (t.o ≡ o)
Touches t (Subject s) = t.s ≡ s
Touches t (Predicate p) = t.p ≡ p
Touches t (Answer shape node) = ⊥

-- the same as a test
abbrev pub is_touching : Triple → Key → Bool
is_touching t (Out s p) = (t.s == s) && (t.p == p)
is_touching t (In p o) = (t.p == p) && (t.o == o)
is_touching t (Subject s) = t.s == s
is_touching t (Predicate p) = t.p == p
is_touching t (Answer shape node) = false

-- the keys that a triple touches
abbrev pub keys_of : Triple → List Key
keys_of t = Out t.s t.p ∷ In t.p t.o ∷ Subject t.s ∷ Predicate t.p ∷ []

-- the triples that touch the key
abbrev pub look : List Triple → Key → List Triple
look triples key = filter (λ t. is_touching t key) triples

-- what keys are compared by, one after the other
abbrev pub key_kind : Key → ℕ
key_kind (Out s p) = 0
key_kind (In p o) = 1
key_kind (Subject s) = 2
key_kind (Predicate p) = 3
key_kind (Answer shape node) = 4

-- no part of the graph, but what was found of a pair
abbrev pub is_answer : Key → Bool
is_answer key = key_kind key == 4

abbrev pub key_first : Key → ℕ
key_first (Out s p) = s
key_first (In p o) = p
key_first (Subject s) = s
key_first (Predicate p) = p
key_first (Answer shape node) = shape

abbrev pub key_second : Key → ℕ
key_second (Out s p) = p
key_second (In p o) = o
key_second (Subject s) = 0
key_second (Predicate p) = 0
key_second (Answer shape node) = node

abbrev pub same_key : Key → Key → Bool
same_key a b = (key_kind a == key_kind b) && ((key_first a == key_first b) && (key_second a == key_second b))

abbrev pub key_cmp : Key → Key → Ordering
key_cmp a b =
    ordering_then (nat_cmp (key_kind a) (key_kind b))
    (ordering_then (nat_cmp (key_first a) (key_first b)) (nat_cmp (key_second a) (key_second b)))

abbrev pub key_hash_input : Key → List (List ℕ)
key_hash_input key = fed.u8 (key_kind key) ++ (fed.u32 (key_first key) ++ fed.u32 (key_second key))
