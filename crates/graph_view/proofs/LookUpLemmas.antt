-- What look-ups give: what is held, and nothing else.
use Rattle.std.specs.Prelude.{◌≡◌, ℕ, ◌<◌, List, map, length, All, Contains, ◌↔◌, Result, IfOk}
use Rattle.std.proofs.Common.{refl, sym, ◌∙◌, subst}
use Rattle.std.proofs.lemmas.Result.{IfOk-weaker}
use Rattle.std.specs.List.Sorted.{IsStrictlySortedBy}
use Rattle.shx_term.specs.Members.{SameMembers}
use Rattle.shx_term.specs.declared.term.Term.{Term}
use Rattle.shx_term.specs.declared.triple.Triple.{Triple}
use Rattle.shx_term.specs.IdOrder.{id_cmp, in_term_order}
use Rattle.shx_term.specs.inner.TripleLaws.{triple_is}
use Rattle.shx_term.specs.TripleOrder.{triple_cmp, in_triple_order}
use Rattle.shx_term.proofs.IdOrderLemmas.{in_term_order_lists}
use Rattle.shx_term.proofs.InOrderLemmas.{in_order_lists}
use Rattle.shx_term.proofs.MemberLemmas.{Contains-map, Contains-from_map, each_of_All, All_of_each}
use Rattle.shx_term.proofs.TripleOrderLemmas.{in_triple_order_lists, triple_order}
use Rattle.graph_view.specs.declared.key.Key.{Key}
use Rattle.graph_view.specs.declared.key.Key.TheVariants.{Out, In, Subject, Predicate}
use Rattle.graph_view.specs.Graph.{Graph, IsKnownTriple, AllKnown, HasTerms}
use Rattle.graph_view.specs.Graph.{objects_of, subjects_of, triples_of, triples_with}
use Rattle.graph_view.specs.Key.{Touches, look}
use Rattle.graph_view.proofs.KeyLemmas.{Contains-look}

-- where one number makes a triple that touches a key whole, the numbers found are those of which it is held
numbers_at : (triples : List Triple) (key : Key) (f : Triple → ℕ) (whole : ℕ → Triple) (y : ℕ)
    → ((t : Triple) → Touches t key → y ≡ f t → t ≡ whole y) → Touches (whole y) key → y ≡ f (whole y)
    → Contains (map f (look triples key)) y ↔ Contains triples (whole y)
numbers_at triples key f whole y made touches back = (
  λ c.
      let found = Contains-from_map f (look triples key) y c in
      let held = (Contains-look triples key found.0).0 found.1 in
      subst (Contains triples) (made found.0 held.1 found.2) held.0,
  λ held.
      let there = (Contains-look triples key (whole y)).1 (held, touches) in
      let found = look triples key in
      subst (Contains (map f found)) (sym back) (Contains-map f found (whole y) there),
)

pub Contains-objects : (triples : List Triple) (s p o : ℕ)
    → Contains (map (λ t. t.o) (look triples (Out s p))) o
    ↔ Contains triples (record { s = s; p = p; o = o })
Contains-objects triples s p o =
    numbers_at triples (Out s p) (λ t. t.o) (λ y. record { s = s; p = p; o = y }) o
    (λ t touches e. triple_is t (record { s = s; p = p; o = o }) touches.0 touches.1 (sym e))
    (refl, refl) refl

pub Contains-objects_of : (g : Graph) (s p o : ℕ)
    → Contains (objects_of g s p) o ↔ Contains g.triples (record { s = s; p = p; o = o })
Contains-objects_of g s p o =
    let found = (in_term_order_lists g.terms (map (λ t. t.o) (look g.triples (Out s p)))).each o in
    let held = Contains-objects g.triples s p o in
    (λ c. held.0 (found.0 c), λ c. found.1 (held.1 c))

pub Contains-subjects : (triples : List Triple) (p o s : ℕ)
    → Contains (map (λ t. t.s) (look triples (In p o))) s
    ↔ Contains triples (record { s = s; p = p; o = o })
Contains-subjects triples p o s =
    numbers_at triples (In p o) (λ t. t.s) (λ y. record { s = y; p = p; o = o }) s
    (λ t touches e. triple_is t (record { s = s; p = p; o = o }) (sym e) touches.0 touches.1)
    (refl, refl) refl

pub Contains-subjects_of : (g : Graph) (p o s : ℕ)
    → Contains (subjects_of g p o) s ↔ Contains g.triples (record { s = s; p = p; o = o })
Contains-subjects_of g p o s =
    let found = (in_term_order_lists g.terms (map (λ t. t.s) (look g.triples (In p o)))).each s in
    let held = Contains-subjects g.triples p o s in
    (λ c. held.0 (found.0 c), λ c. found.1 (held.1 c))

pub Contains-ordered : (g : Graph) (key : Key) (t : Triple)
    → Contains (in_triple_order g.terms (look g.triples key)) t ↔ (Contains g.triples t × Touches t key)
Contains-ordered g key t =
    let found = (in_order_lists (triple_cmp g.terms) (triple_order g.terms) (look g.triples key)).each t in
    let held = Contains-look g.triples key t in
    (λ c. held.0 (found.0 c), λ c. found.1 (held.1 c))

pub Contains-triples_of : (g : Graph) (s : ℕ) (t : Triple)
    → Contains (triples_of g s) t ↔ (Contains g.triples t × (t.s ≡ s))
Contains-triples_of g s t = Contains-ordered g (Subject s) t

pub Contains-triples_with : (g : Graph) (p : ℕ) (t : Triple)
    → Contains (triples_with g p) t ↔ (Contains g.triples t × (t.p ≡ p))
Contains-triples_with g p t = Contains-ordered g (Predicate p) t

-- what is so of what is found in order is so of what is found in any
pub All-any_order : {X : Type 0} (P : X → Type 0) (found ordered : List X) → SameMembers found ordered
    → All P ordered → All P found
All-any_order P found ordered same all =
    All_of_each P found (λ x c. each_of_All P ordered all x ((same.each x).0 c))

-- what is found in any order is what is found in order
pub in_any_order : (terms : List Term) (ids found : List ℕ) → SameMembers ids found
    → SameMembers found (in_term_order terms ids)
in_any_order terms ids found same = record {
  each = λ y.
      let ordered = (in_term_order_lists terms ids).each y in
      (λ c. ordered.1 ((same.each y).1 c), λ c. (same.each y).0 (ordered.0 c));
}

pub triples_in_any_order : (terms : List Term) (ts found : List Triple) → SameMembers ts found
    → SameMembers found (in_triple_order terms ts)
triples_in_any_order terms ts found same = record {
  each = λ t.
      let ordered = (in_triple_order_lists terms ts).each t in
      (λ c. ordered.1 ((same.each t).1 c), λ c. (same.each t).0 (ordered.0 c));
}

-- what is found is in order
pub sorted-objects_of : (g : Graph) (s p : ℕ) → IsStrictlySortedBy (id_cmp g.terms) (objects_of g s p)
sorted-objects_of g s p = (in_term_order_lists g.terms (map (λ t. t.o) (look g.triples (Out s p)))).sorted

pub sorted-subjects_of : (g : Graph) (p o : ℕ) → IsStrictlySortedBy (id_cmp g.terms) (subjects_of g p o)
sorted-subjects_of g p o = (in_term_order_lists g.terms (map (λ t. t.s) (look g.triples (In p o)))).sorted

pub sorted-ordered : (g : Graph) (key : Key)
    → IsStrictlySortedBy (triple_cmp g.terms) (in_triple_order g.terms (look g.triples key))
sorted-ordered g key =
    (in_order_lists (triple_cmp g.terms) (triple_order g.terms) (look g.triples key)).sorted

-- what is found has terms
module _ (g : Graph) (known : AllKnown g) where
  known_triple : (t : Triple) → Contains g.triples t → IsKnownTriple g.terms t
  known_triple = each_of_All (IsKnownTriple g.terms) g.triples known

  pub known_object : (s p o : ℕ) → Contains (objects_of g s p) o → o < length g.terms
  known_object s p o c =
      (known_triple (record { s = s; p = p; o = o }) ((Contains-objects_of g s p o).0 c)).o

  pub known_subject : (p o s : ℕ) → Contains (subjects_of g p o) s → s < length g.terms
  known_subject p o s c =
      (known_triple (record { s = s; p = p; o = o }) ((Contains-subjects_of g p o s).0 c)).s

  pub HasTerms-objects_of : (s p : ℕ) → HasTerms g (objects_of g s p)
  HasTerms-objects_of s p =
      All_of_each (λ id. id < length g.terms) (objects_of g s p) (known_object s p)

  pub HasTerms-subjects_of : (p o : ℕ) → HasTerms g (subjects_of g p o)
  HasTerms-subjects_of p o =
      All_of_each (λ id. id < length g.terms) (subjects_of g p o) (known_subject p o)

  pub All-ordered : (key : Key) → All (IsKnownTriple g.terms) (in_triple_order g.terms (look g.triples key))
  All-ordered key =
      All_of_each (IsKnownTriple g.terms) (in_triple_order g.terms (look g.triples key))
      (λ t c. known_triple t ((Contains-ordered g key t).0 c).0)

-- where an answer is there, what is true of what it gives is true of it
module _ {X Y E : Type 0} (r : Result X E) (f : X → Y) where
  pub IfOk-gives : {y z : Y} → IfOk r (λ x. f x ≡ y) → y ≡ z → IfOk r (λ x. f x ≡ z)
  IfOk-gives {y} {z} gives same = IfOk-weaker r (λ x. f x ≡ y) (λ x. f x ≡ z) (λ x e. e ∙ same) gives

  pub IfOk-of : (Q : Y → Type 0) {y : Y} → IfOk r (λ x. f x ≡ y) → Q y → IfOk r (λ x. Q (f x))
  IfOk-of Q {y} gives q = IfOk-weaker r (λ x. f x ≡ y) (λ x. Q (f x)) (λ x e. subst Q (sym e) q) gives
