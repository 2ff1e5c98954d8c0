-- Items that are put under their keys in turn: under each key stands its item in the end.
use Rattle.std.specs.Prelude.{◌≡◌, ℕ, Bool, true, false, ◌&&◌, ◌==◌, ◌<◌, if◌then◌else◌, List, [], ◌∷◌}
use Rattle.std.specs.Prelude.{◌++◌, map, Contains}
use Rattle.std.specs.Prelude.{Option, Some, None, slice_get}
use Rattle.std.specs.Cmp.{IsEquivalence, eq_by_cmp_equiv, first_so, nat_eq_equiv, second_so}
use Rattle.std.specs.List.{AllByRecursion, IsDistinct}
use Rattle.std.specs.Ordering.{eq_by_cmp}
use Rattle.std.proofs.Common.{refl, sym, ap, ◌∙◌, subst, inl, inr, get_or, true≢false, arith}
use Rattle.std.proofs.lemmas.List.{map-append}
use Rattle.std.proofs.lemmas.Bool.{eqb-true}
use Rattle.std.proofs.lemmas.List.Elements.{Contains-push, Contains-push_cases, Contains-append_left}
use Rattle.std.proofs.lemmas.List.Elements.{Contains-append_right}
use Rattle.std.proofs.lemmas.Map.Keys.{IsDistinct-head, IsDistinct-tail, apart_from_distinct}
use Rattle.std.proofs.lemmas.Map.Views.{tells_apart}
use Rattle.std.proofs.lemmas.Option.{get_or_from_slice_get, slice_get_within}
use Rattle.shx_term.specs.TermOrder.{same_term, term_cmp}
use Rattle.shx_term.specs.declared.term.Term.{Term}
use Rattle.shx_term.specs.inner.TermOrderLaws.{same_term_itself, term_cmp_exact, term_cmp_total}
use Rattle.shx_term.proofs.MemberLemmas.{Contains-cases, Contains-head, Contains-map, Contains-from_map}
use Rattle.shx_term.proofs.MemberLemmas.{none_in_empty}
use Rattle.graph_view.specs.declared.key.Key.{Key}
use Rattle.comp_core.specs.declared.pair.Pair.{Pair}
use Rattle.comp_core.specs.declared.row.ResultRow.{ResultRow}
use Rattle.read_records.proofs.ReadingLemmas.{reader_cmp_exact}
use Rattle.read_records.specs.Reader.{reader_cmp}
use Rattle.read_records.specs.Records.{Recorded, Stages, change_of}
use Rattle.read_records.specs.declared.reader.Reader.{Reader}
use Rattle.read_records.specs.inner.ReaderLaws.{reader_cmp_total}
use Rattle.pair_results.specs.PairResults.{Kept, Stages as StagesRows, rows_after}
use Rattle.edit_engine.proofs.LeftLemmas.{IsLeft}
use Rattle.edit_engine.specs.inner.Put.{IsPut, ShapeAt, place_in, rows_if_at, rows_to_come}

-- ---- distinct elements

each_by_recursion : {X : Type 0} (P : X → Type 0) (xs : List X) → AllByRecursion P xs
    → (x : X) → Contains xs x → P x
each_by_recursion P [] all x c = absurd (none_in_empty x c)
each_by_recursion P (y ∷ ys) all x c = elim (Contains-cases y x ys c) [
  | inl e ↦ subst P (sym e) all.0
  | inr d ↦ each_by_recursion P ys all.1 x d
]

module _ {X : Type 0} (same : X → X → Bool) (laws : IsEquivalence same) where
  -- what stands in one of two lists that are distinct together does not stand in the other
  pub apart_parts : (xs ys : List X) → IsDistinct same (xs ++ ys) → (x : X)
      → Contains xs x → Contains ys x → ⊥
  apart_parts [] ys once x c d = none_in_empty x c
  apart_parts (y ∷ rest) ys once x c d = elim (Contains-cases y x rest c) [
    | inl e ↦
        let apart = each_by_recursion (λ z. same y z ≡ false) (rest ++ ys)
        (IsDistinct-head same y (rest ++ ys) once) x (Contains-append_right rest ys x d) in
        true≢false (sym (laws.refl y) ∙ ap (same y) (sym e) ∙ apart)
    | inr later ↦ apart_parts rest ys (IsDistinct-tail same y (rest ++ ys) once) x later d
  ]

-- a term stands once
module _ (terms : List Term) (once : IsDistinct same_term terms) where
  not_before : (t : Term) (i j : ℕ) → slice_get terms i ≡ Some t → slice_get terms j ≡ Some t
      → i < j → ⊥
  not_before t i j at also before =
      let apart = apart_from_distinct same_term terms i j t once before (slice_get_within terms j t also) in
      let first : get_or terms i t ≡ t = get_or_from_slice_get terms i t t at in
      let second : get_or terms j t ≡ t = get_or_from_slice_get terms j t t also in
      cc (apart, first, second, same_term_itself t)

  pub one_number : (t : Term) (i j : ℕ) → slice_get terms i ≡ Some t → slice_get terms j ≡ Some t → i ≡ j
  one_number t i j at also = omega (arith, not_before t i j at also, not_before t j i also at)

  pub one_pair : (t : Term) (p q : Pair) → slice_get terms p.node ≡ Some t
      → place_in terms p ≡ place_in terms q
      → p ≡ q
  one_pair t p q at e =
      let shapes : p.shape ≡ q.shape = ap (λ (k : ShapeAt). k.0) e in
      let nodes : slice_get terms p.node ≡ slice_get terms q.node = ap (λ (k : ShapeAt). k.1) e in
      let same = one_number t p.node q.node at (sym nodes ∙ at) in
      λ i. record { shape = shapes i; node = same i }

-- ---- one item after the other

-- this stands under the key, and under all others what stood there
pub record PutsOne {K V : Type 0} (key : K) (value : V) (old new : K → V) : Type 0 where
  pub here : new key ≡ value
  pub others : (k : K) → (k ≡ key → ⊥) → new k ≡ old k

module _ {I K V : Type 0} (key : I → K) (value : I → V) where
  pub IsPut-none : (old : K → V) → IsPut key value [] old old
  IsPut-none old = record { each = λ item c. absurd (none_in_empty item c); others = λ k free. refl }

  pub IsPut-more : (xs : List I) (x : I) (old mid new : K → V) → IsPut key value xs old mid
      → PutsOne (key x) (value x) mid new → (Contains (map key xs) (key x) → ⊥)
      → IsPut key value (xs ++ x ∷ []) old new
  IsPut-more xs x old mid new before one free = record {
    each = λ item c. elim (Contains-push_cases xs x item c) [
      | inl d ↦
          let apart = λ (e : key item ≡ key x).
          free (subst (Contains (map key xs)) e (Contains-map key xs item d)) in
          one.others (key item) apart ∙ before.each item d
      | inr e ↦ subst (λ i. new (key i) ≡ value i) e one.here
    ];
    others = λ k beside.
        let all = xs ++ x ∷ [] in
        let last = λ (e : k ≡ key x).
        beside (subst (Contains (map key all)) (sym e) (Contains-map key all x (Contains-push xs x))) in
        let earlier = λ (c : Contains (map key xs) k).
        (let at = Contains-from_map key xs k c in
        beside (subst (Contains (map key all)) (sym at.2)
        (Contains-map key all at.0 (Contains-append_left xs (x ∷ []) at.0 at.1)))) in
        one.others k last ∙ before.others k earlier;
  }

  -- a key that none of the items before it has, since they differ in what tells their keys apart
  pub free_key : {X : Type 0} (same : X → X → Bool) → IsEquivalence same → (f : I → X)
      → (xs : List I) (x : I) (rest : List X) → IsDistinct same (map f xs ++ f x ∷ rest)
      → ((item : I) → key x ≡ key item → f x ≡ f item) → Contains (map key xs) (key x) → ⊥
  free_key same laws f xs x rest once told c =
      let at = Contains-from_map key xs (key x) c in
      apart_parts same laws (map f xs) (f x ∷ rest) once (f x)
      (subst (Contains (map f xs)) (sym (told at.0 at.2)) (Contains-map f xs at.0 at.1))
      (Contains-head (f x) rest)

-- ---- a step of a loop over items

module _ {I K V X : Type 0} (key : I → K) (value : I → V) (same : X → X → Bool) (laws : IsEquivalence same)
    (f : I → X) where
  pub IsPut-step : (done rest all later : List I) (x : I) (count : ℕ) → IsDistinct same (map f all)
      → IsLeft done rest all count → rest ≡ x ∷ later → ((y : I) → key x ≡ key y → f x ≡ f y)
      → (old mid new : K → V)
      → IsPut key value done old mid → PutsOne (key x) (value x) mid new
      → IsPut key value (done ++ x ∷ []) old new
  IsPut-step done rest all later x count once left is told old mid new before one =
      let split : map f all ≡ map f done ++ f x ∷ map f later =
      ap (map f) (sym left.whole ∙ ap (λ l. done ++ l) is) ∙ map-append f done (x ∷ later) in
      IsPut-more key value done x old mid new before one
      (free_key key value same laws f done x (map f later) (subst (IsDistinct same) split once) told)

-- ---- what is staged

-- for one reader
pub PutsOne-reader : (old new : Recorded) (reader : Reader) (change : Option (List Key))
    → Stages old new reader change → PutsOne reader (Some change) (change_of old) (change_of new)
PutsOne-reader old new reader change staged = record {
  here = by_test reader ((eq_by_cmp_equiv reader_cmp_total).refl reader) (staged.each reader);
  others = λ k apart. elim (eq_by_cmp reader_cmp reader k) as
      (λ b. eq_by_cmp reader_cmp reader k ≡ b
      → change_of new k ≡ (if b then Some change else change_of old k) → change_of new k ≡ change_of old k) [
        | true ↦ λ tied e. absurd (apart (sym (tells_apart reader_cmp_exact reader k tied)))
        | false ↦ λ tied e. e
      ] refl (staged.each k);
}
  where
    by_test : (k : Reader) → eq_by_cmp reader_cmp reader k ≡ true
        → change_of new k ≡ (if eq_by_cmp reader_cmp reader k then Some change else change_of old k)
        → change_of new k ≡ Some change
    by_test k tied e = e ∙ ap (λ b. if b then Some change else change_of old k) tied

-- for one shape at a node
abbrev place_at : ℕ → Option Term → ShapeAt
place_at n o = (n, o)

module _ (old new : Kept) (shape : ℕ) (node : Term) (rows : List ResultRow)
    (staged : StagesRows old new shape node rows) where
  by_place : (n : ℕ) (other : Term) (b : Bool) → ((shape == n) && eq_by_cmp term_cmp node other) ≡ b
      → rows_after new n other ≡ (if b then rows else rows_after old n other)
  by_place n other b e = staged.each n other ∙ ap (λ b. if b then rows else rows_after old n other) e

  itself : ((shape == shape) && eq_by_cmp term_cmp node node) ≡ true
  itself =
      let tied = (eq_by_cmp_equiv term_cmp_total).refl node in
      let one : (shape == shape) ≡ true = nat_eq_equiv.refl shape in
      ap (λ b. b && eq_by_cmp term_cmp node node) one ∙ tied

  beside : (n : ℕ) (o : Option Term) → (place_at n o ≡ place_at shape (Some node) → ⊥)
      → rows_if_at new n o ≡ rows_if_at old n o
  beside n None apart = refl
  beside n (Some other) apart =
      elim ((shape == n) && eq_by_cmp term_cmp node other) as
      (λ b. ((shape == n) && eq_by_cmp term_cmp node other) ≡ b
      → rows_after new n other ≡ rows_after old n other) [
        | true ↦ λ e.
            let shapes = eqb-true shape n (first_so (shape == n) (eq_by_cmp term_cmp node other) e) in
            let nodes = tells_apart term_cmp_exact node other
            (second_so (shape == n) (eq_by_cmp term_cmp node other) e) in
            absurd (apart (λ i. (sym shapes i, Some (sym nodes i))))
        | false ↦ λ e. by_place n other false e
      ] refl

  pub PutsOne-rows : PutsOne (shape, Some node) rows (rows_to_come old) (rows_to_come new)
  PutsOne-rows = record {
    here = by_place shape node true itself;
    others = λ k apart. beside k.0 k.1 apart;
  }

pub PutsOne-place : (terms : List Term) (old new : Kept) (p : Pair) (node : Term) (rows : List ResultRow)
    → slice_get terms p.node ≡ Some node → StagesRows old new p.shape node rows
    → PutsOne (place_in terms p) rows (rows_to_come old) (rows_to_come new)
PutsOne-place terms old new p node rows at staged =
    subst (λ (o : Option Term). PutsOne (p.shape, o) rows (rows_to_come old) (rows_to_come new)) (sym at)
    (PutsOne-rows old new p.shape node rows staged)
