-- Indexes of some triples: as one is added or removed, taken back, and what they give under a number or two.
use Rattle.std.specs.Prelude.{◌≡◌, ℕ, Bool, true, ◌&&◌, ◌==◌, List, [], ◌∷◌, map, filter}
use Rattle.std.specs.Prelude.{length, All, Contains, ◌≤◌}
use Rattle.std.specs.List.{IsDistinct, list_any}
use Rattle.std.specs.Cmp.{both_ways}
use Rattle.std.specs.List.Sorted.{IsStrictlySortedBy}
use Rattle.std.specs.Ordering.{eq_by_cmp}
use Rattle.std.proofs.Common.{refl, sym, ap, ◌∙◌, subst, inl, inr}
use Rattle.std.proofs.lemmas.Map.Keys.{IsDistinct-from_sorted}
use Rattle.std.proofs.lemmas.Map.Made.{length-le_from_is_member}
use Rattle.std.proofs.lemmas.Map.Views.{tells_apart}
use Rattle.std.specs.Cmp.{eq_by_cmp_equiv}
use Rattle.shx_term.specs.InOrder.{Lists}
use Rattle.shx_term.specs.Triple.{same_triple}
use Rattle.shx_term.specs.inner.TripleLaws.{same_triple_equiv, same_triple_exact}
use Rattle.shx_term.specs.declared.triple.Triple.{Triple}
use Rattle.shx_term.proofs.InOrderLemmas.{same_lists}
use Rattle.graph_view.specs.declared.key.Key.TheVariants.{Answer}
use Rattle.graph_view.specs.Graph.{HasAlso, IsWithout}
use Rattle.graph_view.specs.Key.{look}
use Rattle.shx_term.specs.Members.{SameMembers, Adds}
use Rattle.shx_term.proofs.MemberLemmas.{Contains-one, each_of_All}
use Rattle.graph_view.specs.Patched.{without}
use Rattle.graph_view.proofs.PatchedLemmas.{Contains-left}
use Rattle.shx_term.proofs.SetLemmas.{SameMembers-sym, SameMembers-filter, SameMembers-map}
use Rattle.graph_view.proofs.TripleSetLemmas.{triple_held}
use Rattle.graph_view.proofs.SameGraphLemmas.{SameMembers-also, SameMembers-without}
use Rattle.graph_view.proofs.SameGraphLemmas.{IsDistinct-filter, length-same}
use Rattle.triple_store.proofs.ArrangementLemmas.{arranged_order}
use Rattle.triple_store.specs.inner.Arrangement.{entry_of, arranged_cmp}
use Rattle.triple_store.specs.inner.Index.{Arranged, IsArranged, IsIndex, AreIndexes, AreInOrder}
use Rattle.triple_store.specs.declared.arrangement.Arrangement.TheVariants.{SubjectPredicateObject}
use Rattle.triple_store.specs.inner.Index.{led_by, led_by_pair, third_of}
use Rattle.triple_store.specs.declared.arrangement.Arrangement.{Arrangement}

-- nothing touches what was found of a pair
pub none_look : (triples : List Triple) (shape node : ℕ) → look triples (Answer shape node) ≡ []
none_look [] shape node = refl
none_look (t ∷ ts) shape node = none_look ts shape node

module _ {triples : List Triple} {a : Arrangement} {index : Arranged} where
  IsIndex-holds : IsIndex triples a index → SameMembers index.triples triples
  IsIndex-holds is = record { each = is.lists.each }

  -- whatever holds the same triples and ascends is an index of them
  pub IsIndex-from : index.arrangement ≡ a → SameMembers index.triples triples → IsArranged index
      → IsIndex triples a index
  IsIndex-from arranged same ordered = record {
    arranged = arranged;
    lists = record {
      sorted = subst (λ b. IsStrictlySortedBy (arranged_cmp b) index.triples) arranged ordered;
      each = same.each;
    };
  }

-- no triples
pub IsIndex-none : (a : Arrangement) → IsIndex [] a (record { arrangement = a; triples = [] })
unfolding IsStrictlySortedBy
IsIndex-none a = record { arranged = refl; lists = record { sorted = tt; each = λ t. (λ c. c, λ c. c) } }

-- one triple more, or less
module _ {triples others : List Triple} {a : Arrangement} {old new : Arranged} (t : Triple)
    (index : IsIndex triples a old) (kept : new.arrangement ≡ old.arrangement) (ordered : IsArranged new)
  where
    pub IsIndex-also : HasAlso triples others t → HasAlso old.triples new.triples t → IsIndex others a new
    IsIndex-also also also' =
        IsIndex-from (kept ∙ index.arranged) (SameMembers-also t (IsIndex-holds index) also' also) ordered

    pub IsIndex-not : IsWithout triples others t → IsWithout old.triples new.triples t → IsIndex others a new
    IsIndex-not without without' =
        IsIndex-from (kept ∙ index.arranged)
        (SameMembers-without t (IsIndex-holds index) without' without) ordered

-- a new triple that is taken out again leaves what was there
also_not : {old added left : List Triple} (t : Triple) → HasAlso old added t → (Contains old t → ⊥)
    → IsWithout added left t → SameMembers left old
also_not {old} t also absent without = record {
  each = λ u. (
    λ c.
        let held = (without.each u).0 c in
        elim ((also.each u).0 held.0) [ inl before ↦ before | inr same ↦ absurd (held.1 same) ],
    λ c. (without.each u).1 ((also.each u).1 (inl c), λ same. absent (subst (Contains old) same c)),
  );
}

pub taken_back : {triples : List Triple} {a : Arrangement} (index added left : Arranged) (t : Triple)
    → IsIndex triples a index → added.arrangement ≡ index.arrangement → left.arrangement ≡ added.arrangement
    → HasAlso index.triples added.triples t → (Contains triples t → ⊥)
    → IsWithout added.triples left.triples t → IsArranged left → left ≡ index
taken_back {triples} {a} index added left t is kept kept' also absent without ordered =
    let same = kept' ∙ kept in
    let before = also_not t also (λ c. absent ((is.lists.each t).0 c)) without in
    let there : Lists (arranged_cmp a) (Contains triples) left.triples = record {
      sorted = subst (λ b. IsStrictlySortedBy (arranged_cmp b) left.triples) (same ∙ is.arranged) ordered;
      each = λ u. (
        λ c. (is.lists.each u).0 ((before.each u).0 c),
        λ c. (before.each u).1 ((is.lists.each u).1 c),
      );
    } in
    let list = same_lists (arranged_cmp a) (arranged_order a) left.triples index.triples there is.lists in
    λ i. record { arrangement = same i; triples = list i }

-- indexes that are as before are indexes
pub AreIndexes-back : (one two three one' two' three' : Arranged) → AreIndexes one.triples one two three
    → one' ≡ one → two' ≡ two → three' ≡ three → AreIndexes one'.triples one' two' three'
AreIndexes-back one two three one' two' three' are first second third =
    subst (λ index. AreIndexes index.triples index two' three') (sym first)
    (subst (λ index. AreIndexes one.triples one index three') (sym second)
    (subst (λ index. AreIndexes one.triples one two index) (sym third) are))

-- the triples of an index are distinct
pub IsDistinct-arranged : (index : Arranged) → IsArranged index → IsDistinct same_triple index.triples
IsDistinct-arranged index ordered =
    let order = arranged_order index.arrangement in
    let tie = eq_by_cmp (arranged_cmp index.arrangement) in
    let laws = eq_by_cmp_equiv order.total in
    let same : tie ≡ same_triple = λ i t u.
    both_ways (tie t u) (same_triple t u)
    (λ h. subst (λ v. same_triple t v ≡ true) (tells_apart order.exact t u h) (same_triple_equiv.refl t))
    (λ h. subst (λ v. tie t v ≡ true) (same_triple_exact t u h) (laws.refl t)) i in
    subst (λ test. IsDistinct test index.triples) same
    (IsDistinct-from_sorted (arranged_cmp index.arrangement) index.triples ordered)

module _ {triples : List Triple} {a : Arrangement} (index : Arranged) (is : IsIndex triples a index) where
  holds : SameMembers triples index.triples
  holds = SameMembers-sym (IsIndex-holds is)

  -- what an index gives under a first number holds the same as the filter of the triples
  pub led_same : (first : ℕ)
      → SameMembers (led_by (record { arrangement = a; triples = triples }) first) (led_by index first)
  led_same first =
      let led = led_by index first in
      subst (λ b. SameMembers (led_by (record { arrangement = b; triples = triples }) first) led) is.arranged
      (SameMembers-filter (λ t. (entry_of index.arrangement t).first == first) triples index.triples holds)

  -- and so do the third numbers under a first and a second
  pub thirds_same : (first second : ℕ)
      → SameMembers (map (third_of (record { arrangement = a; triples = triples }))
      (led_by_pair (record { arrangement = a; triples = triples }) first second))
      (map (third_of index) (led_by_pair index first second))
  thirds_same first second =
      let p = λ (t : Triple). ((entry_of index.arrangement t).first == first)
      && ((entry_of index.arrangement t).second == second) in
      let found = SameMembers-filter p triples index.triples holds in
      subst (λ b. SameMembers (map (third_of (record { arrangement = b; triples = triples }))
      (led_by_pair (record { arrangement = b; triples = triples }) first second))
      (map (third_of index) (led_by_pair index first second)))
      is.arranged
      (SameMembers-map (third_of index) (filter p triples) (filter p index.triples) found)

  pub held_once : IsDistinct same_triple index.triples
  held_once =
      IsDistinct-arranged index
      (subst (λ b. IsStrictlySortedBy (arranged_cmp b) index.triples) (sym is.arranged) is.lists.sorted)

  -- so under a first number, or a first and a second, there are as many
  module _ (distinct : IsDistinct same_triple triples) where
    as_many : (p : Triple → Bool) → length (filter p index.triples) ≡ length (filter p triples)
    as_many p =
        length-same (filter p index.triples) (filter p triples)
        (SameMembers-filter p index.triples triples (IsIndex-holds is))
        (IsDistinct-filter p same_triple index.triples held_once)
        (IsDistinct-filter p same_triple triples distinct)

    pub led_as_many : (first : ℕ) → length (led_by index first)
        ≡ length (led_by (record { arrangement = a; triples = triples }) first)
    led_as_many first =
        as_many (λ t. (entry_of index.arrangement t).first == first)
        ∙ ap (λ b. length (filter (λ t. (entry_of b t).first == first) triples)) is.arranged

    pub led_pair_as_many : (first second : ℕ) → length (led_by_pair index first second)
        ≡ length (led_by_pair (record { arrangement = a; triples = triples }) first second)
    led_pair_as_many first second =
        as_many (λ t. ((entry_of index.arrangement t).first == first)
        && ((entry_of index.arrangement t).second == second))
        ∙ ap (λ b. length (filter (λ t. ((entry_of b t).first == first)
        && ((entry_of b t).second == second)) triples)) is.arranged

-- distinct triples of a list are at most as many as the list is long
pub length-collected : (triples held : List Triple) → SameMembers triples held → IsDistinct same_triple held
    → length held ≤ length triples
length-collected triples held same distinct =
    length-le_from_is_member same_triple_equiv held triples distinct (λ t there.
    let given = triple_held triples t (list_any (same_triple t) triples) refl in
    let kept = triple_held held t (list_any (same_triple t) held) refl in
    given.1 ((same.each t).1 (kept.0 there)))

-- new triples that are all taken out again leave the very list
pub back_in_order : (old added left some : List Triple) → All (λ t. Contains old t → ⊥) some
    → Adds old added some → SameMembers left (without same_triple added some) → AreInOrder old
    → AreInOrder left → left ≡ old
back_in_order old added left some absent adds leaves before after =
    let there : Lists (arranged_cmp SubjectPredicateObject) (Contains old) left = record {
      sorted = after;
      each = λ t.
          let kept = Contains-left added some t in (
            λ c.
                let held = kept.0 ((leaves.each t).0 c) in
                elim ((adds.each t).0 held.0) [ inl was ↦ was | inr new ↦ absurd (held.1 new) ],
            λ c. (leaves.each t).1
                (kept.1 (
                  (adds.each t).1 (inl c),
                  λ e. each_of_All (λ u. Contains old u → ⊥) some absent t e c,
                )),
          );
    } in
    let here : Lists (arranged_cmp SubjectPredicateObject) (Contains old) old =
    record { sorted = before; each = λ t. (λ c. c, λ c. c) } in
    let order = arranged_order SubjectPredicateObject in
    same_lists (arranged_cmp SubjectPredicateObject) order left old there here

-- a triple that is held now too was added
pub Adds-also : {old new : List Triple} (t : Triple) → HasAlso old new t → Adds old new (t ∷ [])
Adds-also t also = record {
  each = λ u. (
    λ c. elim ((also.each u).0 c) [ inl held ↦ inl held | inr same ↦ inr ((Contains-one t u).1 same) ],
    λ h. (also.each u).1 (elim h [ inl held ↦ inl held | inr one ↦ inr ((Contains-one t u).0 one) ]),
  );
}
