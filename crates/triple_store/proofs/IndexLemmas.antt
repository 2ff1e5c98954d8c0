-- Indexes as lists of triples: what their entries hold, their order, what is added and removed, and ranges.
use Rattle.std.specs.Prelude.{◌≡◌, ℕ, Bool, true, false, not, ◌&&◌, ◌==◌, List, [], ◌∷◌, map, filter, All}
use Rattle.std.specs.Prelude.{if◌then◌else◌, Contains, ◌↔◌, length, take, min}
use Rattle.std.specs.BTreeSet.{BTreeSet, IsFromIterResult}
use Rattle.std.specs.Cmp.{IsEquivalence, eq_by_cmp_equiv}
use Rattle.std.specs.List.{list_any, AllByRecursion}
use Rattle.std.specs.List.Sorted.{IsStrictlySortedBy}
use Rattle.std.specs.Ordering.{eq_by_cmp}
use Rattle.std.specs.declared.cmp.Ordering.TheVariants.{Less}
use Rattle.std.proofs.Common.{refl, sym, ap, ◌∙◌, subst, inl, inr, true≢false, arith}
use Rattle.std.proofs.lemmas.List.{length-map, length-take}
use Rattle.std.proofs.lemmas.Map.Views.{tells_apart}
use Rattle.shx_term.specs.declared.triple.Triple.{Triple}
use Rattle.shx_term.proofs.MemberLemmas.{Contains-head, Contains-tail, Contains-map, Contains-from_map}
use Rattle.shx_term.proofs.MemberLemmas.{Contains-test, Contains-entered, Contains-remove}
use Rattle.shx_term.proofs.MemberLemmas.{each_of_All, All_of_each}
use Rattle.shx_term.specs.Members.{SameMembers}
use Rattle.graph_view.specs.Graph.{HasAlso, IsWithout}
use Rattle.triple_store.proofs.ArrangementLemmas.{triple_back, entry_back, entry_cmp_total, entry_cmp_exact}
use Rattle.triple_store.proofs.RangeLemmas.{greatest, is_between, between_first, between_pair}
use Rattle.triple_store.specs.inner.Arrangement.{entry_of, triple_at, entry_cmp, arranged_cmp, HasNumbers}
use Rattle.triple_store.specs.inner.Index.{led_by, led_by_pair, third_of}
use Rattle.triple_store.specs.declared.arrangement.Arrangement.{Arrangement}
use Rattle.triple_store.specs.declared.arrangement.Entry.{Entry}

-- a test that tells entries apart
abbrev pub same_entry : Entry → Entry → Bool
same_entry d e = eq_by_cmp entry_cmp d e

same_entry_equiv : IsEquivalence same_entry
same_entry_equiv = eq_by_cmp_equiv entry_cmp_total

same_entry_exact : (d e : Entry) → same_entry d e ≡ true → d ≡ e
same_entry_exact = tells_apart entry_cmp_exact

Contains-entry : (es : List Entry) (e : Entry) → (list_any (same_entry e) es ≡ true) ↔ Contains es e
Contains-entry = Contains-test same_entry same_entry_equiv same_entry_exact

-- how many are taken up to a bound, by a list of what they stand for
pub taken_count : {A B : Type 0} (f : A → B) (xs : List A) (ys : List B) (most n : ℕ)
    → n ≡ length (take most xs) → map f xs ≡ ys → n ≡ min (length ys) most
taken_count f xs ys most n taken same =
    omega (arith, taken, length-take most xs, length-map xs f, ap length same)

module _ (a : Arrangement) where
  -- a triple is there where its entry is
  pub held_at : (es : List Entry) (t : Triple)
      → Contains (map (triple_at a) es) t ↔ Contains es (entry_of a t)
  held_at es t = (
    λ c.
        let found = Contains-from_map (triple_at a) es t c in
        subst (Contains es) (sym (ap (entry_of a) found.2 ∙ entry_back a found.0)) found.1,
    λ c. subst (Contains (map (triple_at a) es)) (triple_back a t)
        (Contains-map (triple_at a) es (entry_of a t) c),
  )

  -- what a test of its entry answers
  pub tested_at : (es : List Entry) (t : Triple) (e : Entry) (answer : Bool) → e ≡ entry_of a t
      → answer ≡ list_any (same_entry e) es → (answer ≡ true) ↔ Contains (map (triple_at a) es) t
  tested_at es t e answer made is =
      let held = held_at es t in
      let test = Contains-entry es e in (
        λ h. held.1 (subst (Contains es) made (test.0 (sym is ∙ h))),
        λ c. is ∙ test.1 (subst (Contains es) (sym made) (held.0 c)),
      )

  -- where it answers that there is none
  pub absent_at : (es : List Entry) (t : Triple) (e : Entry) → e ≡ entry_of a t
      → list_any (same_entry e) es ≡ false → Contains (map (triple_at a) es) t → ⊥
  absent_at es t e made none c =
      true≢false (sym ((tested_at es t e (list_any (same_entry e) es) made refl).1 c) ∙ none)

  -- what the opposite of the test answers
  pub new_at : (es : List Entry) (t : Triple) (e : Entry) (answer : Bool) → e ≡ entry_of a t
      → answer ≡ not (list_any (same_entry e) es)
      → (answer ≡ true) ↔ (Contains (map (triple_at a) es) t → ⊥)
  new_at es t e answer made is =
      let test = list_any (same_entry e) es in
      let held = tested_at es t e test made refl in
      elim test as (λ b. test ≡ b → answer ≡ not b
      → (answer ≡ true) ↔ (Contains (map (triple_at a) es) t → ⊥)) [
        | true ↦ λ there old. (
          λ h. absurd (true≢false (sym h ∙ old)),
          λ absent. absurd (absent (held.0 there)),
        )
        | false ↦ λ none new. (λ _. absent_at es t e made none, λ _. new)
      ] refl is

  same_triple_at : (t u : Triple) → entry_of a u ≡ entry_of a t → u ≡ t
  same_triple_at t u same = sym (triple_back a u) ∙ ap (triple_at a) same ∙ triple_back a t

  -- adding the entry adds the triple
  pub HasAlso-entered : (old new : List Entry) (t : Triple) (e : Entry) → e ≡ entry_of a t
      → ((d : Entry) → list_any (same_entry d) new
      ≡ (if same_entry e d then true else list_any (same_entry d) old))
      → HasAlso (map (triple_at a) old) (map (triple_at a) new) t
  HasAlso-entered old new t e made entered = record {
    each = λ u.
        let there =
        Contains-entered same_entry same_entry_equiv same_entry_exact old new e entered (entry_of a u) in
        let before = held_at old u in
        let after = held_at new u in (
          λ c. elim (there.0 (after.0 c)) [
            | inl held ↦ inl (before.1 held)
            | inr same ↦ inr (same_triple_at t u (same ∙ made))
          ],
          λ h. after.1 (there.1 (elim h [
            | inl c ↦ inl (before.0 c)
            | inr same ↦ inr (ap (entry_of a) same ∙ sym made)
          ])),
        );
  }

  -- and removing it removes the triple
  pub IsWithout-entry : (old new : List Entry) (t : Triple) (e : Entry) → e ≡ entry_of a t
      → ((d : Entry) → list_any (same_entry d) new
      ≡ (if same_entry e d then false else list_any (same_entry d) old))
      → IsWithout (map (triple_at a) old) (map (triple_at a) new) t
  IsWithout-entry old new t e made removed = record {
    each = λ u.
        let there =
        Contains-remove same_entry same_entry_equiv same_entry_exact old new e removed (entry_of a u) in
        let before = held_at old u in
        let after = held_at new u in (
          λ c.
              let left = there.0 (after.0 c) in
              (before.1 left.0, λ same. left.1 (ap (entry_of a) same ∙ sym made)),
          λ h. after.1 (there.1 (before.0 h.0, λ same. h.1 (same_triple_at t u (same ∙ made)))),
        );
  }

  -- what is collected of the entries of triples holds these triples
  module _ (ts : List Triple) (set : BTreeSet Entry)
      (made : IsFromIterResult entry_cmp (map (entry_of a) ts) set)
    where
      entry_collected : (e : Entry) → Contains set.keys e ↔ Contains (map (entry_of a) ts) e
      entry_collected e =
          let held = Contains-entry set.keys e in
          let given = Contains-entry (map (entry_of a) ts) e in (
            λ c. given.0 (sym (made.0 e) ∙ held.1 c),
            λ c. held.0 (made.0 e ∙ given.1 c),
          )

      pub SameMembers-collected : SameMembers ts (map (triple_at a) set.keys)
      SameMembers-collected = record {
        each = λ t.
            let held = held_at set.keys t in
            let given = entry_collected (entry_of a t) in (
              λ c. held.1 (given.1 (Contains-map (entry_of a) ts t c)),
              λ c.
                  let found = Contains-from_map (entry_of a) ts (entry_of a t) (given.0 (held.0 c)) in
                  subst (Contains ts) (same_triple_at t found.0 (sym found.2)) found.1,
            );
      }

      -- and their numbers
      pub HasNumbers-collected : All (λ t. HasNumbers (entry_of a t)) ts → All HasNumbers set.keys
      HasNumbers-collected numbers = All_of_each HasNumbers set.keys each
        where
          each : (e : Entry) → Contains set.keys e → HasNumbers e
          each e c =
              let found = Contains-from_map (entry_of a) ts e ((entry_collected e).0 c) in
              subst HasNumbers (sym found.2)
              (each_of_All (λ t. HasNumbers (entry_of a t)) ts numbers found.0 found.1)

  -- triples ascend as their entries do
  compared_at : (d e : Entry) → arranged_cmp a (triple_at a d) (triple_at a e) ≡ entry_cmp d e
  compared_at d e = λ i. entry_cmp (entry_back a d i) (entry_back a e i)

  below_at : (d : Entry) (es : List Entry) → AllByRecursion (λ e. entry_cmp d e ≡ Less) es
      → AllByRecursion (λ u. arranged_cmp a (triple_at a d) u ≡ Less) (map (triple_at a) es)
  below_at d [] below = tt
  below_at d (e ∷ es) below = (compared_at d e ∙ below.0, below_at d es below.1)

  pub sorted_at : (es : List Entry) → IsStrictlySortedBy entry_cmp es
      → IsStrictlySortedBy (arranged_cmp a) (map (triple_at a) es)
  unfolding IsStrictlySortedBy
  sorted_at [] sorted = tt
  sorted_at (e ∷ es) sorted = (below_at e es sorted.0, sorted_at es sorted.1)

  -- what a test of entries keeps is what a test of triples keeps
  kept_with : (e : Entry) (kept : List Entry) (ts : List Triple) (b c : Bool) → b ≡ c
      → map (triple_at a) kept ≡ ts
      → map (triple_at a) (if b then e ∷ kept else kept) ≡ (if c then triple_at a e ∷ ts else ts)
  kept_with e kept ts true true h same = ap (λ us. triple_at a e ∷ us) same
  kept_with e kept ts true false h same = absurd (true≢false h)
  kept_with e kept ts false true h same = absurd (true≢false (sym h))
  kept_with e kept ts false false h same = same

  kept_at : (p : Entry → Bool) (q : Triple → Bool) (es : List Entry)
      → ((e : Entry) → Contains es e → p e ≡ q (triple_at a e))
      → map (triple_at a) (filter p es) ≡ filter q (map (triple_at a) es)
  kept_at p q [] same = refl
  kept_at p q (e ∷ es) same =
      let rest = kept_at p q es (λ d c. same d (Contains-tail e d es c)) in
      kept_with e (filter p es) (filter q (map (triple_at a) es)) (p e) (q (triple_at a e))
      (same e (Contains-head e es)) rest

  -- the entries with this first number are those of the triples with it
  pub led_at : (es : List Entry) (first : ℕ) → All HasNumbers es
      → map (triple_at a)
      (filter (is_between (record { first = first; second = 0; third = 0 })
      (record { first = first; second = greatest; third = greatest })) es)
      ≡ led_by (record { arrangement = a; triples = map (triple_at a) es }) first
  led_at es first numbers =
      let low : Entry = record { first = first; second = 0; third = 0 } in
      let high : Entry = record { first = first; second = greatest; third = greatest } in
      kept_at (is_between low high) (λ t. (entry_of a t).first == first) es
      (λ e c. between_first e (each_of_All HasNumbers es numbers e c) first
      ∙ ap (λ (d : Entry). d.first == first) (sym (entry_back a e)))

  third_back : (es : List Entry)
      → map (λ (e : Entry). e.third) es ≡ map (λ t. (entry_of a t).third) (map (triple_at a) es)
  third_back [] = refl
  third_back (e ∷ es) = let back = sym (entry_back a e) in λ i. (back i).third ∷ third_back es i

  -- the third numbers of the entries with these first two
  pub thirds_at : (es : List Entry) (first second : ℕ) → All HasNumbers es
      → map (λ (e : Entry). e.third)
      (filter (is_between (record { first = first; second = second; third = 0 })
      (record { first = first; second = second; third = greatest })) es)
      ≡ map (third_of (record { arrangement = a; triples = map (triple_at a) es }))
      (led_by_pair (record { arrangement = a; triples = map (triple_at a) es }) first second)
  thirds_at es first second numbers =
      let low : Entry = record { first = first; second = second; third = 0 } in
      let high : Entry = record { first = first; second = second; third = greatest } in
      let led = λ (d : Entry). (d.first == first) && (d.second == second) in
      third_back (filter (is_between low high) es)
      ∙ ap (map (λ t. (entry_of a t).third))
      (kept_at (is_between low high) (λ t. led (entry_of a t)) es
      (λ e c. between_pair e (each_of_All HasNumbers es numbers e c) first second
      ∙ ap led (sym (entry_back a e))))
