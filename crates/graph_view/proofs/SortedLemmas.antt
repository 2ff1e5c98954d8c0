-- Lists in an order: what is in order already, and lists in order that are merged.
use Rattle.std.proofs.Common.{◌≡◌, ℕ, ◌+◌, ◌≤◌, ◌<◌, zero, suc, List, [], ◌∷◌, ◌++◌, length, get_or}
use Rattle.std.proofs.Common.{take, drop, sym, ap, ◌∙◌, subst, inl, inr, arith, Ok, Err}
use Rattle.std.proofs.Common.{append_assoc, append-nil}
use native.Mathlib.Numerals.{unary_clauses}
use Rattle.std.specs.Prelude.{true, false, ◌==◌, Contains, ◌↔◌, ◌⊎◌}
use Rattle.std.proofs.lemmas.Bool.{eqb-true}
use Rattle.std.specs.declared.cmp.Ordering.{Ordering}
use Rattle.std.specs.declared.cmp.Ordering.TheVariants.{Less, Greater}
use Rattle.std.specs.List.{AllByRecursion}
use Rattle.std.specs.List.Sorted.{IsStrictlySortedBy, IsSortedBy, IsBinarySearchResult, IsNonDecreasingBy}
use Rattle.std.specs.Ordering.{is_lt, ordering_index, ordering_reverse}
use Rattle.std.proofs.lemmas.List.{take-append-drop, get_or-take, get_or-drop}
use Rattle.std.proofs.lemmas.List.{length-take, length-drop, drop_all, at_drop_more}
use Rattle.std.proofs.lemmas.List.Elements.{Contains-append_left, Contains-append_right}
use Rattle.std.proofs.lemmas.List.Elements.{Contains-append_cases}
use Rattle.std.proofs.lemmas.List.Sorted.{searchable_from_sorted}
use Rattle.std.proofs.lemmas.Map.Keys.{sorted_tail}
use Rattle.std.proofs.lemmas.Map.Views.{All-after_first}
use Rattle.shx_term.specs.InOrder.{IsExactOrder, in_order}
use Rattle.shx_term.specs.Members.{SameMembers}
use Rattle.shx_term.proofs.InOrderLemmas.{in_order_lists, in_order_is, in_order_same}
use Rattle.shx_term.proofs.MemberLemmas.{Contains-one, Contains-head, Contains-tail, Contains-cases}
use Rattle.shx_term.proofs.MemberLemmas.{each_of_All, none_in_empty}
use Rattle.graph_view.specs.inner.Merged.{PutsBefore}
use Rattle.shx_term.proofs.SetLemmas.{SameMembers-itself, SameMembers-append}

module _ {K : Type 0} (P : K → Type 0) where
  by_recursion : (xs : List K) → ((x : K) → Contains xs x → P x) → AllByRecursion P xs
  by_recursion [] each = tt
  by_recursion (x ∷ xs) each =
      (each x (Contains-head x xs), by_recursion xs (λ y c. each y (Contains-tail x y xs c)))

  both_recursions : (xs ys : List K) → AllByRecursion P xs → AllByRecursion P ys → AllByRecursion P (xs ++ ys)
  both_recursions [] ys all more = more
  both_recursions (x ∷ xs) ys all more = (all.0, both_recursions xs ys all.1 more)

module _ {K : Type 0} (cmp : K → K → Ordering) where
  -- the elements of the first list stand before those of the second
  abbrev pub StandsBefore : List K → List K → Type 0
  StandsBefore xs ys = (x y : K) → Contains xs x → Contains ys y → cmp x y ≡ Less

  pub sorted-append : (xs ys : List K) → IsStrictlySortedBy cmp xs → IsStrictlySortedBy cmp ys
      → StandsBefore xs ys → IsStrictlySortedBy cmp (xs ++ ys)
  unfolding IsStrictlySortedBy
  sorted-append [] ys one other before = other
  sorted-append (x ∷ xs) ys one other before = (
    both_recursions (λ z. cmp x z ≡ Less) xs ys one.0
        (by_recursion (λ z. cmp x z ≡ Less) ys (λ z c. before x z (Contains-head x xs) c)),
    sorted-append xs ys one.1 other (λ y z c d. before y z (Contains-tail x y xs c) d),
  )

  above_first : (x : K) (xs : List K) → IsStrictlySortedBy cmp (x ∷ xs) → (y : K) → Contains xs y
      → cmp x y ≡ Less
  above_first x xs sorted y c =
      each_of_All (λ z. cmp x z ≡ Less) xs (All-after_first cmp x xs sorted) y c

  -- a front of a list in order, and what is behind it
  pub sorted-behind : (xs ys : List K) → IsStrictlySortedBy cmp (xs ++ ys) → IsStrictlySortedBy cmp ys
  sorted-behind [] ys sorted = sorted
  sorted-behind (x ∷ xs) ys sorted = sorted-behind xs ys (sorted_tail cmp x (xs ++ ys) sorted)

  pub sorted-front : (xs ys : List K) → IsStrictlySortedBy cmp (xs ++ ys) → IsStrictlySortedBy cmp xs
  unfolding IsStrictlySortedBy
  sorted-front [] ys sorted = tt
  sorted-front (x ∷ xs) ys sorted = (
    by_recursion (λ z. cmp x z ≡ Less) xs
        (λ z c. above_first x (xs ++ ys) sorted z (Contains-append_left xs ys z c)),
    sorted-front xs ys sorted.1,
  )

  pub front_before : (xs ys : List K) → IsStrictlySortedBy cmp (xs ++ ys) → StandsBefore xs ys
  front_before [] ys sorted y z c d = absurd (none_in_empty y c)
  front_before (x ∷ xs) ys sorted y z c d = elim (Contains-cases x y xs c) [
    | inl e ↦ subst (λ w. cmp w z ≡ Less) (sym e)
        (above_first x (xs ++ ys) sorted z (Contains-append_right xs ys z d))
    | inr later ↦ front_before xs ys (sorted_tail cmp x (xs ++ ys) sorted) y z later d
  ]

  module _ (order : IsExactOrder cmp) where
    not_back : (a b : K) → cmp a b ≡ Less → is_lt (cmp b a) ≡ false
    not_back a b e = ap is_lt (order.total.antisymm b a ∙ ap ordering_reverse e)

    ascends : (xs : List K) → IsStrictlySortedBy cmp xs → IsSortedBy (λ a b. is_lt (cmp a b)) xs
    ascends [] sorted k d low high = absurd (omega (arith, high))
    ascends (x ∷ xs) sorted zero d low high =
        not_back x (get_or xs 0 d) (All-after_first cmp x xs sorted 0 d (omega (arith, high)))
    ascends (x ∷ xs) sorted (suc k) d low high =
        let behind = ascends xs (sorted_tail cmp x xs sorted) k d (omega arith) (omega (arith, high)) in
        simp unary_clauses (simp unary_clauses at behind)

    -- what is in order is so already
    pub in_order_itself : (xs : List K) → IsStrictlySortedBy cmp xs → xs ≡ in_order cmp xs
    in_order_itself xs sorted =
        in_order_is cmp order xs xs (record { sorted = sorted; each = λ x. (λ c. c, λ c. c) })

    -- putting a part in order first changes nothing
    pub in_order_more : (xs ys : List K) → in_order cmp (in_order cmp xs ++ ys) ≡ in_order cmp (xs ++ ys)
    in_order_more xs ys =
        let part : SameMembers (in_order cmp xs) xs = record { each = (in_order_lists cmp order xs).each } in
        in_order_same cmp order (in_order cmp xs ++ ys) (xs ++ ys)
        (SameMembers-append (in_order cmp xs) ys xs ys part (SameMembers-itself ys)).each

    -- a front that is in order stands before what is put in order behind it
    pub in_order_behind : (front back all : List K) → IsStrictlySortedBy cmp front → StandsBefore front back
        → ((y : K) → Contains all y ↔ (Contains front y ⊎ Contains back y))
        → front ++ in_order cmp back ≡ in_order cmp all
    in_order_behind front back all sorted before each =
        let lists = in_order_lists cmp order back in
        in_order_is cmp order all (front ++ in_order cmp back) (record {
          sorted = sorted-append front (in_order cmp back) sorted lists.sorted
              (λ x y c d. before x y c ((lists.each y).0 d));
          each = λ y. (
            λ c. (each y).1 (elim (Contains-append_cases front (in_order cmp back) y c) [
              | inl d ↦ inl d
              | inr d ↦ inr ((lists.each y).0 d)
            ]),
            λ c. elim ((each y).0 c) [
              | inl d ↦ Contains-append_left front (in_order cmp back) y d
              | inr d ↦ Contains-append_right front (in_order cmp back) y ((lists.each y).1 d)
            ],
          );
        })

    module _ (rest : List K) (sorted : IsStrictlySortedBy cmp rest) (x : K) where
      -- an element that is found among what is left is there already
      pub puts_found : (i : ℕ) → i < length rest → IsBinarySearchResult (λ y. cmp y x) rest (Ok i)
          → (done : List K) → PutsBefore cmp x rest rest done done
      puts_found i inside searched done =
          let held : Contains rest x = (i, inside, order.exact (get_or rest i x) x (searched x)) in
          record {
            front = [];
            new_is = sym (append-nil done);
            sorted = sorted;
            begins = λ more above. in_order_same cmp order (rest ++ more) (rest ++ x ∷ more) (λ y. (
              λ c. elim (Contains-append_cases rest more y c) [
                | inl d ↦ Contains-append_left rest (x ∷ more) y d
                | inr d ↦ Contains-append_right rest (x ∷ more) y (Contains-tail x y more d)
              ],
              λ c. elim (Contains-append_cases rest (x ∷ more) y c) [
                | inl d ↦ Contains-append_left rest more y d
                | inr d ↦ elim (Contains-cases x y more d) [
                  | inl e ↦ Contains-append_left rest more y (subst (Contains rest) (sym e) held)
                  | inr e ↦ Contains-append_right rest more y e
                ]
              ],
            ));
          }

      -- one that is not found is put where the search ended
      module _ (i : ℕ) (inside : i ≤ length rest)
          (searched : IsBinarySearchResult (λ y. cmp y x) rest (Err i)) where
        abbrev front : List K
        front = take i rest

        abbrev back : List K
        back = drop i rest

        rises : IsNonDecreasingBy (λ y. ordering_index (cmp y x)) rest
        rises = searchable_from_sorted order.total (λ y. y) rest x (ascends rest sorted)

        whole : front ++ back ≡ rest
        whole = take-append-drop i rest

        apart : IsStrictlySortedBy cmp (front ++ back)
        apart = subst (IsStrictlySortedBy cmp) (sym whole) sorted

        below : (a : K) → Contains front a → cmp a x ≡ Less
        below a c =
            let low : c.0 < i = omega (arith, c.1, length-take i rest) in
            subst (λ b. cmp b x ≡ Less) (sym (get_or-take i rest c.0 a low) ∙ c.2)
            ((searched rises).0 c.0 a (omega arith) low)

        above : (b : K) → Contains back b → cmp x b ≡ Less
        above b c =
            let high : i + c.0 < length rest = omega (arith, c.1, length-drop i rest) in
            let after = subst (λ a. cmp a x ≡ Greater) (sym (get_or-drop i rest c.0 b) ∙ c.2)
            ((searched rises).1 (i + c.0) b (omega arith) high) in
            order.total.antisymm x b ∙ ap ordering_reverse after

        all_alike : (more : List K) (y : K)
            → Contains (rest ++ x ∷ more) y ↔ (Contains (front ++ x ∷ []) y ⊎ Contains (back ++ more) y)
        all_alike more y = (
          λ c. elim (Contains-append_cases rest (x ∷ more) y c) [
            | inl d ↦ elim (Contains-append_cases front back y (subst (λ ys. Contains ys y) (sym whole) d)) [
              | inl e ↦ inl (Contains-append_left front (x ∷ []) y e)
              | inr e ↦ inr (Contains-append_left back more y e)
            ]
            | inr d ↦ elim (Contains-cases x y more d) [
              | inl e ↦ inl (Contains-append_right front (x ∷ []) y ((Contains-one x y).1 e))
              | inr e ↦ inr (Contains-append_right back more y e)
            ]
          ],
          λ h. elim h [
            | inl c ↦ elim (Contains-append_cases front (x ∷ []) y c) [
              | inl d ↦ Contains-append_left rest (x ∷ more) y
                  (subst (λ ys. Contains ys y) whole (Contains-append_left front back y d))
              | inr d ↦ Contains-append_right rest (x ∷ more) y
                  (subst (Contains (x ∷ more)) (sym ((Contains-one x y).0 d)) (Contains-head x more))
            ]
            | inr c ↦ elim (Contains-append_cases back more y c) [
              | inl d ↦ Contains-append_left rest (x ∷ more) y
                  (subst (λ ys. Contains ys y) whole (Contains-append_right front back y d))
              | inr d ↦ Contains-append_right rest (x ∷ more) y (Contains-tail x y more d)
            ]
          ],
        )

        sorted-put : IsStrictlySortedBy cmp (front ++ x ∷ [])
        unfolding IsStrictlySortedBy
        sorted-put =
            sorted-append front (x ∷ []) (sorted-front front back apart) (tt, tt)
            (λ a y c d. subst (λ z. cmp a z ≡ Less) (sym ((Contains-one x y).0 d)) (below a c))

        put_stands_before : (more : List K) → ((y : K) → Contains more y → cmp x y ≡ Less)
            → StandsBefore (front ++ x ∷ []) (back ++ more)
        put_stands_before more higher a y c d =
            elim (Contains-append_cases front (x ∷ []) a c) [
              | inl e ↦ elim (Contains-append_cases back more y d) [
                | inl f ↦ front_before front back apart a y e f
                | inr f ↦ order.total.trans a x y (below a e) (higher y f)
              ]
              | inr e ↦ subst (λ z. cmp z y ≡ Less) (sym ((Contains-one x a).0 e))
                  (elim (Contains-append_cases back more y d) [
                    | inl f ↦ above y f
                    | inr f ↦ higher y f
                  ])
            ]

        pub puts_new : (done : List K) → PutsBefore cmp x rest back done ((done ++ front) ++ x ∷ [])
        puts_new done = record {
          front = front ++ x ∷ [];
          new_is = append_assoc done front (x ∷ []);
          sorted = sorted-behind front back apart;
          begins = λ more higher.
              in_order_behind (front ++ x ∷ []) (back ++ more) (rest ++ x ∷ more) sorted-put
              (put_stands_before more higher) (all_alike more);
        }

    -- a loop that puts one element of a list in order after the other before what is left
    pub merge_starts : (found new ascending : List K) → ascending ≡ in_order cmp new
        → in_order cmp (found ++ ascending) ≡ in_order cmp (found ++ new)
    merge_starts found new ascending e =
        let part : SameMembers (in_order cmp new) new =
        record { each = (in_order_lists cmp order new).each } in
        ap (λ xs. in_order cmp (found ++ xs)) e
        ∙ in_order_same cmp order (found ++ in_order cmp new) (found ++ new)
        (SameMembers-append found (in_order cmp new) found new (SameMembers-itself found) part).each

    pub merge_goes_on : (items rest left done new all : List K) (i : ℕ) (x : K) → i < length items
        → x ≡ get_or items i x → IsStrictlySortedBy cmp items → PutsBefore cmp x rest left done new
        → done ++ in_order cmp (rest ++ drop i items) ≡ all
        → new ++ in_order cmp (left ++ drop (i + 1) items) ≡ all
    merge_goes_on items rest left done new all i x inside here sorted puts before =
        let more = drop (i + 1) items in
        let next : drop i items ≡ x ∷ more =
        at_drop_more (λ xs. xs) items i x inside ∙ ap (λ y. y ∷ more) (sym here) in
        let behind = subst (IsStrictlySortedBy cmp) next
        (sorted-behind (take i items) (drop i items)
        (subst (IsStrictlySortedBy cmp) (sym (take-append-drop i items)) sorted)) in
        ap (λ xs. xs ++ in_order cmp (left ++ more)) puts.new_is
        ∙ append_assoc done puts.front (in_order cmp (left ++ more))
        ∙ ap (λ xs. done ++ xs) (puts.begins more (above_first x more behind))
        ∙ ap (λ xs. done ++ in_order cmp (rest ++ xs)) (sym next)
        ∙ before

    pub merge_ends : (items rest done all : List K) (i : ℕ) → length items ≤ i → IsStrictlySortedBy cmp rest
        → done ++ in_order cmp (rest ++ drop i items) ≡ all → done ++ rest ≡ all
    merge_ends items rest done all i past sorted before =
        ap (λ xs. done ++ xs)
        (in_order_itself rest sorted
        ∙ ap (in_order cmp) (sym (append-nil rest) ∙ ap (λ xs. rest ++ xs) (sym (drop_all i items past))))
        ∙ before

    pub in_order_empty : (found new : List K) → IsStrictlySortedBy cmp found → (length new == 0) ≡ true
        → found ≡ in_order cmp (found ++ new)
    in_order_empty found [] sorted e =
        in_order_itself found sorted ∙ ap (in_order cmp) (sym (append-nil found))
    in_order_empty found (x ∷ xs) sorted e = absurd (omega (arith, eqb-true (length (x ∷ xs)) 0 e))
