-- What lists in an order have for members, and when two of them are the same.
use Rattle.std.specs.Prelude.{◌≡◌, ◌<◌, Bool, true, false, T, ◌&&◌, List, [], ◌∷◌, length, map, is_some}
use Rattle.std.specs.Prelude.{Contains, ◌↔◌}
use Rattle.std.specs.declared.cmp.Ordering.{Ordering}
use Rattle.std.specs.declared.cmp.Ordering.TheVariants.{Less, Equal, Greater}
use Rattle.std.specs.Ordering.{ordering_then, eq_by_cmp, is_lt}
use Rattle.std.specs.Cmp.{eq_by_cmp_equiv, both_ways}
use Rattle.std.specs.List.{list_any, AllByRecursion}
use Rattle.std.specs.List.Sorted.{IsStrictlySortedBy}
use Rattle.std.specs.BTreeSet.{BTreeSet}
use Rattle.std.specs.FinMap as ordered_map
use Rattle.std.specs.FinMap.Entries.{below_all, is_some-find}
use Rattle.std.proofs.Common.{refl, sym, ap, ◌∙◌, arith}
use Rattle.std.proofs.lemmas.Map.Lookups.{CmpEqualImpliesEq, btree_set_from_contains}
use Rattle.std.proofs.lemmas.Map.Views.{tells_apart, Contains-from_any, list_any-from_Contains}
use Rattle.shx_term.proofs.MemberLemmas.{Contains-head, Contains-tail}
use Rattle.shx_term.specs.InOrder.{IsExactOrder, Lists, keyed, in_order}

both_hold : (a b : Bool) → T (a && b) → T a × T b
both_hold true b h = (tt, h)
both_hold false b h = absurd h

is_Less : (r : Ordering) → T (is_lt r) → r ≡ Less
is_Less Less h = refl
is_Less Equal h = absurd h
is_Less Greater h = absurd h

second_Equal : (a b : Ordering) → ordering_then a b ≡ Equal → b ≡ Equal
second_Equal Less b e = cc
second_Equal Equal b e = e
second_Equal Greater b e = cc

-- elements that tie by one order and are then compared by an exact one are one
pub exact-then : {K : Type 0} (first second : K → K → Ordering) → CmpEqualImpliesEq second
    → CmpEqualImpliesEq (λ a b. ordering_then (first a b) (second a b))
exact-then first second exact a b e = exact a b (second_Equal (first a b) (second a b) e)

module _ {K : Type 0} (cmp : K → K → Ordering) where
  below_keys : (x : K) (es : List (K × Unit {0})) → T (below_all cmp x es)
      → AllByRecursion (λ y. cmp x y ≡ Less) (map (λ e. e.0) es)
  below_keys x [] h = tt
  below_keys x (e ∷ es) h =
      let parts = both_hold (is_lt (cmp x e.0)) (below_all cmp x es) h in
      (is_Less (cmp x e.0) parts.0, below_keys x es parts.1)

  keys_sorted : (es : List (K × Unit {0})) → T (ordered_map.is_sorted cmp es)
      → IsStrictlySortedBy cmp (map (λ e. e.0) es)
  unfolding IsStrictlySortedBy
  keys_sorted [] h = tt
  keys_sorted (e ∷ es) h =
      let parts = both_hold (below_all cmp e.0 es) (ordered_map.is_sorted cmp es) h in
      (below_keys e.0 es parts.0, keys_sorted es parts.1)

  keys_of_units : (xs : List K) → map (λ (e : K × Unit {0}). e.0) (map keyed xs) ≡ xs
  keys_of_units [] = refl
  keys_of_units (x ∷ xs) = ap (λ rest. x ∷ rest) (keys_of_units xs)

  module _ (order : IsExactOrder cmp) where
    -- whether an element ties with one of the ordered list is whether it ties with one of the list
    tied_in_order : (xs : List K) (y : K)
        → list_any (eq_by_cmp cmp y) (in_order cmp xs) ≡ list_any (eq_by_cmp cmp y) xs
    tied_in_order xs y =
        let entries : List (K × Unit {0}) = map keyed xs in
        sym (ordered_map.contains_key-keys (ordered_map.from_entries {R = cmp} entries) y)
        ∙ ap is_some (ordered_map.get-from_entries order.total entries y)
        ∙ is_some-find cmp y entries
        ∙ ap (list_any (eq_by_cmp cmp y)) (keys_of_units xs)

    -- the definition is the one list of these elements in the order
    pub in_order_lists : (xs : List K) → Lists cmp (Contains xs) (in_order cmp xs)
    in_order_lists xs =
        let apart = tells_apart order.exact in
        let laws = eq_by_cmp_equiv order.total in
        let whole = ordered_map.from_entries {R = cmp} (map keyed xs) in
        record {
          sorted = keys_sorted (ordered_map.entries whole) (ordered_map.entries_sorted whole);
          each = λ y. (
            λ c. Contains-from_any apart y xs
                (sym (tied_in_order xs y) ∙ list_any-from_Contains laws y (in_order cmp xs) c),
            λ c. Contains-from_any apart y (in_order cmp xs)
                (tied_in_order xs y ∙ list_any-from_Contains laws y xs c),
          );
        }

    -- a list is fixed by its order and its members
    pub same_lists : {P : K → Type 0} (xs ys : List K) → Lists cmp P xs → Lists cmp P ys → xs ≡ ys
    same_lists xs ys a b =
        let apart = tells_apart order.exact in
        let laws = eq_by_cmp_equiv order.total in
        let same : (y : K) → list_any (eq_by_cmp cmp y) xs ≡ list_any (eq_by_cmp cmp y) ys =
        λ y. both_ways (list_any (eq_by_cmp cmp y) xs) (list_any (eq_by_cmp cmp y) ys)
        (λ h. list_any-from_Contains laws y ys ((b.each y).1 ((a.each y).0 (Contains-from_any apart y xs h))))
        (λ h. list_any-from_Contains laws y xs
        ((a.each y).1 ((b.each y).0 (Contains-from_any apart y ys h)))) in
        let one : BTreeSet K = record { keys = xs } in
        let other : BTreeSet K = record { keys = ys } in
        btree_set_from_contains order.total one other a.sorted b.sorted same order.exact

    -- so what lists the members is the definition
    pub in_order_is : (xs ys : List K) → Lists cmp (Contains xs) ys → ys ≡ in_order cmp xs
    in_order_is xs ys lists = same_lists ys (in_order cmp xs) lists (in_order_lists xs)

    -- a list of one element, or of none, is in order
    pub few_in_order : (xs : List K) → length xs < 2 → xs ≡ in_order cmp xs
    unfolding IsStrictlySortedBy
    few_in_order [] few = in_order_is [] [] (record { sorted = tt; each = λ y. (λ c. c, λ c. c) })
    few_in_order (x ∷ []) few =
        in_order_is (x ∷ []) (x ∷ []) (record { sorted = (tt, tt); each = λ y. (λ c. c, λ c. c) })
    few_in_order (x ∷ (y ∷ ys)) few = absurd (omega arith)

    -- lists with the same members are the same in order
    pub in_order_same : (xs others : List K) → ((y : K) → Contains xs y ↔ Contains others y)
        → in_order cmp xs ≡ in_order cmp others
    in_order_same xs others same =
        let lists = in_order_lists xs in
        in_order_is others (in_order cmp xs) (record {
          sorted = lists.sorted;
          each = λ y. (λ c. (same y).0 ((lists.each y).0 c), λ c. (lists.each y).1 ((same y).1 c));
        })

-- an order that compares the members of a list alike puts them in the same order
module _ {K : Type 0} (cmp other : K → K → Ordering) where
  below_alike : (x : K) (ys : List K) → ((y : K) → Contains ys y → other x y ≡ cmp x y)
      → AllByRecursion (λ y. cmp x y ≡ Less) ys → AllByRecursion (λ y. other x y ≡ Less) ys
  below_alike x [] alike below = tt
  below_alike x (y ∷ ys) alike below =
      let tail = below_alike x ys (λ z c. alike z (Contains-tail y z ys c)) below.1 in
      (alike y (Contains-head y ys) ∙ below.0, tail)

  sorted_alike : (xs : List K) → ((x y : K) → Contains xs x → Contains xs y → other x y ≡ cmp x y)
      → IsStrictlySortedBy cmp xs → IsStrictlySortedBy other xs
  unfolding IsStrictlySortedBy
  sorted_alike [] alike sorted = tt
  sorted_alike (x ∷ xs) alike sorted = (
    below_alike x xs (λ y c. alike x y (Contains-head x xs) (Contains-tail x y xs c)) sorted.0,
    sorted_alike xs (λ y z c d. alike y z (Contains-tail x y xs c) (Contains-tail x z xs d)) sorted.1,
  )

  pub in_order_alike : IsExactOrder cmp → IsExactOrder other → (xs : List K)
      → ((x y : K) → Contains xs x → Contains xs y → other x y ≡ cmp x y)
      → in_order cmp xs ≡ in_order other xs
  in_order_alike order others xs alike =
      let lists = in_order_lists cmp order xs in
      in_order_is other others xs (in_order cmp xs) (record {
        sorted = sorted_alike (in_order cmp xs)
            (λ x y c d. alike x y ((lists.each x).0 c) ((lists.each y).0 d)) lists.sorted;
        each = lists.each;
      })
