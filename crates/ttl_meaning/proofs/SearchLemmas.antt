-- What is found in a table that goes up by the texts of its rows.
use Rattle.std.proofs.Common.{◌≡◌, ℕ, ◌≤◌, ◌<◌, zero, suc, Bool, false, List, [], ◌∷◌, length, map}
use Rattle.std.proofs.Common.{refl, sym, ap, ◌∙◌, subst, get_or, inl, inr, arith, Some, None}
use Rattle.std.proofs.Common.{Result, Ok, Err, true, true≢false}
use native.Mathlib.Numerals.{unary_clauses}
use Rattle.std.specs.Prelude.{Contains}
use Rattle.std.specs.declared.cmp.Ordering.{Ordering}
use Rattle.std.specs.declared.cmp.Ordering.TheVariants.{Less, Greater}
use Rattle.std.specs.Bool.{Decides}
use Rattle.std.specs.Cmp.Lexicographic.{slice_cmp, nat_list_cmp_total}
use Rattle.std.specs.List.Sorted.{IsStrictlySortedBy, IsSortedBy, IsBinarySearchResult}
use Rattle.std.specs.List.Sorted.{IsNonDecreasingBy, IsSearchInRange}
use Rattle.std.specs.Ordering.{nat_cmp, is_lt, ordering_index, ordering_reverse}
use Rattle.std.specs.Result.{is_ok}
use Rattle.std.specs.Str.{bytes_eq}
use Rattle.std.proofs.lemmas.Cmp.{tied_itself}
use Rattle.std.proofs.lemmas.List.{map-id}
use Rattle.std.proofs.lemmas.List.Elements.{Contains-get_or}
use Rattle.std.proofs.lemmas.List.Sorted.{searchable_from_sorted}
use Rattle.std.proofs.lemmas.Map.Keys.{sorted_tail}
use Rattle.std.proofs.lemmas.Map.Lookups.{exact_bytes}
use Rattle.std.proofs.lemmas.Map.Views.{All-after_first}
use Rattle.std.proofs.lemmas.Slice.Eq.{bytes_eq-Decides}
use Rattle.shx_term.proofs.MemberLemmas.{Contains-map, Contains-cases, Contains-head, Contains-tail}
use Rattle.shx_term.proofs.MemberLemmas.{none_in_empty, each_of_All}
use Rattle.ttl_meaning.specs.declared.document.Prefix.{Prefix}
use Rattle.ttl_meaning.specs.InForce.{binding}
use Rattle.ttl_meaning.specs.Terms.{namespace_of}

abbrev text_cmp : List ℕ → List ℕ → Ordering
text_cmp = slice_cmp nat_cmp

not_back : (a b : List ℕ) → text_cmp a b ≡ Less → is_lt (text_cmp b a) ≡ false
not_back a b e = ap is_lt (nat_list_cmp_total.antisymm b a ∙ ap ordering_reverse e)

less_is_other : (a b : List ℕ) → text_cmp a b ≡ Less → a ≡ b → ⊥
less_is_other a b less same =
    absurd (cc (less, ap (λ c. text_cmp c b) same, tied_itself nat_list_cmp_total b))

greater_is_other : (a b : List ℕ) → text_cmp a b ≡ Greater → a ≡ b → ⊥
greater_is_other a b greater same =
    absurd (cc (greater, ap (λ c. text_cmp c b) same, tied_itself nat_list_cmp_total b))

module _ {X : Type 0} (key : X → List ℕ) where
  -- the first row is before each other
  first_below : (x : X) (ys : List X) → IsStrictlySortedBy text_cmp (map key (x ∷ ys)) → (y : X)
      → Contains ys y → text_cmp (key x) (key y) ≡ Less
  first_below x ys sorted y c =
      each_of_All (λ t. text_cmp (key x) t ≡ Less) (map key ys)
      (All-after_first text_cmp (key x) (map key ys) sorted) (key y) (Contains-map key ys y c)

  ascends : (xs : List X) → IsStrictlySortedBy text_cmp (map key xs)
      → IsSortedBy (λ a b. is_lt (text_cmp (key a) (key b))) xs
  ascends [] sorted k d low high = absurd (omega (arith, high))
  ascends (x ∷ xs) sorted zero d low high =
      not_back (key x) (key (get_or xs 0 d))
      (first_below x xs sorted (get_or xs 0 d) (Contains-get_or xs 0 d (omega (arith, high))))
  ascends (x ∷ xs) sorted (suc k) d low high =
      let behind = ascends xs (sorted_tail text_cmp (key x) (map key xs) sorted) k d (omega arith)
      (omega (arith, high)) in
      simp unary_clauses (simp unary_clauses at behind)

  module _ (xs : List X) (text : List ℕ) where
    abbrev pub IsSearched : Result ℕ ℕ → Type 0
    IsSearched r = IsBinarySearchResult (λ x. text_cmp (key x) text) xs r

    -- the row that was found has the text
    pub found_row : (i : ℕ) (d : X) → IsSearched (Ok i) → key (get_or xs i d) ≡ text
    found_row i d searched = exact_bytes (key (get_or xs i d)) text (searched d)

    -- where none was found, no row has the text
    pub found_none : (i : ℕ) → IsStrictlySortedBy text_cmp (map key xs) → IsSearched (Err i) → (x : X)
        → Contains xs x → key x ≡ text → ⊥
    found_none i sorted searched x c same = below (omega (arith, above))
      where
        rises : IsNonDecreasingBy (λ y. ordering_index (text_cmp (key y) text)) xs
        rises = searchable_from_sorted nat_list_cmp_total key xs text (ascends xs sorted)

        here : key (get_or xs c.0 x) ≡ text
        here = ap key c.2 ∙ same

        below : c.0 < i → ⊥
        below first =
            less_is_other (key (get_or xs c.0 x)) text ((searched rises).0 c.0 x (omega arith) first) here

        above : i ≤ c.0 → ⊥
        above later =
            greater_is_other (key (get_or xs c.0 x)) text ((searched rises).1 c.0 x later c.1) here

-- ---- the namespaces of prefixes

name_test : (a b : List ℕ) → (a ≡ b → ⊥) → bytes_eq a b ≡ false
name_test a b other = by_test (bytes_eq a b) refl
  where
    by_test : (t : Bool) → bytes_eq a b ≡ t → bytes_eq a b ≡ false
    by_test true e = absurd (other ((bytes_eq-Decides a b).0 e))
    by_test false e = e

-- where names go up, a prefix stands for what its row says
pub namespace_held : (p : Prefix) (table : List Prefix)
    → IsStrictlySortedBy text_cmp (map (λ (q : Prefix). q.name) table) → Contains table p
    → namespace_of p.name (map binding table) ≡ Some p.iri
namespace_held p [] sorted c = absurd (none_in_empty p c)
namespace_held p (q ∷ qs) sorted c = elim (Contains-cases q p qs c) [
  | inl e ↦
      subst (λ (r : Prefix). namespace_of r.name (map binding (q ∷ qs)) ≡ Some r.iri) (sym e)
      (rw ((bytes_eq-Decides q.name q.name).1 refl) refl)
  | inr d ↦
      rw (name_test q.name p.name
      (less_is_other q.name p.name (first_below (λ (r : Prefix). r.name) q qs sorted p d)))
      (namespace_held p qs (sorted_tail text_cmp q.name (map (λ (r : Prefix). r.name) qs) sorted) d)
]

-- a prefix without row stands for nothing
pub namespace_none : (name : List ℕ) (table : List Prefix)
    → ((p : Prefix) → Contains table p → p.name ≡ name → ⊥) → namespace_of name (map binding table) ≡ None
namespace_none name [] none = refl
namespace_none name (q ∷ qs) none =
    rw (name_test q.name name (none q (Contains-head q qs)))
    (namespace_none name qs (λ p c. none p (Contains-tail q p qs c)))

-- the namespace of the row that was found
pub namespace_found : (name : List ℕ) (table : List Prefix) (i : ℕ) (p : Prefix)
    → IsStrictlySortedBy text_cmp (map (λ (q : Prefix). q.name) table) → i < length table
    → IsSearched (λ (q : Prefix). q.name) table name (Ok i) → p ≡ get_or table i p
    → namespace_of name (map binding table) ≡ Some p.iri
namespace_found name table i p sorted within searched is =
    let same : p.name ≡ name =
    ap (λ (q : Prefix). q.name) is ∙ found_row (λ (q : Prefix). q.name) table name i p searched in
    subst (λ text. namespace_of text (map binding table) ≡ Some p.iri) same
    (namespace_held p table sorted (i, within, sym is))

-- ---- texts

-- whether a text was found
pub text_found : (texts : List (List ℕ)) (text : List ℕ) (r : Result ℕ ℕ)
    → IsStrictlySortedBy text_cmp texts → IsSearchInRange r (length texts)
    → IsSearched (λ t. t) texts text r → Decides (is_ok r) (Contains texts text)
text_found texts text (Ok i) sorted within searched = (
  λ _.
      subst (Contains texts) (found_row (λ t. t) texts text i [] searched)
      (Contains-get_or texts i [] within),
  λ _. refl,
)
text_found texts text (Err i) sorted within searched = (
  λ e. absurd (true≢false (sym e)),
  λ held.
      absurd (found_none (λ t. t) texts text i
      (subst (IsStrictlySortedBy text_cmp) (sym (map-id texts)) sorted) searched text held refl),
)
