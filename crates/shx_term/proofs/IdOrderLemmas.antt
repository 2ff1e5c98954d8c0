-- The order of numbers by their terms is total and exact, and stays where more terms are entered.
use Rattle.std.specs.Prelude.{◌≡◌, ℕ, ◌<◌, List, [], ◌∷◌, ◌++◌, length, slice_get, Contains, ◌↔◌}
use Rattle.std.specs.Ordering.{nat_cmp}
use Rattle.std.specs.Option.{option_cmp}
use Rattle.std.specs.Cmp.{IsTotalOrder, nat_cmp_total, on_total, then_total}
use Rattle.std.specs.Cmp.Lexicographic.{options_total}
use Rattle.std.proofs.Common.{refl, arith, zero, suc}
use Rattle.std.proofs.lemmas.Map.Lookups.{CmpEqualImpliesEq, exact_unsigned}
use Rattle.shx_term.specs.declared.term.Term.{Term}
use Rattle.shx_term.specs.InOrder.{IsExactOrder, Lists}
use Rattle.shx_term.proofs.InOrderLemmas.{exact-then, in_order_lists, in_order_is, in_order_same}
use Rattle.shx_term.proofs.InOrderLemmas.{in_order_alike}
use Rattle.shx_term.specs.TermOrder.{term_cmp}
use Rattle.shx_term.specs.inner.TermOrderLaws.{term_cmp_total}
use Rattle.shx_term.specs.IdOrder.{id_cmp, in_term_order}

pub id_cmp_total : (terms : List Term) → IsTotalOrder (id_cmp terms)
id_cmp_total terms = then_total (on_total (slice_get terms) (options_total term_cmp_total)) nat_cmp_total

-- numbers that compare as equal are one
pub id_cmp_exact : (terms : List Term) → CmpEqualImpliesEq (id_cmp terms)
id_cmp_exact terms =
    exact-then (λ a b. option_cmp term_cmp (slice_get terms a) (slice_get terms b)) nat_cmp exact_unsigned

pub id_order : (terms : List Term) → IsExactOrder (id_cmp terms)
id_order terms = record { total = id_cmp_total terms; exact = id_cmp_exact terms }

pub in_term_order_lists : (terms : List Term) (ids : List ℕ)
    → Lists (id_cmp terms) (Contains ids) (in_term_order terms ids)
in_term_order_lists terms = in_order_lists (id_cmp terms) (id_order terms)

pub in_term_order_is : (terms : List Term) (ids xs : List ℕ) → Lists (id_cmp terms) (Contains ids) xs
    → xs ≡ in_term_order terms ids
in_term_order_is terms = in_order_is (id_cmp terms) (id_order terms)

pub in_term_order_same : (terms : List Term) (ids others : List ℕ)
    → ((y : ℕ) → Contains ids y ↔ Contains others y) → in_term_order terms ids ≡ in_term_order terms others
in_term_order_same terms = in_order_same (id_cmp terms) (id_order terms)

pub slice_get-append : {X : Type 0} (xs more : List X) (i : ℕ) → i < length xs
    → slice_get (xs ++ more) i ≡ slice_get xs i
slice_get-append [] more i inside = absurd (omega (arith, inside))
slice_get-append (x ∷ xs) more zero inside = refl
slice_get-append (x ∷ xs) more (suc i) inside = slice_get-append xs more i (omega (arith, inside))

-- numbers that have terms compare alike where more terms are entered behind these
pub id_cmp-append : (terms more : List Term) (a b : ℕ) → a < length terms → b < length terms
    → id_cmp (terms ++ more) a b ≡ id_cmp terms a b
id_cmp-append terms more a b known_a known_b =
    rw (slice_get-append terms more a known_a, slice_get-append terms more b known_b) refl

-- so their lists stay in the same order
pub in_term_order-append : (terms more : List Term) (ids : List ℕ)
    → ((id : ℕ) → Contains ids id → id < length terms)
    → in_term_order terms ids ≡ in_term_order (terms ++ more) ids
in_term_order-append terms more ids known =
    in_order_alike (id_cmp terms) (id_cmp (terms ++ more)) (id_order terms) (id_order (terms ++ more)) ids
    (λ a b c d. id_cmp-append terms more a b (known a c) (known b d))
