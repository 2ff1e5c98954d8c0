-- What is kept of numbers while shapes are declared.
use Rattle.std.specs.Prelude.{◌≡◌, ℕ, ◌==◌, ◌<◌, ◌+◌, nat_eq, Bool, true, false, ◌||◌, List, [], ◌∷◌, ◌++◌}
use Rattle.std.specs.Prelude.{◌↔◌, Some, cond, length, take}
use Rattle.std.specs.Cmp.{nat_eq_equiv}
use Rattle.std.specs.List.{list_any}
use Rattle.std.proofs.Common.{refl, sym, ap, ◌∙◌, subst, get_or}
use Rattle.std.proofs.lemmas.Bool.{eqb-true}
use Rattle.std.proofs.lemmas.List.{take_more}
use Rattle.indexmap.specs.IndexMap.{IndexMap, Updates, get}
use Rattle.shx_term.proofs.MemberLemmas.{Contains-test}
use Rattle.graph_view.specs.Graph.{Graph, AllKnown}
use Rattle.path_eval.specs.declared.direction.Direction.TheVariants.{Forward, Backward}
use Rattle.path_eval.specs.Instances.{instance_route, is_instance}
use Rattle.path_eval.specs.Values.{nodes_reached}
use Rattle.path_eval.proofs.MeetsLemmas.{path_lists}
use Rattle.shape_decl.specs.inner.Kept.{Keeps}

-- one more is kept
pub keeps_more : {T S : Type 0} (P : ℕ → T → Type 0) (old new : IndexMap ℕ T S) (k : ℕ) (x : T)
    → Keeps P old → Updates nat_eq old new k (Some x) → P k x → Keeps P new
keeps_more P old new k x kept updates holds n y is =
    elim (nat_eq k n) as
    (λ b. nat_eq k n ≡ b → cond b (Some x) (get nat_eq old n) ≡ Some y → P n y) [
      | true ↦ λ e h.
          let same : x ≡ y = cc in
          subst (λ m. P m y) (eqb-true k n e) (subst (P k) same holds)
      | false ↦ λ e h. kept n y h
    ] refl (sym (updates.0 n) ∙ is)

-- ---- sets of instances

any_last : (test : ℕ → Bool) (xs : List ℕ) (x : ℕ)
    → list_any test (xs ++ x ∷ []) ≡ cond (test x) true (list_any test xs)
any_last test [] x = elim (test x) as (λ b. b || false ≡ cond b true false) [ true ↦ refl | false ↦ refl ]
any_last test (y ∷ xs) x =
    ap (λ b. test y || b) (any_last test xs x)
    ∙ swap (test y) (test x) (list_any test xs)
  where
    swap : (a b c : Bool) → a || cond b true c ≡ cond b true (a || c)
    swap true true c = refl
    swap true false c = refl
    swap false b c = refl

pub any_more : (test : ℕ → Bool) (xs : List ℕ) (i : ℕ) → i < length xs
    → list_any test (take (i + 1) xs) ≡ cond (test (get_or xs i 0)) true (list_any test (take i xs))
any_more test xs i inside =
    ap (list_any test) (take_more xs i 0 inside) ∙ any_last test (take i xs) (get_or xs i 0)

same_test : (a b : Bool) → (a ≡ true) ↔ (b ≡ true) → a ≡ b
same_test true b both = sym (both.0 refl)
same_test false true both = both.1 refl
same_test false false both = refl

-- who is an instance of a class is found from the class
pub found_back : (g : Graph) → AllKnown g → (class n : ℕ)
    → list_any (λ node. node == n) (nodes_reached g Backward instance_route class) ≡ is_instance g n class
found_back g known class n =
    let back = nodes_reached g Backward instance_route class in
    let there = nodes_reached g Forward instance_route n in
    let held = λ (xs : List ℕ) (x : ℕ). Contains-test nat_eq nat_eq_equiv (λ a b. eqb-true a b) xs x in
    let to = (path_lists g known Backward instance_route class).each n in
    let from = (path_lists g known Forward instance_route n).each class in
    (λ i. list_any (λ (node : ℕ). nat_eq_equiv.symm node n i) back)
    ∙ same_test (list_any (nat_eq n) back) (list_any (nat_eq class) there) (
      λ e. (held there class).1 (from.1 (to.0 ((held back n).0 e))),
      λ e. (held back n).1 (to.1 (from.0 ((held there class).0 e))),
    )
