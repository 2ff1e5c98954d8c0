-- Whether a number passes a test among the keys of a set that one is inserted into.
use Rattle.std.specs.Prelude.{◌≡◌, ℕ, nat_eq, Bool, true, false, ◌||◌, List, [], ◌∷◌}
use Rattle.std.specs.List.{list_any}
use Rattle.indexmap.specs.IndexSet.{insert_key}
use Rattle.std.proofs.Common.{refl, sym, ap, ◌∙◌}
use Rattle.std.proofs.lemmas.Bool.{eqb-true, false≢true}
use Rattle.std.proofs.lemmas.List.Folds.{list_any-append}

any_of_three : (a b c : Bool) → (a || (b || c)) ≡ ((a || b) || c)
any_of_three true b c = refl
any_of_three false b c = refl

or_neither : (a : Bool) → (a || false) ≡ a
or_neither true = refl
or_neither false = refl

again : (a b : Bool) → (a || b) ≡ ((a || b) || a)
again true b = refl
again false b = sym (or_neither b)

module _ (test : ℕ → Bool) (k : ℕ) where
  -- a number that is there already changes nothing
  held : (ks : List ℕ) → list_any (nat_eq k) ks ≡ true → list_any test ks ≡ (list_any test ks || test k)
  held [] e = absurd (false≢true e)
  held (x ∷ xs) e = go (nat_eq k x) refl (held xs)
    where
      go : (b : Bool) → nat_eq k x ≡ b
          → (list_any (nat_eq k) xs ≡ true → list_any test xs ≡ (list_any test xs || test k))
          → (test x || list_any test xs) ≡ ((test x || list_any test xs) || test k)
      go true is more =
          again (test x) (list_any test xs)
          ∙ ap (λ y. (test x || list_any test xs) || test y) (sym (eqb-true k x is))
      go false is more =
          ap (λ b. test x || b) (more (sym (ap (λ b. b || list_any (nat_eq k) xs) is) ∙ e))
          ∙ any_of_three (test x) (list_any test xs) (test k)

  pub any_inserted : (ks : List ℕ) → list_any test (insert_key nat_eq ks k) ≡ (list_any test ks || test k)
  any_inserted ks = go (list_any (nat_eq k) ks) refl
    where
      go : (b : Bool) → list_any (nat_eq k) ks ≡ b
          → list_any test (insert_key nat_eq ks k) ≡ (list_any test ks || test k)
      go true is = rw is (held ks is)
      go false is =
          rw is (list_any-append test ks (k ∷ []) ∙ ap (λ b. list_any test ks || b) (or_neither (test k)))
