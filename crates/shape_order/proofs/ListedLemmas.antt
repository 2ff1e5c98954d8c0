-- Shapes in a row, each once, and the marks of those that are there.
use Rattle.std.specs.Prelude.{◌≡◌, ◌≢◌, ℕ, zero, suc, ◌<◌, ◌≤◌, ◌-◌, ◌↔◌, ◌⊎◌, nat_eq, Bool, true, false}
use Rattle.std.specs.Prelude.{List, [], ◌∷◌, ◌++◌, length, set, take, replicate, IsTrue, Contains}
use Rattle.std.specs.Prelude.{if◌then◌else◌}
use Rattle.std.specs.Cmp.{nat_eq_equiv}
use Rattle.std.specs.List.{list_any}
use Rattle.std.proofs.Common.{refl, sym, ap, ◌∙◌, subst, inl, inr, get_or, arith, rules, ◌||◌, true≢false}
use Rattle.std.proofs.lemmas.Bool.{eqb-true, eqb-false}
use Rattle.std.proofs.lemmas.List.{get_or-set_same, get_or-set_other, take_all}
use Rattle.std.proofs.lemmas.List.Folds.{list_any-append}
use Rattle.std.proofs.lemmas.List.Elements.{Contains-push}
use Rattle.std.proofs.lemmas.Map.Keys.{IsDistinct-push}
use Rattle.shx_term.proofs.MemberLemmas.{Contains-test, Contains-insert}
use Rattle.shape_order.specs.inner.Listed.{IsMarked, with_shape}

-- the test decides
pub held_is : (xs : List ℕ) (x : ℕ) → (list_any (nat_eq x) xs ≡ true) ↔ Contains xs x
held_is xs x = Contains-test nat_eq nat_eq_equiv eqb-true xs x

-- what a test of a mark says
pub told_is : (xs : List ℕ) (x : ℕ) (b : Bool) → b ≡ list_any (nat_eq x) xs → IsTrue b ↔ Contains xs x
told_is xs x b e =
    subst (λ (c : Bool). IsTrue c ↔ Contains xs x) (sym e)
    (elim (list_any (nat_eq x) xs) as (λ b. list_any (nat_eq x) xs ≡ b → IsTrue b ↔ Contains xs x) [
      | true ↦ λ h. (λ _. (held_is xs x).0 h, λ _. refl)
      | false ↦ λ h. (
        λ no_case. absurd (true≢false (sym no_case)),
        λ c. absurd (true≢false (sym ((held_is xs x).1 c) ∙ h)),
      )
    ] refl)

-- a shape more, that was not there
pub IsMarked-add : (held : List Bool) (xs : List ℕ) (x : ℕ) → x < length held → get_or held x false ≡ false
    → IsMarked held xs → IsMarked (set held x true) (xs ++ x ∷ [])
IsMarked-add held xs x within new marked = record {
  told = λ i.
      elim (nat_eq i x) as
      (λ b. nat_eq i x ≡ b → get_or (set held x true) i false ≡ list_any (nat_eq i) (xs ++ x ∷ [])) [
        | true ↦ λ e.
            let same : i ≡ x = eqb-true i x e in
            subst (λ (i : ℕ). get_or (set held x true) i false ≡ list_any (nat_eq i) (xs ++ x ∷ []))
            (sym same) (get_or-set_same held x true false within
            ∙ sym ((held_is (xs ++ x ∷ []) x).1 (Contains-push xs x)))
        | false ↦ λ e.
            let differs : i ≢ x = eqb-false i x e in
            get_or-set_other held x i true false differs ∙ marked.told i
            ∙ sym (list_any-append (nat_eq i) xs (x ∷ [])
            ∙ ap (λ b. list_any (nat_eq i) xs || (b || false)) e ∙ search rules)
      ] refl;
  distinct = IsDistinct-push nat_eq_equiv xs x marked.distinct (sym (marked.told x) ∙ new);
}

-- marks that are not set may be added
pub IsMarked-longer : (held marks : List Bool) (xs : List ℕ)
    → ((i : ℕ) → get_or marks i false ≡ get_or held i false) → IsMarked held xs → IsMarked marks xs
IsMarked-longer held marks xs same marked = record {
  told = λ i. same i ∙ marked.told i;
  distinct = marked.distinct;
}

-- ---- what is there with a shape more

module _ (xs : List ℕ) (x : ℕ) where
  members : (y : ℕ) → Contains (with_shape xs x) y ↔ (Contains xs y ⊎ (y ≡ x))
  members = Contains-insert nat_eq nat_eq_equiv eqb-true xs x

  pub with_shape-cases : (y : ℕ) → Contains (with_shape xs x) y → Contains xs y ⊎ (y ≡ x)
  with_shape-cases y c = (members y).0 c

  pub with_shape-keeps : (y : ℕ) → Contains xs y → Contains (with_shape xs x) y
  with_shape-keeps y c = (members y).1 (inl c)

  pub with_shape-has : Contains (with_shape xs x) x
  with_shape-has = (members x).1 (inr refl)

  -- a shape that is not there
  pub with_shape-new : (Contains xs x → ⊥) → with_shape xs x ≡ xs ++ x ∷ []
  with_shape-new new =
      elim (list_any (nat_eq x) xs) as
      (λ b. list_any (nat_eq x) xs ≡ b → (if b then xs else xs ++ x ∷ []) ≡ xs ++ x ∷ []) [
        | true ↦ λ e. absurd (new ((held_is xs x).0 e))
        | false ↦ λ _. refl
      ] refl

-- ---- marks that were added

replicated_false : (n i : ℕ) → get_or (replicate n false) i false ≡ false
replicated_false zero i = refl
replicated_false (suc n) zero = refl
replicated_false (suc n) (suc i) = replicated_false n i

padded_same : (held : List Bool) (n i : ℕ) → get_or (held ++ replicate n false) i false ≡ get_or held i false
padded_same [] n i = replicated_false n i
padded_same (b ∷ held) n zero = refl
padded_same (b ∷ held) n (suc i) = padded_same held n i

pub resized_same : (held marks : List Bool) (len n : ℕ) → len ≡ length held → len ≤ n
    → marks ≡ take n held ++ replicate (n - len) false
    → (i : ℕ) → get_or marks i false ≡ get_or held i false
resized_same held marks len n is within e i =
    let whole : take n held ≡ held = take_all n held (omega arith) in
    ap (λ m. get_or m i false) (e ∙ ap (λ h. h ++ replicate (n - len) false) whole)
    ∙ padded_same held (n - len) i
