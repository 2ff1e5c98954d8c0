-- What is remembered while pairs are evaluated: one answer more, and what several steps bring.
use Rattle.std.specs.Prelude.{◌≡◌, ℕ, ◌+◌, Bool, true, false, List, [], ◌∷◌, ◌++◌, Option, Some}
use Rattle.std.specs.Prelude.{length, Contains, IsSome, is_some, ◌⊎◌, if◌then◌else◌}
use Rattle.std.specs.List.{IsDistinct}
use Rattle.std.proofs.Common.{refl, sym, ap, ◌∙◌, subst, arith, inl, inr}
use Rattle.std.proofs.lemmas.List.{length-append}
use Rattle.std.proofs.lemmas.List.Elements.{Contains-append_cases, Contains-append_left}
use Rattle.std.proofs.lemmas.List.Elements.{Contains-append_right}
use Rattle.std.proofs.lemmas.Map.Keys.{IsDistinct-cons}
use Rattle.shx_term.proofs.MemberLemmas.{Contains-one, none_in_empty}
use Rattle.graph_view.specs.declared.key.Key.{Key}
use Rattle.graph_view.specs.Graph.{Graph}
use Rattle.graph_view.proofs.PatchedLemmas.{IsDistinct-append}
use Rattle.comp_core.specs.Memo.{Remembered, RemembersAlso, RemembersSame}
use Rattle.comp_core.specs.declared.pair.Pair.{Pair}
use Rattle.comp_core.specs.Pairs.{same_pair, same_pair_equiv, same_pair_exact}
use Rattle.shape_eval.specs.declared.shape.PlanShape.{PlanShape}
use Rattle.shape_eval.specs.Nested.{nested_in}
use Rattle.shape_eval.specs.Recalled.{AreRecalled, AreRight, Brings, IsRecallOf, IsRecalled, IsRightOf}

none_distinct : IsDistinct same_pair []
unfolding IsDistinct
none_distinct = tt

one_distinct : (p : Pair) → IsDistinct same_pair (p ∷ [])
one_distinct p = IsDistinct-cons same_pair p [] tt none_distinct

module _ {N : Type 0} where
  pub Brings-none : (state : Pair → Option (Remembered N)) (n : ℕ) → Brings state state [] n n
  Brings-none state n = record {
    brought = [];
    once = none_distinct;
    counted = omega arith;
    are_among = λ p c. c;
    were_not = λ p c. absurd (none_in_empty p c);
    known = λ p. (λ h. inl h, λ h. elim h [ inl k ↦ k | inr c ↦ absurd (none_in_empty p c) ]);
    stays = λ p h. refl;
  }

  -- among more pairs
  pub Brings-more : {a b : Pair → Option (Remembered N)} {ps : List Pair} {m n : ℕ} (qs : List Pair)
      → ((p : Pair) → Contains ps p → Contains qs p) → Brings a b ps m n → Brings a b qs m n
  Brings-more qs more brings = record {
    brought = brings.brought;
    once = brings.once;
    counted = brings.counted;
    are_among = λ p c. more p (brings.are_among p c);
    were_not = brings.were_not;
    known = brings.known;
    stays = brings.stays;
  }

  -- one step after the other
  pub Brings-then : (a b c : Pair → Option (Remembered N)) (ps : List Pair) (m n k : ℕ) → Brings a b ps m n
      → Brings b c ps n k → Brings a c ps m k
  Brings-then a b c ps m n k first next = record {
    brought = first.brought ++ next.brought;
    once = IsDistinct-append same_pair same_pair_equiv same_pair_exact first.brought next.brought first.once
        next.once (λ p c d. next.were_not p d ((first.known p).1 (inr c)));
    counted =
        let one = first.counted in
        let two = next.counted in
        let long : length (first.brought ++ next.brought) ≡ length first.brought + length next.brought =
        length-append first.brought next.brought in
        omega arith;
    are_among = λ p c. elim (Contains-append_cases first.brought next.brought p c) [
      | inl d ↦ first.are_among p d
      | inr d ↦ next.are_among p d
    ];
    were_not = λ p c h. elim (Contains-append_cases first.brought next.brought p c) [
      | inl d ↦ first.were_not p d h
      | inr d ↦ next.were_not p d ((first.known p).1 (inl h))
    ];
    known = λ p. (
      λ h. elim ((next.known p).0 h) [
        | inl k ↦ elim ((first.known p).0 k) [
          | inl was ↦ inl was
          | inr d ↦ inr (Contains-append_left first.brought next.brought p d)
        ]
        | inr d ↦ inr (Contains-append_right first.brought next.brought p d)
      ],
      λ h. elim h [
        | inl was ↦ (next.known p).1 (inl ((first.known p).1 (inl was)))
        | inr d ↦ elim (Contains-append_cases first.brought next.brought p d) [
          | inl e ↦ (next.known p).1 (inl ((first.known p).1 (inr e)))
          | inr e ↦ (next.known p).1 (inr e)
        ]
      ],
    );
    stays = λ p h. next.stays p ((first.known p).1 (inl h)) ∙ first.stays p h;
  }

  pub RemembersSame-then : (a b c : Pair → Option (Remembered N)) → RemembersSame a b → RemembersSame b c
      → RemembersSame a c
  RemembersSame-then a b c first next = record { each = λ q. next.each q ∙ first.each q }

  -- where the same is remembered, it is right
  pub AreRight-same : (has : N → List Key → Type 0) (shapes : List PlanShape) (g : Graph)
      (old new : Pair → Option (Remembered N)) → RemembersSame old new → AreRight has shapes g old
      → AreRight has shapes g new
  AreRight-same has shapes g old new same right = record {
    each = λ p answer e. right.each p answer (sym (same.each p) ∙ e);
  }

  -- ---- one answer more

  module _ (old new : Pair → Option (Remembered N)) (p : Pair) (answer : Remembered N)
      (also : RemembersAlso old new p answer) where
    recalled_by : (q : Pair) (b : Bool) → same_pair p q ≡ b → new q ≡ (if b then Some answer else old q)
    recalled_by q b e = also.each q ∙ ap (λ c. if c then Some answer else old q) e

    pub recalled_here : new p ≡ Some answer
    recalled_here = recalled_by p true (same_pair_equiv.refl p)

    -- what holds of the answer, and of what was remembered of any other pair, holds now
    pub by_pair : (P : Pair → Option (Remembered N) → Type 0) → P p (Some answer) → (q : Pair)
        → P q (old q) → P q (new q)
    by_pair P here q there = by (same_pair p q) refl
      where
        by : (b : Bool) → same_pair p q ≡ b → P q (new q)
        by true e =
            subst (P q) (sym (recalled_by q true e))
            (subst (λ d. P d (Some answer)) (same_pair_exact p q e) here)
        by false e = subst (P q) (sym (recalled_by q false e)) there

    pub Brings-one : (IsRecalled old p → ⊥) → (n : ℕ) → Brings old new (p ∷ []) n (n + 1)
    Brings-one absent n = record {
      brought = p ∷ [];
      once = one_distinct p;
      counted = omega arith;
      are_among = λ q c. c;
      were_not = λ q c h. absent (subst (IsRecalled old) ((Contains-one p q).0 c) h);
      known = λ q. (
        by_pair (λ d o. IsSome o → IsRecalled old d ⊎ Contains (p ∷ []) d)
            (λ h. inr ((Contains-one p p).1 refl)) q (λ h. inl h),
        λ h. elim h [
          | inl was ↦ by_pair (λ d o. IsSome o) refl q was
          | inr c ↦ subst (IsRecalled new) (sym ((Contains-one p q).0 c)) (ap is_some recalled_here)
        ],
      );
      stays = λ q h. by_pair (λ d o. IsRecalled old d → o ≡ old d)
          (λ was. absurd (absent was)) q (λ was. refl) h;
    }

    module _ (has : N → List Key → Type 0) (shapes : List PlanShape) (g : Graph)
        (right : IsRightOf has shapes g p answer) where
      AreRight-one : AreRight has shapes g old → AreRight has shapes g new
      AreRight-one before = record {
        each = λ q a. by_pair (λ d o. o ≡ Some a → IsRightOf has shapes g d a)
            (λ e. subst (IsRightOf has shapes g p) (Some-is answer a e) right) q (before.each q a);
      }
        where
          Some-is : (x y : Remembered N) → Some x ≡ Some y → x ≡ y
          Some-is x y e = cc

      pub IsRecallOf-one : IsRecallOf has shapes g old → AreRecalled old (nested_in shapes g p)
          → IsRecallOf has shapes g new
      IsRecallOf-one before nested = record {
        right = AreRight-one before.right;
        closed = record {
          each = λ q h.
              let were : AreRecalled old (nested_in shapes g q) =
              by_pair (λ e o. IsSome o → AreRecalled old (nested_in shapes g e)) (λ _. nested) q
              (before.closed.each q) h in
              record { each = λ d c. by_pair (λ e o. IsSome o) refl d (were.each d c) };
        };
      }
