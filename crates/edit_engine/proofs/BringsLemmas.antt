-- Pairs that are evaluated in turn, and what that brings of nested pairs.
use Rattle.std.specs.Prelude.{◌≡◌, ℕ, List, [], ◌∷◌, ◌++◌, Option, flat_map}
use Rattle.std.proofs.Common.{refl, sym, ap, ◌∙◌, subst, append-nil, inl, inr}
use Rattle.std.proofs.lemmas.Grind.{flat_map-append}
use Rattle.std.proofs.lemmas.List.Elements.{Contains-append_cases, Contains-append_left}
use Rattle.std.proofs.lemmas.List.Elements.{Contains-append_right}
use Rattle.shx_term.specs.Members.{SameMembers}
use Rattle.shx_term.proofs.MemberLemmas.{none_in_empty}
use Rattle.graph_view.specs.Graph.{Graph}
use Rattle.comp_core.specs.Memo.{RemembersSame}
use Rattle.comp_core.specs.declared.pair.Pair.{Pair}
use Rattle.shape_eval.specs.declared.shape.PlanShape.{PlanShape}
use Rattle.shape_eval.specs.Nested.{nested_in}
use Rattle.shape_eval.specs.Recalled.{AreRecalled, Brings, IsRecallOf}
use Rattle.shape_eval.proofs.RecalledLemmas.{Brings-more, Brings-none, Brings-then}
use Rattle.read_records.specs.Recall.{Answer}
use Rattle.edit_engine.specs.inner.Recall.{BringsNested}

pub RemembersSame-itself : (state : Pair → Option Answer) → RemembersSame state state
RemembersSame-itself state = record { each = λ q. refl }

module _ {shapes : List PlanShape} {g : Graph} where
  pub BringsNested-none : (state : Pair → Option Answer) (n : ℕ) → IsRecallOf SameMembers shapes g state
      → BringsNested shapes g state state [] n n
  BringsNested-none state n is = record {
    remembers = record { recall = is; nested = record { each = λ p c. absurd (none_in_empty p c) } };
    brings = Brings-none state n;
  }

  pub BringsNested-one : {old new : Pair → Option Answer} (p : Pair) {m n : ℕ}
      → IsRecallOf SameMembers shapes g new → AreRecalled new (nested_in shapes g p)
      → Brings old new (nested_in shapes g p) m n → BringsNested shapes g old new (p ∷ []) m n
  BringsNested-one {old} {new} p {m} {n} is nested brings =
      let only : flat_map (nested_in shapes g) (p ∷ []) ≡ nested_in shapes g p =
      append-nil (nested_in shapes g p) in
      record {
        remembers = record { recall = is; nested = subst (AreRecalled new) (sym only) nested };
        brings = subst (λ ds. Brings old new ds m n) (sym only) brings;
      }

  -- a pair in which all that is nested is remembered brings nothing
  pub BringsNested-still : {state : Pair → Option Answer} (p : Pair) (n : ℕ)
      → IsRecallOf SameMembers shapes g state → AreRecalled state (nested_in shapes g p)
      → BringsNested shapes g state state (p ∷ []) n n
  BringsNested-still {state} p n is nested =
      BringsNested-one p is nested
      (Brings-more (nested_in shapes g p) (λ d c. absurd (none_in_empty d c)) (Brings-none state n))

  -- some pairs behind others
  pub BringsNested-then : {old mid new : Pair → Option Answer} {ps qs all : List Pair} {m n k : ℕ}
      → all ≡ ps ++ qs → BringsNested shapes g old mid ps m n → BringsNested shapes g mid new qs n k
      → BringsNested shapes g old new all m k
  BringsNested-then {old} {mid} {new} {ps} {qs} {all} {m} {n} {k} is first next =
      let nested = flat_map (nested_in shapes g) in
      let before = nested ps in
      let behind = nested qs in
      let whole : nested all ≡ before ++ behind = ap nested is ∙ flat_map-append (nested_in shapes g) ps qs in
      record {
        remembers = record {
          recall = next.remembers.recall;
          nested = subst (AreRecalled new) (sym whole) (record {
            each = λ d c. elim (Contains-append_cases before behind d c) [
              | inl e ↦ (next.brings.known d).1 (inl (first.remembers.nested.each d e))
              | inr e ↦ next.remembers.nested.each d e
            ];
          });
        };
        brings = subst (λ ds. Brings old new ds m k) (sym whole)
            (Brings-then old mid new (before ++ behind) m n k
            (Brings-more (before ++ behind) (λ d c. Contains-append_left before behind d c) first.brings)
            (Brings-more (before ++ behind) (λ d c. Contains-append_right before behind d c) next.brings));
      }

  pub BringsNested-same : {old new : Pair → Option Answer} (ps qs : List Pair) {m n : ℕ} → ps ≡ qs
      → BringsNested shapes g old new ps m n → BringsNested shapes g old new qs m n
  BringsNested-same {old} {new} ps qs {m} {n} same done =
      subst (λ rs. BringsNested shapes g old new rs m n) same done
