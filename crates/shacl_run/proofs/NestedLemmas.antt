-- Pairs that are evaluated in turn: all that is nested in them is remembered, and each such pair was counted
-- once.
use Rattle.std.specs.Prelude.{◌≡◌, ℕ, ◌+◌, true, List, [], ◌∷◌, ◌++◌, Option, None, is_some, flat_map}
use Rattle.std.specs.Prelude.{Contains, ◌↔◌}
use Rattle.std.specs.Cmp.{both_ways}
use Rattle.std.specs.Map.{lookup}
use Rattle.std.specs.Option.{option_map}
use Rattle.std.specs.Set.{distinct_count, is_member}
use Rattle.std.proofs.Common.{sym, ap, ◌∙◌, subst, inl, inr, append-nil, true≢false}
use Rattle.std.proofs.lemmas.Grind.{flat_map-append}
use Rattle.std.proofs.lemmas.List.Elements.{Contains-append_cases, Contains-append_left}
use Rattle.std.proofs.lemmas.List.Elements.{Contains-append_right}
use Rattle.std.proofs.lemmas.Map.Made.{length-from_keys}
use Rattle.indexmap.specs.IndexMap.{IsEmpty}
use Rattle.shx_term.specs.Members.{SameMembers}
use Rattle.shx_term.proofs.MemberLemmas.{Contains-test, none_in_empty}
use Rattle.shx_term.proofs.SetLemmas.{SameMembers-flat_map, SameMembers-itself}
use Rattle.graph_view.specs.declared.key.Key.{Key}
use Rattle.graph_view.specs.Graph.{Graph}
use Rattle.comp_core.specs.Memo.{Remembered, remembered_of}
use Rattle.comp_core.specs.declared.pair.Pair.{Pair}
use Rattle.comp_core.specs.Pairs.{same_pair, same_pair_equiv, same_pair_exact}
use Rattle.shape_eval.specs.declared.answers.Answers.{Answers}
use Rattle.shape_eval.specs.declared.shape.PlanShape.{PlanShape}
use Rattle.shape_eval.specs.Answered.{answered}
use Rattle.shape_eval.specs.Nested.{nested_in}
use Rattle.shape_eval.specs.Recalled.{AreRecalled, Brings, BringsNested, IsRecallOf, IsRecalled}
use Rattle.shape_eval.proofs.RecalledLemmas.{Brings-more, Brings-none, Brings-then}

-- no answers
pub answered-none : {N : Type 0} (answers : Answers N) → IsEmpty answers.answers → (p : Pair)
    → answered answers p ≡ None
answered-none answers empty p = ap (λ entries. option_map remembered_of (lookup (same_pair p) entries)) empty

not_recalled : {N : Type 0} (old : Pair → Option (Remembered N)) (p : Pair) → old p ≡ None → IsRecalled old p
    → ⊥
not_recalled old p none there = true≢false (sym there ∙ ap is_some none)

module _ {N : Type 0} (has : N → List Key → Type 0) (shapes : List PlanShape) (g : Graph) where
  -- all that is nested in some pairs
  abbrev nested_of : List Pair → List Pair
  nested_of ps = flat_map (nested_in shapes g) ps

  -- nothing is right of any graph
  pub IsRecallOf-none : (old : Pair → Option (Remembered N)) → ((p : Pair) → old p ≡ None)
      → IsRecallOf has shapes g old
  IsRecallOf-none old none = record {
    right = record { each = λ p answer is. absurd (not_recalled old p (none p) (ap is_some is)) };
    closed = record { each = λ p there. absurd (not_recalled old p (none p) there) };
  }

  pub BringsNested-none : (old : Pair → Option (Remembered N)) (n : ℕ) → IsRecallOf has shapes g old
      → BringsNested has shapes g old old [] n n
  BringsNested-none old n is = record {
    remembers = record { recall = is; nested = record { each = λ p c. absurd (none_in_empty p c) } };
    brings = Brings-none old n;
  }

  pub BringsNested-one : (old new : Pair → Option (Remembered N)) (p : Pair) (m n : ℕ)
      → IsRecallOf has shapes g new → AreRecalled new (nested_in shapes g p)
      → Brings old new (nested_in shapes g p) m n → BringsNested has shapes g old new (p ∷ []) m n
  BringsNested-one old new p m n is nested brings =
      let only : nested_of (p ∷ []) ≡ nested_in shapes g p = append-nil (nested_in shapes g p) in
      record {
        remembers = record { recall = is; nested = subst (AreRecalled new) (sym only) nested };
        brings = subst (λ ds. Brings old new ds m n) (sym only) brings;
      }

  -- some pairs behind others
  pub BringsNested-then : (old mid new : Pair → Option (Remembered N)) (ps qs all : List Pair) (m n k : ℕ)
      → all ≡ ps ++ qs → BringsNested has shapes g old mid ps m n → BringsNested has shapes g mid new qs n k
      → BringsNested has shapes g old new all m k
  BringsNested-then old mid new ps qs all m n k is first later =
      let before = nested_of ps in
      let behind = nested_of qs in
      let whole : nested_of all ≡ before ++ behind =
      ap nested_of is ∙ flat_map-append (nested_in shapes g) ps qs in
      record {
        remembers = record {
          recall = later.remembers.recall;
          nested = subst (AreRecalled new) (sym whole) (record {
            each = λ d c. elim (Contains-append_cases before behind d c) [
              | inl e ↦ (later.brings.known d).1 (inl (first.remembers.nested.each d e))
              | inr e ↦ later.remembers.nested.each d e
            ];
          });
        };
        brings = subst (λ ds. Brings old new ds m k) (sym whole)
            (Brings-then old mid new (before ++ behind) m n k
            (Brings-more (before ++ behind) (λ d c. Contains-append_left before behind d c) first.brings)
            (Brings-more (before ++ behind) (λ d c. Contains-append_right before behind d c) later.brings));
      }

  -- in whatever order they come, and however often
  pub BringsNested-same : (old new : Pair → Option (Remembered N)) (ps qs : List Pair) (m n : ℕ)
      → SameMembers ps qs → BringsNested has shapes g old new ps m n
      → BringsNested has shapes g old new qs m n
  BringsNested-same old new ps qs m n same done =
      let nested : SameMembers (nested_of ps) (nested_of qs) =
      SameMembers-flat_map (nested_in shapes g) (nested_in shapes g) ps qs same
      (λ p c. SameMembers-itself (nested_in shapes g p)) in
      record {
        remembers = record {
          recall = done.remembers.recall;
          nested = record { each = λ d c. done.remembers.nested.each d ((nested.each d).1 c) };
        };
        brings = Brings-more (nested_of qs) (λ d c. (nested.each d).0 c) done.brings;
      }

  -- where nothing was remembered before, exactly the nested pairs were counted
  pub nested_counted : (old new : Pair → Option (Remembered N)) → ((p : Pair) → old p ≡ None)
      → (ps : List Pair) (m n : ℕ) → BringsNested has shapes g old new ps m n
      → n ≡ m + distinct_count same_pair (nested_of ps)
  nested_counted old new none ps m n done =
      done.brings.counted
      ∙ ap (λ k. m + k)
      (length-from_keys same_pair_equiv brought (nested_of ps) done.brings.once
      (λ p. both_ways (is_member same_pair brought p) (is_member same_pair (nested_of ps) p)
      (λ e. (among (nested_of ps) p).1 (done.brings.are_among p ((among brought p).0 e)))
      (λ e. (among brought p).1 (is_brought p ((among (nested_of ps) p).0 e)))))
    where
      brought : List Pair
      brought = done.brings.brought

      among : (qs : List Pair) (p : Pair) → (is_member same_pair qs p ≡ true) ↔ Contains qs p
      among qs p = Contains-test same_pair same_pair_equiv same_pair_exact qs p

      is_brought : (p : Pair) → Contains (nested_of ps) p → Contains brought p
      is_brought p c = elim ((done.brings.known p).0 (done.remembers.nested.each p c)) [
        | inl was ↦ absurd (not_recalled old p (none p) was)
        | inr new ↦ new
      ]
