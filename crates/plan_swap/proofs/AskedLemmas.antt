-- What is asked of shapes under old numbers and under new ones.
use Rattle.std.specs.Prelude.{◌≡◌, ◌&&◌, ◌||◌, ℕ, suc, Bool, true, false, not, List, [], ◌∷◌, ◌++◌, filter}
use Rattle.std.specs.Prelude.{flat_map, length, if◌then◌else◌}
use Rattle.std.specs.List.{list_all, list_any}
use Rattle.std.proofs.Common.{refl, ap, ap₂, ◌∙◌}
use Rattle.graph_view.specs.declared.key.Key.{Key}
use Rattle.comp_core.specs.declared.pair.Pair.{Pair}
use Rattle.comp_core.specs.declared.row.ResultRow.{ResultRow}
use Rattle.comp_core.specs.Asking.{asked_keys, conforming_of, conforms, pair_of, pairs_at}
use Rattle.comp_core.specs.Rows.{is_empty}
use Rattle.qualified_shapes.specs.Qualified.{qualified_count, qualifies}
use Rattle.plan_swap.specs.Renumbered.{rows_renumbered}
use Rattle.plan_swap.proofs.RenumberLemmas.{as_empty}
use Rattle.plan_swap.proofs.TurnLemmas.{InTurn}

-- at each node the new shape has the results of the old one, renumbered, which were read from the same keys
pub record AnswersAlike (f : ℕ → ℕ) (m n : Pair → List ResultRow) (r q : Pair → List Key) (i j : ℕ)
    : Type 0 where
  pub rows : (node : ℕ) → n (pair_of node j) ≡ rows_renumbered f (m (pair_of node i))
  pub reads : (node : ℕ) → q (pair_of node j) ≡ r (pair_of node i)

as_many : (b c : Bool) → b ≡ c → (i j : ℕ) (xs ys : List ℕ) → length xs ≡ length ys
    → length (if b then i ∷ xs else xs) ≡ length (if c then j ∷ ys else ys)
as_many true true same i j xs ys long = ap suc long
as_many true false same i j xs ys long = absurd (cc)
as_many false true same i j xs ys long = absurd (cc)
as_many false false same i j xs ys long = long

module _ (f : ℕ → ℕ) (m n : Pair → List ResultRow) (r q : Pair → List Key) where
  abbrev pub AllAnswerAlike : List ℕ → List ℕ → Type 0
  AllAnswerAlike = InTurn (AnswersAlike f m n r q)

  pub conforms_alike : (i j : ℕ) → AnswersAlike f m n r q i j → (v : ℕ) → conforms n v j ≡ conforms m v i
  conforms_alike i j alike v = ap is_empty (alike.rows v) ∙ as_empty f (m (pair_of v i))

  pub all_conform_alike : (is js : List ℕ) → AllAnswerAlike is js → (v : ℕ)
      → list_all (conforms n v) js ≡ list_all (conforms m v) is
  all_conform_alike [] [] alike v = refl
  all_conform_alike [] (j ∷ js) alike v = absurd alike
  all_conform_alike (i ∷ is) [] alike v = absurd alike
  all_conform_alike (i ∷ is) (j ∷ js) alike v =
      ap₂ ◌&&◌ (conforms_alike i j alike.0 v) (all_conform_alike is js alike.1 v)

  pub any_conforms_alike : (is js : List ℕ) → AllAnswerAlike is js → (v : ℕ)
      → list_any (conforms n v) js ≡ list_any (conforms m v) is
  any_conforms_alike [] [] alike v = refl
  any_conforms_alike [] (j ∷ js) alike v = absurd alike
  any_conforms_alike (i ∷ is) [] alike v = absurd alike
  any_conforms_alike (i ∷ is) (j ∷ js) alike v =
      ap₂ ◌||◌ (conforms_alike i j alike.0 v) (any_conforms_alike is js alike.1 v)

  pub conforming_alike : (is js : List ℕ) → AllAnswerAlike is js → (v : ℕ)
      → conforming_of n js v ≡ conforming_of m is v
  conforming_alike [] [] alike v = refl
  conforming_alike [] (j ∷ js) alike v = absurd alike
  conforming_alike (i ∷ is) [] alike v = absurd alike
  conforming_alike (i ∷ is) (j ∷ js) alike v =
      as_many (conforms n v j) (conforms m v i) (conforms_alike i j alike.0 v) j i
      (filter (conforms n v) js) (filter (conforms m v) is) (conforming_alike is js alike.1 v)

  pub qualified_alike : (i j : ℕ) → AnswersAlike f m n r q i j → (is js : List ℕ) → AllAnswerAlike is js
      → (vs : List ℕ) → qualified_count n j js vs ≡ qualified_count m i is vs
  qualified_alike i j first is js alike [] = refl
  qualified_alike i j first is js alike (v ∷ vs) =
      as_many (qualifies n j js v) (qualifies m i is v)
      (ap₂ ◌&&◌ (conforms_alike i j first v) (ap not (any_conforms_alike is js alike v))) v v
      (filter (qualifies n j js) vs) (filter (qualifies m i is) vs) (qualified_alike i j first is js alike vs)

  keys_alike : (is js : List ℕ) → AllAnswerAlike is js → (v : ℕ)
      → flat_map q (pairs_at js v) ≡ flat_map r (pairs_at is v)
  keys_alike [] [] alike v = refl
  keys_alike [] (j ∷ js) alike v = absurd alike
  keys_alike (i ∷ is) [] alike v = absurd alike
  keys_alike (i ∷ is) (j ∷ js) alike v = ap₂ ◌++◌ (alike.0.reads v) (keys_alike is js alike.1 v)

  pub asked_keys_alike : (is js : List ℕ) → AllAnswerAlike is js → (vs : List ℕ)
      → asked_keys q js vs ≡ asked_keys r is vs
  asked_keys_alike is js alike [] = refl
  asked_keys_alike is js alike (v ∷ vs) =
      ap₂ ◌++◌ (keys_alike is js alike v) (asked_keys_alike is js alike vs)
