-- Results of the forms that components make are the same under another number of the shape, but for that.
use Rattle.std.specs.Prelude.{◌≡◌, ℕ, zero, suc, Bool, true, false, List, [], ◌∷◌, ◌++◌, map, length}
use Rattle.std.specs.Prelude.{flat_map, replicate, if◌then◌else◌, Some, None}
use Rattle.std.proofs.Common.{refl, sym, ap, ◌∙◌}
use Rattle.std.proofs.Math.Dec.{eqb-suc-zero}
use Rattle.std.proofs.lemmas.List.{map-append}
use Rattle.comp_core.specs.declared.detail.DetailRow.{DetailRow}
use Rattle.comp_core.specs.declared.pair.At.{At}
use Rattle.comp_core.specs.declared.row.ResultRow.{ResultRow}
use Rattle.comp_core.specs.Results.{each_unless, once_if, resting_on, unless}
use Rattle.comp_core.specs.Rows.{detail_of, is_empty, row_over}
use Rattle.plan_swap.specs.Renumbered.{detail_renumbered, row_renumbered, rows_renumbered}
use Rattle.plan_swap.proofs.TurnLemmas.{beside_itself, parts_in_turn}

module _ (f : ℕ → ℕ) where
  abbrev pub at_renumbered : At → At
  at_renumbered at = record { focus = at.focus; shape = f at.shape }

  -- parts that are the same but for numbers make a whole that is
  pub parts_renumber : {A : Type 0} (old new : A → List ResultRow) (xs : List A)
      → ((x : A) → new x ≡ rows_renumbered f (old x))
      → flat_map new xs ≡ rows_renumbered f (flat_map old xs)
  parts_renumber old new xs each =
      parts_in_turn (row_renumbered f) old new xs xs
      (beside_itself (λ x y. new y ≡ rows_renumbered f (old x)) xs (λ x c. each x))

  pub both_renumber : (xs ys cs ds : List ResultRow) → xs ≡ rows_renumbered f cs
      → ys ≡ rows_renumbered f ds → xs ++ ys ≡ rows_renumbered f (cs ++ ds)
  both_renumber xs ys cs ds first second =
      ap (λ rows. rows ++ ys) first ∙ ap (λ rows. rows_renumbered f cs ++ rows) second
      ∙ sym (map-append (row_renumbered f) cs ds)

  pub either_renumbers : (b : Bool) (xs ys cs ds : List ResultRow) → xs ≡ rows_renumbered f cs
      → ys ≡ rows_renumbered f ds → (if b then xs else ys) ≡ rows_renumbered f (if b then cs else ds)
  either_renumbers true xs ys cs ds first second = first
  either_renumbers false xs ys cs ds first second = second

  unless_same : (is_fine : Bool) (kind : ℕ) (at : At) (node : ℕ)
      → unless is_fine kind (at_renumbered at) node ≡ rows_renumbered f (unless is_fine kind at node)
  unless_same true kind at node = refl
  unless_same false kind at node = refl

  pub unless_renumbers : (p q : Bool) (kind : ℕ) (at : At) (node : ℕ) → p ≡ q
      → unless p kind (at_renumbered at) node ≡ rows_renumbered f (unless q kind at node)
  unless_renumbers p q kind at node same =
      ap (λ b. unless b kind (at_renumbered at) node) same ∙ unless_same q kind at node

  pub each_unless_renumbers : (p q : ℕ → Bool) (kind : ℕ) (at : At) (vs : List ℕ) → ((v : ℕ) → p v ≡ q v)
      → each_unless p kind (at_renumbered at) vs ≡ rows_renumbered f (each_unless q kind at vs)
  each_unless_renumbers p q kind at vs same =
      parts_renumber (λ v. unless (q v) kind at v) (λ v. unless (p v) kind (at_renumbered at) v) vs
      (λ v. unless_renumbers (p v) (q v) kind at v (same v))

  once_same : (is_so : Bool) (kind : ℕ) (at : At)
      → once_if is_so kind (at_renumbered at) ≡ rows_renumbered f (once_if is_so kind at)
  once_same true kind at = refl
  once_same false kind at = refl

  pub once_if_renumbers : (p q : Bool) (kind : ℕ) (at : At) → p ≡ q
      → once_if p kind (at_renumbered at) ≡ rows_renumbered f (once_if q kind at)
  once_if_renumbers p q kind at same =
      ap (λ b. once_if b kind (at_renumbered at)) same ∙ once_same q kind at

  pub replicate_renumbers : (n : ℕ) (row : ResultRow)
      → replicate n (row_renumbered f row) ≡ rows_renumbered f (replicate n row)
  replicate_renumbers zero row = refl
  replicate_renumbers (suc n) row = ap (λ rows. row_renumbered f row ∷ rows) (replicate_renumbers n row)

  -- ---- what was found of a node, under other numbers

  pub as_empty : (rows : List ResultRow) → is_empty (rows_renumbered f rows) ≡ is_empty rows
  as_empty [] = refl
  as_empty (row ∷ rows) =
      eqb-suc-zero (length (rows_renumbered f rows)) ∙ sym (eqb-suc-zero (length rows))

  details_renumber : (rows : List ResultRow)
      → map detail_of (rows_renumbered f rows) ≡ map (detail_renumbered f) (map detail_of rows)
  details_renumber [] = refl
  details_renumber (row ∷ rows) = ap (λ ds. detail_renumbered f (detail_of row) ∷ ds) (details_renumber rows)

  -- a result that rests on what was found
  pub resting_renumbers : (new old : List ResultRow) (kind : ℕ) (at : At) (node : ℕ)
      → new ≡ rows_renumbered f old
      → resting_on new kind (at_renumbered at) node ≡ rows_renumbered f (resting_on old kind at node)
  resting_renumbers new old kind at node same =
      ap (λ found. resting_on found kind (at_renumbered at) node) same
      ∙ ap (λ b. resting b (map detail_of (rows_renumbered f old))) (as_empty old)
      ∙ ap (resting (is_empty old)) (details_renumber old)
      ∙ either_renumbers (is_empty old) [] _ [] _ refl refl
    where
      resting : Bool → List DetailRow → List ResultRow
      resting b details =
          if b then [] else row_over details at.focus (Some node) None (f at.shape) kind ∷ []
