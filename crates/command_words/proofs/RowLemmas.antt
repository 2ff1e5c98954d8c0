-- The rows of matches, by the id of an argument.
use Rattle.std.proofs.Common.{◌≡◌, Bool, true, false, cond, ◌||◌, List, [], ◌∷◌, ◌++◌, Option, Some, None}
use Rattle.std.proofs.Common.{bytes_eq, is_some, option_map, option_and_then, unwrap_or, slice_get, find}
use Rattle.std.proofs.Common.{refl, sym, ap, subst, if◌then◌else◌}
use Rattle.std.proofs.lemmas.Slice.Eq.{bytes_eq-Decides}
use Rattle.clap.specs.Walk.{Row, Text, all_of, first_of, has_row, with_values, without}
use Rattle.clap.specs.declared.builder.value_parser.Reading.{Reading}
use Rattle.clap.specs.declared.parser.matches.ValueSource.{ValueSource}

pub has_row-all_of : (id : Text) (rows : List Row) → has_row id rows ≡ is_some (all_of id rows)
has_row-all_of id [] = refl
has_row-all_of id (r ∷ rs) = go (bytes_eq r.id id) (has_row-all_of id rs)
  where
    go : (b : Bool) → has_row id rs ≡ is_some (all_of id rs)
        → (b || has_row id rs) ≡ is_some
        (option_map (λ (x : Row). x.values) (cond b (Some r) (find (λ x. bytes_eq x.id id) rs)))
    go true e = refl
    go false e = e

pub first_of-all_of : (id : Text) (rows : List Row)
    → first_of id rows ≡ option_and_then (λ values. slice_get values 0) (all_of id rows)
first_of-all_of id rows = go (find (λ x. bytes_eq x.id id) rows)
  where
    go : (o : Option Row) → option_and_then (λ (r : Row). slice_get r.values 0) o
        ≡ option_and_then (λ values. slice_get values 0) (option_map (λ (r : Row). r.values) o)
    go None = refl
    go (Some r) = refl

pub without_absent : (id : Text) (rows : List Row) → all_of id rows ≡ None → without id rows ≡ rows
without_absent id [] e = refl
without_absent id (r ∷ rs) e = go (bytes_eq r.id id) (without_absent id rs) e
  where
    go : (b : Bool) → (all_of id rs ≡ None → without id rs ≡ rs)
        → option_map (λ (x : Row). x.values) (cond b (Some r) (find (λ x. bytes_eq x.id id) rs)) ≡ None
        → (if b then ([] ++ rs) else (r ∷ without id rs)) ≡ r ∷ rs
    go true ih h = absurd cc
    go false ih h = ap (λ xs. r ∷ xs) (ih h)

module _ (id : Text) (how : Reading) (source : ValueSource) (values : List Text) where
  -- the values of an argument follow those that it had
  pub values_of_put : (rows : List Row)
      → all_of id (with_values id how source values rows) ≡ Some (unwrap_or (all_of id rows) [] ++ values)
  values_of_put [] =
      let same : bytes_eq id id ≡ true = (bytes_eq-Decides id id).1 refl in
      rw same refl
  values_of_put (r ∷ rs) = go (bytes_eq r.id id) refl (values_of_put rs)
    where
      go : (b : Bool) → bytes_eq r.id id ≡ b
          → all_of id (with_values id how source values rs) ≡ Some (unwrap_or (all_of id rs) [] ++ values)
          → all_of id (with_values id how source values (r ∷ rs))
          ≡ Some (unwrap_or (all_of id (r ∷ rs)) [] ++ values)
      go true e ih = rw e (rw e refl)
      go false e ih = rw e (rw e ih)

  -- and those of another argument stay
  pub values_of_other : (other : Text) → bytes_eq id other ≡ false → (rows : List Row)
      → all_of other (with_values id how source values rows) ≡ all_of other rows
  values_of_other other apart [] = rw apart refl
  values_of_other other apart (r ∷ rs) = go (bytes_eq r.id id) refl (values_of_other other apart rs)
    where
      elsewhere : (b : Bool) → all_of other (with_values id how source values rs) ≡ all_of other rs
          → option_map (λ (x : Row). x.values)
          (cond b (Some r) (find (λ x. bytes_eq x.id other) (with_values id how source values rs)))
          ≡ option_map (λ (x : Row). x.values) (cond b (Some r) (find (λ x. bytes_eq x.id other) rs))
      elsewhere true ih = refl
      elsewhere false ih = ih

      go : (b : Bool) → bytes_eq r.id id ≡ b
          → all_of other (with_values id how source values rs) ≡ all_of other rs
          → all_of other (with_values id how source values (r ∷ rs)) ≡ all_of other (r ∷ rs)
      go true e ih =
          let not_here : bytes_eq r.id other ≡ false =
          subst (λ t. bytes_eq t other ≡ false) (sym ((bytes_eq-Decides r.id id).0 e)) apart in
          rw e (rw not_here refl)
      go false e ih = rw e (elsewhere (bytes_eq r.id other) ih)
