-- The first place at which a test passes, against the first element that passes it.
use Rattle.std.proofs.Common.{◌≡◌, ℕ, suc, ◌+◌, ◌≤◌, List, [], ◌∷◌, Bool, true, false, cond, not, ◌||◌}
use Rattle.std.proofs.Common.{Some, None}
use Rattle.std.proofs.Common.{is_some, length, nat_lt, refl, sym, ◌∙◌, arith}
use Rattle.std.specs.List.{find, list_any, position, position_or_len, slice_get}
use Rattle.std.specs.Option.{unwrap_or}
use Rattle.std.proofs.lemmas.List.Folds.{find_at}
use Rattle.std.proofs.lemmas.Bool.Decides.{nat_tests}
use Rattle.std.proofs.lemmas.Option.{slice_get_past}

is_some-cond : (b : Bool) (n : ℕ) → is_some (cond b (Some n) None) ≡ b
is_some-cond true n = refl
is_some-cond false n = refl

nat_lt-step : (b any : Bool) (n m : ℕ)
    → nat_lt n m ≡ any → nat_lt (cond (not b) (1 + n) 0) (suc m) ≡ (b || any)
nat_lt-step true any n m e = grind (arith, nat_tests)
nat_lt-step false any n m e = grind (arith, nat_tests)

list_any-position_or_len : {X : Type 0} (p : X → Bool) (xs : List X)
    → nat_lt (position_or_len p xs) (length xs) ≡ list_any p xs
list_any-position_or_len p [] = refl
list_any-position_or_len p (x ∷ xs) =
    nat_lt-step (p x) (list_any p xs) (position_or_len p xs) (length xs) (list_any-position_or_len p xs)

pub is_some-position : {X : Type 0} (p : X → Bool) (xs : List X) → is_some (position p xs) ≡ list_any p xs
is_some-position p xs =
    is_some-cond (nat_lt (position_or_len p xs) (length xs)) (position_or_len p xs)
    ∙ list_any-position_or_len p xs

-- where none passes, nothing stands at the length either
pub slice_get-position : {X : Type 0} (p : X → Bool) (xs : List X)
    → slice_get xs (unwrap_or (position p xs) (length xs)) ≡ find p xs
slice_get-position p xs = at (nat_lt (position_or_len p xs) (length xs)) refl ∙ sym (find_at p xs)
  where
    at : (b : Bool) → nat_lt (position_or_len p xs) (length xs) ≡ b
        → slice_get xs (unwrap_or (cond b (Some (position_or_len p xs)) None) (length xs))
        ≡ slice_get xs (position_or_len p xs)
    at true e = refl
    at false e =
        let past : length xs ≤ position_or_len p xs = grind (arith, nat_tests) in
        slice_get_past xs (length xs) (omega arith) ∙ sym (slice_get_past xs (position_or_len p xs) past)
