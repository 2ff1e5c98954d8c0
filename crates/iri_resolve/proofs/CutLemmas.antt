-- Where a list is cut at the first element that passes a test.
use Rattle.std.proofs.Common.{◌≡◌, ℕ, suc, ◌<◌, Bool, true, false, not, cond, ◌||◌, List, [], ◌∷◌, ◌++◌}
use Rattle.std.proofs.Common.{length, get_or, drop, refl, sym, ap, ◌∙◌, arith}
use Rattle.std.specs.List.{list_any, position_or_len, before_first, after_first}
use Rattle.std.proofs.lemmas.Bool.{or_parts, or_from, not-false}
use Rattle.std.proofs.Math.Seq.{take-length, drop-length, take-append_seam, drop-append-add}
use Rattle.std.proofs.Math.ListN.{drop_of_length-le}
use Rattle.std.proofs.lemmas.List.Folds.{length-prefix_len}
use Rattle.std.proofs.lemmas.List.Sums.{prefix_len_stops}
use Rattle.std.proofs.lemmas.List.{take-append-drop, drop_more}
use Rattle.iri_resolve.specs.Parts.{from_first}

-- one element more in front, which passes or does not
pub position_or_len-yes : {A : Type 0} (p : A → Bool) (x : A) (xs : List A) → p x ≡ true
    → position_or_len p (x ∷ xs) ≡ 0
position_or_len-yes p x xs h = rw h refl

pub position_or_len-no : {A : Type 0} (p : A → Bool) (x : A) (xs : List A) → p x ≡ false
    → position_or_len p (x ∷ xs) ≡ suc (position_or_len p xs)
position_or_len-no p x xs h = rw h (omega arith)

pub list_any-none : {A : Type 0} (p : A → Bool) (xs : List A) → position_or_len p xs ≡ length xs
    → list_any p xs ≡ false
list_any-none p [] h = refl
list_any-none p (x ∷ xs) h =
    grind (arith, position_or_len-yes p x xs, position_or_len-no p x xs, list_any-none p xs)

-- where none passes, the whole list stands before
pub position_or_len-none : {A : Type 0} (p : A → Bool) (xs : List A) → list_any p xs ≡ false
    → position_or_len p xs ≡ length xs
position_or_len-none p [] h = refl
position_or_len-none p (x ∷ xs) h =
    let parts = or_parts (p x) (list_any p xs) h in
    position_or_len-no p x xs parts.0 ∙ ap suc (position_or_len-none p xs parts.1)

-- a list in which none passes, and then one that does
pub position_or_len-at : {A : Type 0} (p : A → Bool) (xs : List A) (y : A) (ys : List A)
    → list_any p xs ≡ false → p y ≡ true → position_or_len p (xs ++ (y ∷ ys)) ≡ length xs
position_or_len-at p [] y ys h t = position_or_len-yes p y ys t
position_or_len-at p (x ∷ xs) y ys h t =
    let parts = or_parts (p x) (list_any p xs) h in
    position_or_len-no p x (xs ++ (y ∷ ys)) parts.0 ∙ ap suc (position_or_len-at p xs y ys parts.1 t)

pub before_first-none : {A : Type 0} (p : A → Bool) (xs : List A) → list_any p xs ≡ false
    → before_first p xs ≡ xs
before_first-none p xs h = rw (position_or_len-none p xs h) (take-length xs)

pub before_first-at : {A : Type 0} (p : A → Bool) (xs : List A) (y : A) (ys : List A) → list_any p xs ≡ false
    → p y ≡ true → before_first p (xs ++ (y ∷ ys)) ≡ xs
before_first-at p xs y ys h t = rw (position_or_len-at p xs y ys h t) (take-append_seam xs (y ∷ ys))

pub after_first-none : {A : Type 0} (p : A → Bool) (xs : List A) → list_any p xs ≡ false
    → after_first p xs ≡ []
after_first-none p xs h = rw (position_or_len-none p xs h) (drop_of_length-le xs (omega arith))

pub after_first-at : {A : Type 0} (p : A → Bool) (xs : List A) (y : A) (ys : List A) → list_any p xs ≡ false
    → p y ≡ true → after_first p (xs ++ (y ∷ ys)) ≡ ys
after_first-at p xs y ys h t = rw (position_or_len-at p xs y ys h t) (drop-append-add xs (y ∷ ys) 1)

-- none passes before the first that does
before_first-cons : {A : Type 0} (p : A → Bool) (x : A) (xs : List A) (t : Bool) → p x ≡ t
    → list_any p (before_first p xs) ≡ false → list_any p (before_first p (x ∷ xs)) ≡ false
before_first-cons p x xs true h rest = rw (position_or_len-yes p x xs h) refl
before_first-cons p x xs false h rest = rw (position_or_len-no p x xs h) (or_from (p x) _ h rest)

pub list_any-before_first : {A : Type 0} (p : A → Bool) (xs : List A) → list_any p (before_first p xs) ≡ false
list_any-before_first p [] = refl
list_any-before_first p (x ∷ xs) = before_first-cons p x xs _ refl (list_any-before_first p xs)

pub from_first-drop : (p : ℕ → Bool) (xs : List ℕ) → from_first p xs ≡ drop (position_or_len p xs) xs
from_first-drop p xs = ap (λ n. drop n xs) (length-prefix_len (λ x. not (p x)) xs)

pub from_first-none : (p : ℕ → Bool) (xs : List ℕ) → list_any p xs ≡ false → from_first p xs ≡ []
from_first-none p xs h = from_first-drop p xs ∙ rw (position_or_len-none p xs h) (drop-length xs)

pub from_first-yes : (p : ℕ → Bool) (x : ℕ) (xs : List ℕ) → p x ≡ true → from_first p (x ∷ xs) ≡ x ∷ xs
from_first-yes p x xs h = from_first-drop p (x ∷ xs) ∙ rw (position_or_len-yes p x xs h) refl

pub from_first-no : (p : ℕ → Bool) (x : ℕ) (xs : List ℕ) → p x ≡ false
    → from_first p (x ∷ xs) ≡ from_first p xs
from_first-no p x xs h = from_first-drop p (x ∷ xs)
    ∙ rw (position_or_len-no p x xs h) (sym (from_first-drop p xs))

from_first-append-cons : (p : ℕ → Bool) (x : ℕ) (xs ys : List ℕ) (t : Bool) → p x ≡ t
    → from_first p (xs ++ ys) ≡ cond (list_any p xs) (from_first p xs ++ ys) (from_first p ys)
    → from_first p (x ∷ (xs ++ ys)) ≡ cond (p x || list_any p xs) (from_first p (x ∷ xs) ++ ys)
    (from_first p ys)
from_first-append-cons p x xs ys true h rest = from_first-yes p x (xs ++ ys) h
    ∙ rw (from_first-yes p x xs h, h) refl
from_first-append-cons p x xs ys false h rest = from_first-no p x (xs ++ ys) h ∙ rest
    ∙ rw (from_first-no p x xs h, h) refl

-- from the first that passes on, in two lists one behind the other
pub from_first-append : (p : ℕ → Bool) (xs ys : List ℕ)
    → from_first p (xs ++ ys) ≡ cond (list_any p xs) (from_first p xs ++ ys) (from_first p ys)
from_first-append p [] ys = refl
from_first-append p (x ∷ xs) ys = from_first-append-cons p x xs ys _ refl (from_first-append p xs ys)

-- the first that passes stands between what is before it and what is after
pub before_first-after_first : (p : ℕ → Bool) (xs : List ℕ) → position_or_len p xs < length xs
    → xs ≡ before_first p xs ++ (get_or xs (position_or_len p xs) 0 ∷ after_first p xs)
before_first-after_first p xs inside =
    sym (take-append-drop (position_or_len p xs) xs)
    ∙ ap (λ (l : List ℕ). before_first p xs ++ l) (drop_more xs (position_or_len p xs) 0 inside)

pub passes-at : (p : ℕ → Bool) (xs : List ℕ) → position_or_len p xs < length xs
    → p (get_or xs (position_or_len p xs) 0) ≡ true
passes-at p xs inside = not-false _ (prefix_len_stops (λ x. not (p x)) xs 0 inside)
