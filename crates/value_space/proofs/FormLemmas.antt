-- A text that fits a pattern, and its parts.
use Rattle.std.proofs.Common.{◌≡◌, ℕ, zero, suc, ◌+◌, ◌≤◌, Bool, true, false, cond, eqb, ◌&&◌, List, [], ◌∷◌}
use Rattle.std.proofs.Common.{◌++◌, length, take, drop, refl, ap, ◌∙◌, arith}
use Rattle.std.specs.List.{list_all, take_while}
use Rattle.std.proofs.lemmas.List.Sums.{take_while-cons}
use Rattle.shx_term.specs.NumberForm.{is_digit}
use Rattle.shx_term.specs.MomentForm.{fits}

pub take_while-all : (p : ℕ → Bool) (xs : List ℕ) → list_all p (take_while p xs) ≡ true
take_while-all p [] = refl
take_while-all p (x ∷ xs) =
    ap (list_all p) (take_while-cons p x xs)
    ∙ elim (p x) as (λ b. p x ≡ b → list_all p (cond b (x ∷ take_while p xs) []) ≡ true)
    [ true ↦ (λ e. rw e (take_while-all p xs)) | false ↦ (λ e. refl) ]
    refl

pub and-group : (a b c : Bool) → (a && (b && c)) ≡ ((a && b) && c)
and-group a b c = grind arith

none_more : (n : ℕ) → 0 + n ≡ n
none_more n = omega arith

-- a pattern in two parts
pub fits-append : (ps qs text : List ℕ) (n : ℕ)
    → fits (ps ++ qs) (take (length ps + n) text)
    ≡ (fits ps (take (length ps) text) && fits qs (take n (drop (length ps) text)))
fits-append [] qs text n = ap (λ k. fits qs (take k text)) (none_more n)
fits-append (p ∷ ps) qs [] n =
    let next : suc (length ps) + n ≡ suc (length ps + n) = omega arith in
    ap (λ k. fits (p ∷ (ps ++ qs)) (take k [])) next
fits-append (p ∷ ps) qs (b ∷ bs) n =
    let next : suc (length ps) + n ≡ suc (length ps + n) = omega arith in
    let place = cond (eqb p 48) (is_digit b) (eqb b p) in
    ap (λ k. fits (p ∷ (ps ++ qs)) (take k (b ∷ bs))) next
    ∙ ap (λ t. place && t) (fits-append ps qs bs n)
    ∙ and-group place (fits ps (take (length ps) bs)) (fits qs (take n (drop (length ps) bs)))

take-front : (n m : ℕ) (text : List ℕ) → n ≤ m → take n (take m text) ≡ take n text
take-front zero m text h = refl
take-front (suc n) zero text h = absurd (omega arith)
take-front (suc n) (suc m) [] h = refl
take-front (suc n) (suc m) (b ∷ bs) h = ap (λ xs. b ∷ xs) (take-front n m bs (omega arith))

-- what stands in the first part of a text
pub in_front : (n k m : ℕ) (text : List ℕ) → k + n ≤ m → take n (drop k (take m text)) ≡ take n (drop k text)
in_front n zero m text h = take-front n m text (omega arith)
in_front n (suc k) zero text h = absurd (omega arith)
in_front n (suc k) (suc m) [] h = refl
in_front n (suc k) (suc m) (b ∷ bs) h = in_front n k m bs (omega arith)
