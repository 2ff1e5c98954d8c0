-- The steps that remove dot segments end: more of them than the input has bytes change nothing.
use Rattle.std.proofs.Common.{◌≡◌, ℕ, ◌≤◌, zero, suc, Bool, true, false, ◌||◌, cond, List, [], ◌∷◌, ◌++◌}
use Rattle.std.proofs.Common.{length, drop, refl, sym, ◌∙◌, arith}
use Rattle.std.specs.Prelude.{codes, nat_eq}
use Rattle.std.specs.List.{starts_with}
use Rattle.std.specs.Cmp.Lexicographic.{pointwise, as_long}
use Rattle.std.proofs.lemmas.List.{append-nil, length-drop}
use Rattle.iri_resolve.specs.DotSegments.{Dots, dot_step, dot_steps, first_segment, without_last_segment}
use Rattle.iri_resolve.specs.inner.Walk.{dots_removed}

pub dot_steps-nil : (n : ℕ) (output : List ℕ)
    → (dot_steps n (record { input = []; output = output })).output ≡ output
dot_steps-nil zero output = refl
dot_steps-nil (suc n) output = dot_steps-nil n (output ++ []) ∙ append-nil output

-- what holds of each choice of a test holds of the choice
choice : (P : Dots → Type 0) (t : Bool) (x y : Dots) → (t ≡ true → P x) → P y → P (cond t x y)
choice P true x y h k = h refl
choice P false x y h k = k

-- what holds of each outcome of a step holds of the step
pub dot_step-cases : (P : Dots → Type 0) (input output : List ℕ)
    → P (record { input = drop 3 input; output = output })
    → P (record { input = drop 2 input; output = output })
    → (pointwise nat_eq input (codes "/.") ≡ true → P (record { input = codes "/"; output = output }))
    → P (record { input = drop 3 input; output = without_last_segment output })
    → (pointwise nat_eq input (codes "/..") ≡ true
    → P (record { input = codes "/"; output = without_last_segment output }))
    → P (record { input = []; output = output })
    → P (record { input = drop (length (first_segment input)) input; output = output ++ first_segment input })
    → P (dot_step (record { input = input; output = output }))
dot_step-cases P input output up here dot back dots none on =
    let begins = λ (front : List ℕ). starts_with nat_eq input front in
    let is = λ (other : List ℕ). pointwise nat_eq input other in
    let last = without_last_segment output in
    let segment = first_segment input in
    let r₁ : Dots = record { input = drop 3 input; output = output } in
    let r₂ : Dots = record { input = drop 2 input; output = output } in
    let r₃ : Dots = record { input = codes "/"; output = output } in
    let r₄ : Dots = record { input = drop 3 input; output = last } in
    let r₅ : Dots = record { input = codes "/"; output = last } in
    let r₆ : Dots = record { input = []; output = output } in
    let r₇ : Dots = record { input = drop (length segment) input; output = output ++ segment } in
    let e₆ = cond (is (codes ".") || is (codes "..")) r₆ r₇ in
    let e₅ = cond (is (codes "/..")) r₅ e₆ in
    let e₄ = cond (begins (codes "/../")) r₄ e₅ in
    let e₃ = cond (is (codes "/.")) r₃ e₄ in
    let e₂ = cond (begins (codes "/./")) r₂ e₃ in
    let e₁ = cond (begins (codes "./")) r₂ e₂ in
    choice P (begins (codes "../")) r₁ e₁ (λ _. up)
    (choice P (begins (codes "./")) r₂ e₂ (λ _. here)
    (choice P (begins (codes "/./")) r₂ e₃ (λ _. here)
    (choice P (is (codes "/.")) r₃ e₄ dot
    (choice P (begins (codes "/../")) r₄ e₅ (λ _. back)
    (choice P (is (codes "/..")) r₅ e₆ dots
    (choice P (is (codes ".") || is (codes "..")) r₆ r₇ (λ _. none) on))))))

pub length-dot_step : (b : ℕ) (bs output : List ℕ)
    → length (dot_step (record { input = b ∷ bs; output = output })).input ≤ length bs
length-dot_step b bs output =
    dot_step-cases (λ d. length d.input ≤ length bs) (b ∷ bs) output
    (omega (arith, length-drop {A = ℕ})) (omega (arith, length-drop {A = ℕ}))
    (λ e. omega (arith, as_long nat_eq (b ∷ bs) (codes "/.") e)) (omega (arith, length-drop {A = ℕ}))
    (λ e. omega (arith, as_long nat_eq (b ∷ bs) (codes "/..") e)) (omega arith)
    (omega (arith, length-drop {A = ℕ}))

pub dot_steps-enough : (n m : ℕ) (input output : List ℕ) → length input ≤ n → length input ≤ m
    → (dot_steps n (record { input = input; output = output })).output ≡
    (dot_steps m (record { input = input; output = output })).output
dot_steps-enough n m [] output h k = dot_steps-nil n output ∙ sym (dot_steps-nil m output)
dot_steps-enough zero m (b ∷ bs) output h k = absurd (omega arith)
dot_steps-enough (suc n) zero (b ∷ bs) output h k = absurd (omega arith)
dot_steps-enough (suc n) (suc m) (b ∷ bs) output h k =
    let next = dot_step (record { input = b ∷ bs; output = output }) in
    let short : length next.input ≤ length bs = length-dot_step b bs output in
    dot_steps-enough n m next.input next.output (omega arith) (omega arith)

-- one step on the way
pub dots_removed-step : (b : ℕ) (bs output : List ℕ)
    → dots_removed (b ∷ bs) output ≡ dots_removed
    (dot_step (record { input = b ∷ bs; output = output })).input
    (dot_step (record { input = b ∷ bs; output = output })).output
unfolding dots_removed
dots_removed-step b bs output =
    let next = dot_step (record { input = b ∷ bs; output = output }) in
    dot_steps-enough (length bs) (length next.input) next.input next.output (length-dot_step b bs output)
    (omega arith)

pub dots_removed-nil : (output : List ℕ) → dots_removed [] output ≡ output
unfolding dots_removed
dots_removed-nil output = refl
