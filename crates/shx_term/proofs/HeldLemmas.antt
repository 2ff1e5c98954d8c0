-- Terms that are held stay, each at its number, where more are entered behind them.
use Rattle.std.specs.Prelude.{◌≡◌, ℕ, ◌≤◌, ◌<◌, Bool, true, false, List, [], ◌∷◌, ◌++◌, length, position}
use Rattle.std.specs.Prelude.{Some, if◌then◌else◌}
use Rattle.std.specs.List.{list_any, list_all, position_or_len}
use Rattle.std.proofs.Common.{refl, sym, ap, ◌∙◌, append_assoc, append-nil, arith, length-append, lt-ltb}
use Rattle.std.proofs.lemmas.Bool.{and_from, or_left, or_right}
use Rattle.std.proofs.lemmas.Grind.{common_steps}
use Rattle.std.proofs.lemmas.List.Folds.{list_any-append, list_any_at, position_or_len_push}
use Rattle.std.proofs.lemmas.List.Folds.{prefix_len-append}
use Rattle.std.proofs.lemmas.List.Quantifiers.{position-Some}
use Rattle.std.proofs.lemmas.List.Sums.{fold-append}
use Rattle.shx_term.specs.declared.term.Term.{Term}
use Rattle.shx_term.specs.TermOrder.{same_term}
use Rattle.shx_term.specs.inner.TermOrderLaws.{same_term_itself}
use Rattle.shx_term.specs.Pool.{is_held, with_term, with_terms}
use Rattle.shx_term.specs.TripleTerms.{number_in}

-- where some element passes, there is a first
pub place_of_any : {X : Type 0} (p : X → Bool) (xs : List X) → list_any p xs ≡ true
    → position_or_len p xs < length xs
place_of_any p [] e = absurd (cc)
place_of_any p (x ∷ xs) e = grind (arith, common_steps, place_of_any p xs)

-- a place that is found stays
pub position-append : {X : Type 0} (p : X → Bool) (xs ys : List X) → list_any p xs ≡ true
    → position p (xs ++ ys) ≡ position p xs
position-append p xs ys e = grind (arith, common_steps, place_of_any p xs e, prefix_len-append)

pub number_stays : (terms more : List Term) (t : Term) → is_held terms t ≡ true
    → number_in (terms ++ more) t ≡ number_in terms t
number_stays terms more t e = position-append (same_term t) terms more e

pub held_stays : (terms more : List Term) (t : Term) → is_held terms t ≡ true
    → is_held (terms ++ more) t ≡ true
held_stays terms more t e = list_any-append (same_term t) terms more
    ∙ or_left (is_held terms t) (is_held more t) e

pub with_term_grows : (terms : List Term) (t : Term)
    → (more : List Term) × (with_term terms t ≡ terms ++ more)
with_term_grows terms t =
    elim (is_held terms t) as
    (λ b. (more : List Term) × ((if b then terms else terms ++ t ∷ []) ≡ terms ++ more)) [
      | true ↦ ([], sym (append-nil terms))
      | false ↦ (t ∷ [], refl)
    ]

pub with_terms_grow : (terms ts : List Term) → (more : List Term) × (with_terms terms ts ≡ terms ++ more)
with_terms_grow terms [] = ([], sym (append-nil terms))
with_terms_grow terms (t ∷ ts) =
    let first = with_term_grows terms t in
    let rest = with_terms_grow (with_term terms t) ts in
    (first.0 ++ rest.0, rest.1 ∙ ap (λ xs. xs ++ rest.0) first.1 ∙ append_assoc terms first.0 rest.0)

pub with_terms-append : (terms xs ys : List Term)
    → with_terms terms (xs ++ ys) ≡ with_terms (with_terms terms xs) ys
with_terms-append terms xs ys = fold-append with_term terms xs ys

pub length-le-with_terms : (terms ts : List Term) → length terms ≤ length (with_terms terms ts)
length-le-with_terms terms ts =
    let grown = with_terms_grow terms ts in
    omega (arith, ap length grown.1, length-append terms grown.0)

pub held-with_term : (terms : List Term) (t : Term) → is_held (with_term terms t) t ≡ true
held-with_term terms t =
    elim (is_held terms t) as
    (λ b. is_held terms t ≡ b → is_held (if b then terms else terms ++ t ∷ []) t ≡ true) [
      | true ↦ λ held. held
      | false ↦ λ _. list_any-append (same_term t) terms (t ∷ [])
          ∙ or_right (is_held terms t) _ (or_left (same_term t t) false (same_term_itself t))
    ] refl

-- a term that is entered is held from then on
pub held-with_terms : (terms ts : List Term) (t : Term) → is_held terms t ≡ true
    → is_held (with_terms terms ts) t ≡ true
held-with_terms terms ts t e =
    let grown = with_terms_grow terms ts in
    ap (λ xs. is_held xs t) grown.1 ∙ held_stays terms grown.0 t e

pub all_held : (terms ts : List Term) → list_all (is_held (with_terms terms ts)) ts ≡ true
all_held terms [] = refl
all_held terms (t ∷ ts) =
    and_from (is_held (with_terms (with_term terms t) ts) t) _
    (held-with_terms (with_term terms t) ts t (held-with_term terms t)) (all_held (with_term terms t) ts)

held-from_place : (terms : List Term) (t : Term) (id : ℕ) → position (same_term t) terms ≡ Some id
    → is_held terms t ≡ true
held-from_place terms t id e =
    let found = position-Some (same_term t) terms id t e in
    list_any_at (same_term t) terms id t found.0 found.1

-- a number that was found is the term's from then on
pub number_from_place : (terms ts : List Term) (t : Term) (id : ℕ)
    → number_in terms t ≡ Some id → number_in (with_terms terms ts) t ≡ Some id
number_from_place terms ts t id e =
    let grown = with_terms_grow terms ts in
    ap (λ xs. number_in xs t) grown.1 ∙ number_stays terms grown.0 t (held-from_place terms t id e) ∙ e

-- a term that is held has a number
pub number_in-known : (terms : List Term) (t : Term)
    → is_held terms t ≡ true → (id : ℕ) × (id < length terms) × (number_in terms t ≡ Some id)
number_in-known terms t e =
    let place = place_of_any (same_term t) terms e in
    (position_or_len (same_term t) terms, place, rw (lt-ltb _ (length terms) place) refl)

place_of_none : {X : Type 0} (p : X → Bool) (xs : List X) → list_any p xs ≡ false
    → position_or_len p xs ≡ length xs
place_of_none p [] e = refl
place_of_none p (x ∷ xs) e = grind (arith, common_steps, place_of_none p xs)

place_of_next : {X : Type 0} (p : X → Bool) (xs : List X) (x : X) → list_any p xs ≡ false → p x ≡ true
    → position p (xs ++ x ∷ []) ≡ Some (position_or_len p xs)
place_of_next p xs x none passes =
    grind (arith, common_steps, place_of_none p xs none, position_or_len_push, length-append xs (x ∷ []))

-- a term that is entered has the number that it had, or the next one
pub number_entered : (terms : List Term) (t : Term)
    → number_in (with_term terms t) t ≡ Some (position_or_len (same_term t) terms)
number_entered terms t =
    elim (is_held terms t) as
    (λ b. is_held terms t ≡ b
    → number_in (if b then terms else terms ++ t ∷ []) t ≡ Some (position_or_len (same_term t) terms)) [
      | true ↦ λ held. grind (arith, common_steps, place_of_any (same_term t) terms held)
      | false ↦ λ absent. place_of_next (same_term t) terms t absent (same_term_itself t)
    ] refl
