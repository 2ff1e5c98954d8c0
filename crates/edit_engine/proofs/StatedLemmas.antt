-- Terms that are found, entered and noted for triples: the numbers of these, and how many terms there are
-- then.
use Rattle.std.specs.Prelude.{◌≡◌, ℕ, ◌+◌, ◌-◌, ◌*◌, ◌/◌, ◌<◌, ◌≤◌, Bool, true, false, ◌||◌, nat_le}
use Rattle.std.specs.Prelude.{List, [], ◌∷◌, ◌++◌, length, map, take, Some, if◌then◌else◌}
use Rattle.std.specs.List.{cons_option, list_any}
use Rattle.std.proofs.Common.{Bor, drop, get_or, refl, subst, sym, ap, ◌∙◌, arith, length-append}
use Rattle.std.proofs.Common.{append_assoc}
use Rattle.std.proofs.lemmas.Bool.{le-leb}
use Rattle.std.proofs.lemmas.Grind.{flat_map-append}
use Rattle.std.proofs.lemmas.List.{map-append, take-append-drop, take_more}
use Rattle.std.proofs.lemmas.List.Elements.{filter_map-append}
use Rattle.std.proofs.lemmas.List.Folds.{list_any-append}
use Rattle.shx_term.specs.declared.term.Term.{Term}
use Rattle.shx_term.specs.declared.triple.Triple.{Triple}
use Rattle.shx_term.specs.declared.triple.TermTriple.{TermTriple}
use Rattle.shx_term.specs.TermOrder.{same_term}
use Rattle.shx_term.specs.Pool.{is_held, with_term, with_terms}
use Rattle.shx_term.specs.TripleTerms.{terms_of, numbered, numbered_all, triple_of_numbers}
use Rattle.shx_term.proofs.HeldLemmas.{length-le-with_terms, with_terms-append, with_terms_grow}
use Rattle.graph_view.specs.Graph.{IsKnownTriple}
use Rattle.edit_engine.specs.declared.stated.HeldTerms.{HeldTerms}
use Rattle.edit_engine.specs.inner.Stated.{IsFound, found_triple}
use Rattle.edit_engine.proofs.HeldTripleLemmas.{AreAllHeld, AreAllHeld-entered, numbered_all-more}
use Rattle.edit_engine.proofs.NumberLemmas.{IsKnownTriple-numbers, numbers_from}

-- ---- the numbers of a triple

-- what was found is the triple over its numbers
pub found_numbered : (terms : List Term) (t : TermTriple) (found : HeldTerms) → IsFound terms t found
    → found_triple found ≡ numbered terms t
found_numbered terms t found is = λ i. triple_of_numbers (is.s i) (is.p i) (is.o i)

-- its numbers have terms
pub numbered_known : (terms : List Term) (t : TermTriple) (u : Triple) → numbered terms t ≡ Some u
    → IsKnownTriple terms u
numbered_known terms t u e = IsKnownTriple-numbers terms t u (numbers_from terms t u e)

-- ---- the numbers of some triples

next_taken : {X : Type 0} (xs : List X) (i : ℕ) (x : X) → i < length xs → x ≡ get_or xs i x
    → take (i + 1) xs ≡ take i xs ++ x ∷ []
next_taken xs i x inside at = take_more xs i x inside ∙ ap (λ y. take i xs ++ y ∷ []) (sym at)

-- one triple more
pub numbered_more : (terms : List Term) (xs : List TermTriple) (i : ℕ) (x : TermTriple) (u : Triple)
    → i < length xs → x ≡ get_or xs i x → numbered terms x ≡ Some u
    → numbered_all terms (take (i + 1) xs) ≡ numbered_all terms (take i xs) ++ u ∷ []
numbered_more terms xs i x u inside at is =
    ap (numbered_all terms) (next_taken xs i x inside at)
    ∙ filter_map-append (numbered terms) (take i xs) (x ∷ [])
    ∙ ap (λ o. numbered_all terms (take i xs) ++ cons_option o []) is

-- ---- terms that are entered

-- where there is room for three terms there is for two
pub room_for_two : (terms one : List Term) (s p o : Term) (limit : ℕ) → one ≡ with_term terms s
    → length (with_terms terms (s ∷ (p ∷ (o ∷ [])))) ≤ limit → length (with_term one p) ≤ limit
room_for_two terms one s p o limit is room =
    let more = length-le-with_terms (with_term (with_term terms s) p) (o ∷ []) in
    rw is (omega (arith, more, room))

-- those of one triple more
module _ (terms : List Term) (xs : List TermTriple) (i : ℕ) (x : TermTriple) (inside : i < length xs)
    (at : x ≡ get_or xs i x) where
  abbrev front : List TermTriple
  front = take i xs

  entered_more : with_terms terms (terms_of (take (i + 1) xs))
      ≡ with_terms (with_terms terms (terms_of front)) (terms_of (x ∷ []))
  entered_more =
      ap (λ ys. with_terms terms (terms_of ys)) (next_taken xs i x inside at)
      ∙ ap (with_terms terms) (flat_map-append (λ t. t.s ∷ (t.p ∷ (t.o ∷ []))) front (x ∷ []))
      ∙ with_terms-append terms (terms_of front) (terms_of (x ∷ []))

  pub entered_next : (old new : List Term) → old ≡ with_terms terms (terms_of front)
      → new ≡ with_terms old (terms_of (x ∷ [])) → new ≡ with_terms terms (terms_of (take (i + 1) xs))
  entered_next old new before step =
      step ∙ ap (λ ts. with_terms ts (terms_of (x ∷ []))) before ∙ sym entered_more

  -- there is room for it where there is room for all
  pub room_for_next : (here : List Term) → here ≡ with_terms terms (terms_of front) → (limit : ℕ)
      → length (with_terms terms (terms_of xs)) ≤ limit
      → length (with_terms here (terms_of (x ∷ []))) ≤ limit
  room_for_next here is limit room =
      let first = take (i + 1) xs in
      let rest = drop (i + 1) xs in
      let whole : with_terms terms (terms_of xs)
      ≡ with_terms (with_terms terms (terms_of first)) (terms_of rest) =
      ap (λ ys. with_terms terms (terms_of ys)) (sym (take-append-drop (i + 1) xs))
      ∙ ap (with_terms terms) (flat_map-append (λ t. t.s ∷ (t.p ∷ (t.o ∷ []))) first rest)
      ∙ with_terms-append terms (terms_of first) (terms_of rest) in
      let more = length-le-with_terms (with_terms terms (terms_of first)) (terms_of rest) in
      rw (is, ← entered_more) (omega (arith, ap length whole, more, room))

  -- the triples before it keep their numbers
  pub entered_numbered : (old new : List Term) (u : Triple) → old ≡ with_terms terms (terms_of front)
      → new ≡ with_terms old (terms_of (x ∷ [])) → numbered new x ≡ Some u → (found more : List Triple)
      → found ≡ numbered_all old front → more ≡ found ++ u ∷ [] → more ≡ numbered_all new (take (i + 1) xs)
  entered_numbered old new u before step number found more is pushed =
      let grown = with_terms_grow old (terms_of (x ∷ [])) in
      let held = subst (λ ts. AreAllHeld ts front) (sym before) (AreAllHeld-entered terms front) in
      let stay : numbered_all new front ≡ numbered_all old front =
      ap (λ ts. numbered_all ts front) (step ∙ grown.1) ∙ numbered_all-more old grown.0 front held in
      pushed
      ∙ ap (λ us. us ++ u ∷ []) (is ∙ sym stay)
      ∙ sym (numbered_more new xs i x u inside at number)

-- each adds no more than one
length-with_term : (terms : List Term) (t : Term) → length (with_term terms t) ≤ length terms + 1
length-with_term terms t =
    elim (is_held terms t) as (λ b. length (if b then terms else terms ++ t ∷ []) ≤ length terms + 1) [
      | true ↦ omega arith
      | false ↦ omega (arith, length-append terms (t ∷ []))
    ]

length-with_terms : (terms ts : List Term) → length (with_terms terms ts) ≤ length terms + length ts
length-with_terms terms [] = omega arith
length-with_terms terms (t ∷ ts) =
    omega (arith, length-with_term terms t, length-with_terms (with_term terms t) ts)

length-entered : (terms : List Term) (xs : List TermTriple)
    → length (with_terms terms (terms_of xs)) ≤ length terms + 3 * length xs
length-entered terms xs = omega (arith, length-with_terms terms (terms_of xs), long xs)
  where
    long : (ys : List TermTriple) → length (terms_of ys) ≡ 3 * length ys
    long [] = omega arith
    long (y ∷ ys) = omega (arith, long ys)

-- a test against the places that are left
pub fits_left : (terms : List Term) (xs : List TermTriple) (limit : ℕ) → length terms ≤ limit
    → length xs ≤ (limit - length terms) / 3
    → true ≡ nat_le (length (with_terms terms (terms_of xs))) limit
fits_left terms xs limit within few =
    sym (le-leb (length (with_terms terms (terms_of xs))) limit
    (omega (arith, length-entered terms xs, within, few)))

-- ---- terms that are noted

abbrev pub same_now : Bor Term → Bor Term → Bool
same_now a b = same_term a.now b.now

-- a term that is not held is noted behind the others, unless it is noted already
module _ (terms : List Term) (t : Bor Term) where
  now_among : (ts : List (Bor Term)) → list_any (same_now t) ts ≡ is_held (map (λ u. u.now) ts) t.now
  now_among [] = refl
  now_among (u ∷ us) = ap (λ b. same_term t.now u.now || b) (now_among us)

  pub noted_new : (ts : List (Bor Term)) → is_held terms t.now ≡ false
      → terms ++ map (λ u. u.now) (if list_any (same_now t) ts then ts else ts ++ t ∷ [])
      ≡ with_term (terms ++ map (λ u. u.now) ts) t.now
  noted_new ts new =
      rw (list_any-append (same_term t.now) terms (map (λ u. u.now) ts), new, ← now_among ts)
      (by_test (list_any (same_now t) ts))
    where
      by_test : (b : Bool) → terms ++ map (λ u. u.now) (if b then ts else ts ++ t ∷ [])
          ≡ (if b then terms ++ map (λ u. u.now) ts else (terms ++ map (λ u. u.now) ts) ++ t.now ∷ [])
      by_test true = refl
      by_test false =
          ap (λ us. terms ++ us) (map-append (λ u. u.now) ts (t ∷ []))
          ∙ sym (append_assoc terms (map (λ u. u.now) ts) (t.now ∷ []))
