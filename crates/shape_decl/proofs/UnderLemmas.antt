-- What a node has under one predicate: its objects, and the readings of those that are expected to be lists.
use Rattle.std.specs.Prelude.{◌≡◌, ℕ, ◌==◌, ◌<◌, ◌≤◌, ◌+◌, zero, suc, Bool, true, false, ◌||◌}
use Rattle.std.specs.Prelude.{List, [], ◌∷◌, ◌++◌}
use Rattle.std.specs.Prelude.{Contains, filter, flat_map, if◌then◌else◌, map, length, take, drop, Some}
use Rattle.std.specs.List.{list_any, range_with_len}
use Rattle.std.specs.Option.{option_map}
use Rattle.std.proofs.Common.{refl, sym, ap, ◌∙◌, subst, rules, arith}
use Rattle.std.proofs.lemmas.Bool.{eqb-true}
use Rattle.std.proofs.lemmas.Bool.Decides.{nat_tests}
use Rattle.std.proofs.lemmas.List.{length-map}
use Rattle.std.proofs.lemmas.List.Elements.{All-contains, All-from_recursion}
use Rattle.std.proofs.Math.Seq.{take-append_seam, drop-append_seam}
use Rattle.shx_term.proofs.MemberLemmas.{Contains-head}
use Rattle.shx_term.specs.declared.vocabulary.TheConstants.{SH_PATH, VOCABULARY_LEN}
use Rattle.graph_view.specs.Graph.{objects_of}
use Rattle.shape_decl.specs.Declarations.{ListReading, Values, list_reading, lists_among}
use Rattle.shape_decl.specs.Declarations.{lists_of}
use Rattle.shape_decl.specs.Declarations.{least, path_of, predicates, takes_lists, unless_empty}
use Rattle.shape_decl.specs.Declarations.{values_among, values_of}
use Rattle.shape_decl.specs.Laws.{ListsStandUnderTheirParameters, PathsAreReadFromValues}
use Rattle.shape_decl.specs.Laws.{ValuesStandUnderTheirPredicates}
use Rattle.shape_decl.specs.PathReadings.{path_reading}
use Rattle.shape_decl.specs.Tables.{list_predicates}

-- p is one of the n numbers from first on
among_range : (p first n : ℕ) → first ≤ p → p < first + n
    → list_any (λ q. q == p) (range_with_len first n) ≡ true
among_range p first zero from to = absurd (omega arith)
among_range p first (suc n) from to =
    elim (first == p) as
    (λ b. (first == p) ≡ b → b || list_any (λ q. q == p) (range_with_len (first + 1) n) ≡ true) [
      | true ↦ λ e. refl
      | false ↦ λ e. among_range p (first + 1) n (grind (arith, nat_tests)) (omega arith)
    ] refl

-- of the vocabulary, these predicates take lists
taking_lists : filter takes_lists predicates ≡ list_predicates
unfolding predicates
taking_lists = refl

either_empty : {X : Type 0} (b : Bool) (xs : List X) → xs ≡ [] → (if b then xs else []) ≡ xs
either_empty true xs e = refl
either_empty false xs e = sym e

module _ (objects : ℕ → List ℕ) (p : ℕ) where
  abbrev rows : List ℕ → List Values
  rows ps = flat_map (λ q. unless_empty q (objects q)) ps

  abbrev is_in : List ℕ → Bool
  is_in ps = list_any (λ q. q == p) ps

  here : (q : ℕ) (vs : List ℕ) → objects q ≡ vs → (q == p) ≡ true → objects p ≡ vs
  here q vs is e = ap objects (sym (eqb-true q p e)) ∙ is

  -- ---- values

  values_row : (q : ℕ) (vs ps : List ℕ) → objects q ≡ vs
      → values_among (rows ps) p ≡ (if is_in ps then objects p else [])
      → values_among (unless_empty q vs ++ rows ps) p ≡ (if (q == p) || is_in ps then objects p else [])
  values_row q [] ps is rest =
      elim (q == p) as
      (λ b. (q == p) ≡ b → values_among (rows ps) p ≡ (if b || is_in ps then objects p else [])) [
        | true ↦ λ e. rest ∙ either_empty (is_in ps) (objects p) (here q [] is e)
        | false ↦ λ e. rest
      ] refl
  values_row q (v ∷ vs) ps is rest =
      elim (q == p) as
      (λ b. (q == p) ≡ b
      → (if b then v ∷ vs else values_among (rows ps) p) ≡ (if b || is_in ps then objects p else [])) [
        | true ↦ λ e. sym (here q (v ∷ vs) is e)
        | false ↦ λ e. rest
      ] refl

  values_by : (ps : List ℕ) → values_among (rows ps) p ≡ (if is_in ps then objects p else [])
  values_by [] = refl
  values_by (q ∷ ps) = values_row q (objects q) ps refl (values_by ps)

  -- ---- lists

  module _ (read : ℕ → ListReading) (takes : takes_lists p ≡ true) where
    abbrev readings : List ℕ → List ListReading
    readings ps = flat_map (λ q. map read (objects q)) (filter takes_lists ps)

    abbrev readings_with : Bool → List ℕ → List ℕ → List ListReading
    readings_with b vs ps = if b then map read vs ++ readings ps else readings ps

    readings_more : (q : ℕ) (ps : List ℕ)
        → readings (q ∷ ps) ≡ readings_with (takes_lists q) (objects q) ps
    readings_more q ps =
        elim (takes_lists q) as
        (λ b. flat_map (λ r. map read (objects r))
        (if b then q ∷ filter takes_lists ps else filter takes_lists ps)
        ≡ readings_with b (objects q) ps) [ true ↦ refl | false ↦ refl ]

    -- those of the first values, and those behind them
    front : (vs ps : List ℕ) → take (length vs) (map read vs ++ readings ps) ≡ map read vs
    front vs ps =
        ap (λ n. take n (map read vs ++ readings ps)) (sym (length-map vs read))
        ∙ take-append_seam (map read vs) (readings ps)

    behind : (b : Bool) (vs ps : List ℕ)
        → drop (if b then length vs else 0) (readings_with b vs ps) ≡ readings ps
    behind true vs ps =
        ap (λ n. drop n (map read vs ++ readings ps)) (sym (length-map vs read))
        ∙ drop-append_seam (map read vs) (readings ps)
    behind false vs ps = refl

    none_here : (b : Bool) (ps : List ℕ) → readings_with b [] ps ≡ readings ps
    none_here true ps = refl
    none_here false ps = refl

    lists_row : (q : ℕ) (vs ps : List ℕ) → objects q ≡ vs
        → lists_among (rows ps) (readings ps) p ≡ (if is_in ps then map read (objects p) else [])
        → lists_among (unless_empty q vs ++ rows ps) (readings_with (takes_lists q) vs ps) p
        ≡ (if (q == p) || is_in ps then map read (objects p) else [])
    lists_row q [] ps is rest =
        ap (λ ls. lists_among (rows ps) ls p) (none_here (takes_lists q) ps)
        ∙ (elim (q == p) as
        (λ b. (q == p) ≡ b → lists_among (rows ps) (readings ps) p
        ≡ (if b || is_in ps then map read (objects p) else [])) [
          | true ↦ λ e. rest ∙ either_empty (is_in ps) (map read (objects p)) (ap (map read) (here q [] is e))
          | false ↦ λ e. rest
        ] refl)
    lists_row q (v ∷ vs) ps is rest =
        let lists = readings_with (takes_lists q) (v ∷ vs) ps in
        let skipped = drop (if takes_lists q then length (v ∷ vs) else 0) lists in
        elim (q == p) as
        (λ b. (q == p) ≡ b
        → (if b then take (length (v ∷ vs)) lists else lists_among (rows ps) skipped p)
        ≡ (if b || is_in ps then map read (objects p) else [])) [
          | true ↦ λ e.
              ap (λ t. take (length (v ∷ vs)) (readings_with t (v ∷ vs) ps))
              (ap takes_lists (eqb-true q p e) ∙ takes)
              ∙ front (v ∷ vs) ps ∙ ap (map read) (sym (here q (v ∷ vs) is e))
          | false ↦ λ e. ap (λ ls. lists_among (rows ps) ls p) (behind (takes_lists q) (v ∷ vs) ps) ∙ rest
        ] refl

    lists_by : (ps : List ℕ)
        → lists_among (rows ps) (readings ps) p ≡ (if is_in ps then map read (objects p) else [])
    lists_by [] = refl
    lists_by (q ∷ ps) =
        ap (λ ls. lists_among (rows (q ∷ ps)) ls p) (readings_more q ps)
        ∙ lists_row q (objects q) ps refl (lists_by ps)

-- ---- in a graph

pub values_stand : ValuesStandUnderTheirPredicates
unfolding values_of predicates
values_stand limits g node p within =
    values_by (objects_of g node) p predicates
    ∙ ap (λ (b : Bool). if b then objects_of g node p else [])
    (among_range p 0 VOCABULARY_LEN (omega arith) (omega arith))

of_vocabulary : (p : ℕ) → Contains list_predicates p → p < VOCABULARY_LEN
of_vocabulary p c =
    let P : ℕ → Type 0 = λ q. q < VOCABULARY_LEN in
    All-contains P list_predicates p (All-from_recursion P list_predicates (search rules)) c

taking : (p : ℕ) → Contains list_predicates p → takes_lists p ≡ true
taking p c =
    let P : ℕ → Type 0 = λ q. takes_lists q ≡ true in
    All-contains P list_predicates p (All-from_recursion P list_predicates (search rules)) c

pub lists_stand : ListsStandUnderTheirParameters
unfolding values_of lists_of predicates
lists_stand limits g node p c =
    let objects = objects_of g node in
    let read = list_reading g in
    let takes = taking p c in
    let all = λ (ps : List ℕ). flat_map (λ q. map read (objects q)) ps in
    let in_vocabulary =
    among_range p 0 VOCABULARY_LEN (omega arith) (omega (arith, of_vocabulary p c)) in
    ap (λ (b : Bool). if b then lists_among (values_of g node) (lists_of g node) p else []) takes
    ∙ ap (λ ps. lists_among (values_of g node) (all ps) p) (sym taking_lists)
    ∙ lists_by objects p read takes predicates
    ∙ ap (λ (b : Bool). if b then map read (objects p) else []) in_vocabulary

pub paths_read : PathsAreReadFromValues
unfolding path_of
paths_read limits g node reading is =
    let held = first_of (objects_of g node SH_PATH) is in
    (held.0, subst (λ vs. Contains vs held.0) (sym (values_stand limits g node SH_PATH (omega arith))) held.1)
  where
    first_of : (heads : List ℕ) → option_map (path_reading limits g) (least heads) ≡ Some reading
        → (head : ℕ) × Contains heads head
    first_of [] e = cc
    first_of (head ∷ heads) e = (head, Contains-head head heads)
