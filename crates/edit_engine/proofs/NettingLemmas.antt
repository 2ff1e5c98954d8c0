-- The edits since which triples are turned are those that have an effect together.
use Rattle.std.proofs.Common.{◌≡◌, ℕ, ◌+◌, ◌<◌, ◌≤◌, Bool, true, false, not, ◌&&◌, ◌||◌, cond, nat_eq}
use Rattle.std.proofs.Common.{List, [], ◌∷◌, ◌++◌, length, drop, get_or, filter, fold, Option, Some, None}
use Rattle.std.proofs.Common.{is_some, IfSome, if◌then◌else◌, refl, sym, ap, ◌∙◌, subst, arith, true≢false}
use Rattle.std.proofs.Common.{append_assoc, append-nil, length-append}
use Rattle.std.specs.Prelude.{Contains, ◌↔◌, IsTrue}
use Rattle.std.specs.Borrow.{Bor}
use Rattle.std.specs.Cmp.{both_ways, nat_eq_equiv}
use Rattle.std.specs.HashMap.{HashMap, IsEmpty}
use Rattle.std.specs.List.{filter_map, list_any}
use Rattle.std.specs.Map.{lookup}
use Rattle.std.specs.Option.{option_eq, unwrap_or}
use Rattle.std.proofs.lemmas.Bool.Decides.{nat_tests}
use Rattle.std.proofs.lemmas.List.{at_drop_all, at_drop_more}
use Rattle.std.proofs.lemmas.List.Elements.{filter_map-append}
use Rattle.std.proofs.lemmas.List.Folds.{list_any-append}
use Rattle.std.proofs.lemmas.Map.Views.{any-filter_same}
use Rattle.shx_term.specs.declared.edit.Edit.{Edit}
use Rattle.shx_term.specs.declared.term.Term.{Term}
use Rattle.shx_term.specs.declared.triple.Triple.{Triple}
use Rattle.shx_term.specs.declared.triple.TermTriple.{TermTriple}
use Rattle.shx_term.specs.Edit.{stated_by}
use Rattle.shx_term.specs.TripleTerms.{numbered, same_term_triple}
use Rattle.shx_term.specs.Triple.{same_triple}
use Rattle.shx_term.specs.inner.TripleLaws.{same_term_triple_equiv, same_term_triple_exact}
use Rattle.shx_term.specs.inner.TripleLaws.{same_triple_equiv, same_triple_exact}
use Rattle.shx_term.proofs.MemberLemmas.{Contains-test}
use Rattle.graph_view.specs.Graph.{Graph}
use Rattle.edit_engine.specs.declared.stated.HeldTerms.{HeldTerms}
use Rattle.edit_engine.specs.Edits.{effects_of, inserted_by, is_of, is_stated, net_of, stands_among}
use Rattle.edit_engine.specs.Edits.{removed_by, turns, with_effect}
use Rattle.edit_engine.specs.inner.Stated.{IsFound, found_triple}
use Rattle.edit_engine.specs.inner.Turned.{Places, is_noted, net_noted, noted_among, nowhere, place_after}
use Rattle.edit_engine.specs.inner.Turned.{places_after, places_in}
use Rattle.edit_engine.proofs.StatedLemmas.{found_numbered}

and_true : (b : Bool) → (b && true) ≡ b
and_true true = refl
and_true false = refl

and_false : (b : Bool) → (b && false) ≡ false
and_false true = refl
and_false false = refl

or_true : (b : Bool) → (b || true) ≡ true
or_true true = refl
or_true false = refl

or_false : (b : Bool) → (b || false) ≡ b
or_false true = refl
or_false false = refl

-- ---- the edits that are noted

module _ (places : Places) where
  pub noted-append : (xs ys : List Edit) (at : ℕ)
      → noted_among places at (xs ++ ys) ≡ noted_among places at xs ++ noted_among places (at + length xs) ys
  noted-append [] ys at = let none : at ≡ at + 0 = omega arith in ap (λ n. noted_among places n ys) none
  noted-append (x ∷ xs) ys at =
      let more : (at + 1) + length xs ≡ at + length (x ∷ xs) = omega arith in
      seam (is_noted places at x) (noted_among places (at + 1) (xs ++ ys)) (noted_among places (at + 1) xs)
      (noted_among places (at + length (x ∷ xs)) ys)
      (noted-append xs ys (at + 1)
      ∙ ap (λ n. noted_among places (at + 1) xs ++ noted_among places n ys) more)
    where
      seam : (b : Bool) (us vs ws : List Edit) → us ≡ vs ++ ws
          → cond b (x ∷ us) us ≡ cond b (x ∷ vs) vs ++ ws
      seam true us vs ws e = ap (λ us. x ∷ us) e
      seam false us vs ws e = e

module _ (places other : Places) where
  noted-filter : (keep : Edit → Bool)
      → ((k : ℕ) (d : Edit) → is_noted other k d ≡ (is_noted places k d && keep d))
      → (xs : List Edit) (at : ℕ) → noted_among other at xs ≡ filter keep (noted_among places at xs)
  noted-filter keep same [] at = refl
  noted-filter keep same (x ∷ xs) at =
      let rest = noted-filter keep same xs (at + 1) in
      (λ i. cond (same at x i) (x ∷ rest i) (rest i))
      ∙ kept (is_noted places at x) (noted_among places (at + 1) xs)
    where
      kept : (b : Bool) (ys : List Edit)
          → cond (b && keep x) (x ∷ filter keep ys) (filter keep ys) ≡ filter keep (cond b (x ∷ ys) ys)
      kept true ys = refl
      kept false ys = refl

  noted-alike : (end : ℕ) → ((k : ℕ) (d : Edit) → k < end → is_noted other k d ≡ is_noted places k d)
      → (xs : List Edit) (at : ℕ) → at + length xs ≤ end
      → noted_among other at xs ≡ noted_among places at xs
  noted-alike end same [] at within = refl
  noted-alike end same (x ∷ xs) at within =
      let rest = noted-alike end same xs (at + 1) (omega (arith, within)) in
      let here = same at x (omega (arith, within)) in
      λ i. cond (here i) (x ∷ rest i) (rest i)

-- ---- the places after an edit that turns its triple

module _ (places : Places) (e : Edit) (at : ℕ) where
  -- the triple is turned since the edit, or since one before
  abbrev pub turned_by_now : Places
  turned_by_now t = if is_of t e then Some (unwrap_or (places t) at) else places t

  -- since the edit
  abbrev pub turned_here : Places
  turned_here t = if is_of t e then Some at else places t

  it_is : (t : TermTriple) → is_of t e ≡ true → stated_by e ≡ t
  it_is t same = same_term_triple_exact (stated_by e) t same

  pub turned_before : is_some (places (stated_by e)) ≡ true → turned_by_now ≡ places
  turned_before held = λ i. λ t. by t (is_of t e) refl i
    where
      stays : (p : Option ℕ) → is_some p ≡ true → Some (unwrap_or p at) ≡ p
      stays None none = absurd (true≢false (sym none))
      stays (Some n) some = refl

      by : (t : TermTriple) (s : Bool) → is_of t e ≡ s
          → (if s then Some (unwrap_or (places t) at) else places t) ≡ places t
      by t true same = stays (places t) (ap (λ u. is_some (places u)) (sym (it_is t same)) ∙ held)
      by t false other = refl

  pub turned_first : is_some (places (stated_by e)) ≡ false → turned_by_now ≡ turned_here
  turned_first free = λ i. λ t. by t (is_of t e) refl i
    where
      comes : (p : Option ℕ) → is_some p ≡ false → Some (unwrap_or p at) ≡ Some at
      comes None none = refl
      comes (Some n) some = absurd (true≢false some)

      by : (t : TermTriple) (s : Bool) → is_of t e ≡ s
          → (if s then Some (unwrap_or (places t) at) else places t) ≡ (if s then Some at else places t)
      by t true same = comes (places t) (ap (λ u. is_some (places u)) (sym (it_is t same)) ∙ free)
      by t false other = refl

-- ---- one edit more

-- these places are noted of the edits so far, which have these effects
record IsNoted (places : Places) (before effects : List Edit) (at : ℕ) : Type 0 where
  place : at ≡ length before
  below : (t : TermTriple) → IfSome (places t) (λ i. i < at)
  among : (t : TermTriple) → list_any (is_of t) effects ≡ is_some (places t)
  noted : noted_among places 0 before ≡ effects

module _ (places : Places) (before effects : List Edit) (at : ℕ) (is : IsNoted places before effects at)
    (e : Edit) where
  one_more : at + 1 ≡ length (before ++ e ∷ [])
  one_more = omega (arith, is.place, length-append before (e ∷ []))

  still_below : (p : Option ℕ) → IfSome p (λ i. i < at) → IfSome p (λ i. i < at + 1)
  still_below None below = tt
  still_below (Some n) below = omega (arith, below)

  itself : is_of (stated_by e) e ≡ true
  itself = same_term_triple_equiv.refl (stated_by e)

  pushed : (other : Places) (b : Bool) → is_noted other at e ≡ b
      → noted_among other 0 (before ++ e ∷ []) ≡ noted_among other 0 before ++ cond b (e ∷ []) []
  pushed other b here =
      let place : 0 + length before ≡ at = omega (arith, is.place) in
      let noted : is_noted other (0 + length before) e ≡ b = ap (λ n. is_noted other n e) place ∙ here in
      noted-append other before (e ∷ []) 0 ∙ ap (λ c. noted_among other 0 before ++ cond c (e ∷ []) []) noted

  -- it changes nothing
  changes_nothing : IsNoted places (before ++ e ∷ []) effects (at + 1)
  changes_nothing = record {
    place = one_more;
    below = λ t. still_below (places t) (is.below t);
    among = is.among;
    noted = pushed places false (elsewhere (places (stated_by e)) (is.below (stated_by e)))
        ∙ append-nil (noted_among places 0 before) ∙ is.noted;
  }
    where
      elsewhere : (p : Option ℕ) → IfSome p (λ i. i < at) → option_eq nat_eq p (Some at) ≡ false
      elsewhere None below = refl
      elsewhere (Some n) below = grind (arith, nat_tests)

  -- its triple is turned by it
  comes_to_turn : is_some (places (stated_by e)) ≡ false
      → IsNoted (turned_here places e at) (before ++ e ∷ []) (effects ++ e ∷ []) (at + 1)
  comes_to_turn free = record {
    place = one_more;
    below = λ t. below t (is_of t e);
    among = λ t. list_any-append (is_of t) effects (e ∷ []) ∙ among t (is_of t e);
    noted = pushed (turned_here places e at) true here
        ∙ ap (λ es. es ++ e ∷ []) (noted-alike places (turned_here places e at) at as_before before 0
        (omega (arith, is.place)) ∙ is.noted);
  }
    where
      below : (t : TermTriple) (s : Bool) → IfSome (if s then Some at else places t) (λ i. i < at + 1)
      below t true = omega arith
      below t false = still_below (places t) (is.below t)

      among : (t : TermTriple) (s : Bool)
          → (list_any (is_of t) effects || (s || false)) ≡ is_some (if s then Some at else places t)
      among t true = or_true (list_any (is_of t) effects)
      among t false = or_false (list_any (is_of t) effects) ∙ is.among t

      here : is_noted (turned_here places e at) at e ≡ true
      here =
          ap (λ s. option_eq nat_eq (if s then Some at else places (stated_by e)) (Some at)) itself
          ∙ nat_eq_equiv.refl at

      none_at : (p : Option ℕ) → is_some p ≡ false → (k : ℕ) → option_eq nat_eq p (Some k) ≡ false
      none_at None none k = refl
      none_at (Some n) some k = absurd (true≢false some)

      by : (k : ℕ) (d : Edit) → k < at → (s : Bool) → is_of (stated_by d) e ≡ s
          → option_eq nat_eq (if s then Some at else places (stated_by d)) (Some k) ≡ is_noted places k d
      by k d less true same =
          let none : is_some (places (stated_by d)) ≡ false =
          ap (λ t. is_some (places t)) (sym (it_is places e at (stated_by d) same)) ∙ free in
          let later : nat_eq at k ≡ false = grind (arith, nat_tests) in
          later ∙ sym (none_at (places (stated_by d)) none k)
      by k d less false other = refl

      as_before : (k : ℕ) (d : Edit) → k < at
          → is_noted (turned_here places e at) k d ≡ is_noted places k d
      as_before k d less = by k d less (is_of (stated_by d) e) refl

  -- its triple is turned no more
  abbrev turned_back : Places
  turned_back t = if is_of t e then None else places t

  abbrev of_another : Edit → Bool
  of_another d = not (is_of (stated_by e) d)

  takes_back : IsNoted turned_back (before ++ e ∷ []) (filter of_another effects) (at + 1)
  takes_back = record {
    place = one_more;
    below = λ t. below t (is_of t e);
    among = λ t.
        any-filter_same (is_of t) of_another (not (is_of t e)) (alike t) effects ∙ among t (is_of t e);
    noted = pushed turned_back false here ∙ append-nil (noted_among turned_back 0 before)
        ∙ noted-filter places turned_back of_another less_noted before 0 ∙ ap (filter of_another) is.noted;
  }
    where
      below : (t : TermTriple) (s : Bool) → IfSome (if s then None else places t) (λ i. i < at + 1)
      below t true = tt
      below t false = still_below (places t) (is.below t)

      alike : (t : TermTriple) (d : Edit) → is_of t d ≡ true → of_another d ≡ not (is_of t e)
      alike t d same =
          ap (λ u. not (same_term_triple u (stated_by e))) (same_term_triple_exact (stated_by d) t same)
          ∙ ap not (same_term_triple_equiv.symm t (stated_by e))

      among : (t : TermTriple) (s : Bool)
          → (not s && list_any (is_of t) effects) ≡ is_some (if s then None else places t)
      among t true = refl
      among t false = is.among t

      here : is_noted turned_back at e ≡ false
      here = ap (λ s. option_eq nat_eq (if s then None else places (stated_by e)) (Some at)) itself

      by : (k : ℕ) (d : Edit) (s : Bool)
          → option_eq nat_eq (if s then None else places (stated_by d)) (Some k)
          ≡ (is_noted places k d && not s)
      by k d true = sym (and_false (is_noted places k d))
      by k d false = sym (and_true (is_noted places k d))

      less_noted : (k : ℕ) (d : Edit) → is_noted turned_back k d ≡ (is_noted places k d && of_another d)
      less_noted k d =
          by k d (is_of (stated_by d) e)
          ∙ ap (λ s. is_noted places k d && not s) (same_term_triple_equiv.symm (stated_by e) (stated_by d))

  noted_more : (g : Graph)
      → IsNoted (place_after g at places e) (before ++ e ∷ []) (with_effect g effects e) (at + 1)
  noted_more g = by (turns g e) (list_any (is_of (stated_by e)) effects) refl
    where
      by : (turned held : Bool) → list_any (is_of (stated_by e)) effects ≡ held
          → IsNoted (λ t. if is_of t e then (if turned then Some (unwrap_or (places t) at) else None)
          else places t) (before ++ e ∷ [])
          (if turned then (if held then effects else effects ++ e ∷ [])
          else filter of_another effects) (at + 1)
      by false held h = takes_back
      by true true h =
          subst (λ ps. IsNoted ps (before ++ e ∷ []) effects (at + 1))
          (sym (turned_before places e at (sym (is.among (stated_by e)) ∙ h))) changes_nothing
      by true false h =
          let free : is_some (places (stated_by e)) ≡ false = sym (is.among (stated_by e)) ∙ h in
          subst (λ ps. IsNoted ps (before ++ e ∷ []) (effects ++ e ∷ []) (at + 1))
          (sym (turned_first places e at free)) (comes_to_turn free)

-- ---- all edits

module _ (g : Graph) where
  noted_all : (edits before effects : List Edit) (places : Places) (at : ℕ) → IsNoted places before effects at
      → noted_among (places_after g at places edits) 0 (before ++ edits) ≡ fold (with_effect g) effects edits
  noted_all [] before effects places at is =
      ap (noted_among places 0) (append-nil before) ∙ is.noted
  noted_all (e ∷ edits) before effects places at is =
      ap (noted_among (places_after g at places (e ∷ edits)) 0) (sym (append_assoc before (e ∷ []) edits))
      ∙ noted_all edits (before ++ e ∷ []) (with_effect g effects e) (place_after g at places e) (at + 1)
      (noted_more places before effects at is e g)

  pub effects_are_noted : (edits : List Edit)
      → noted_among (places_after g 0 nowhere edits) 0 edits ≡ effects_of g edits
  effects_are_noted edits =
      noted_all edits [] [] nowhere 0
      (record { place = refl; below = λ t. tt; among = λ t. refl; noted = refl })

  pub net_is : (edits : List Edit) (places : Places) → places ≡ places_after g 0 nowhere edits
      → net_noted places edits ≡ net_of g edits
  net_is edits places is =
      let same = ap (λ ps. noted_among ps 0 edits) is ∙ effects_are_noted edits in
      λ i. record { added = filter_map inserted_by (same i); removed = filter_map removed_by (same i) }

-- ---- the loops

-- the places are those behind the edits that are left
pub left_places : (g : Graph) (edits : List Edit) (at : ℕ) (e : Edit) (old new : Places) → at < length edits
    → e ≡ get_or edits at e → new ≡ place_after g at old e
    → places_after g (at + 1) new (drop (at + 1) edits) ≡ places_after g at old (drop at edits)
left_places g edits at e old new within is turned =
    ap (λ ps. places_after g (at + 1) ps (drop (at + 1) edits)) turned
    ∙ ap (λ d. places_after g at old (d ∷ drop (at + 1) edits)) is
    ∙ sym (at_drop_more (places_after g at old) edits at e within)

module _ (told : Edit → Option TermTriple) (places : Places) (edits : List Edit) (at : ℕ) where
  -- what is told by the edits that are left and noted
  abbrev pub told_left : List TermTriple
  told_left = filter_map told (noted_among places at (drop at edits))

  pub told_more : (e : Edit) (old new : List TermTriple) (b : Bool) → at < length edits
      → e ≡ get_or edits at e → b ≡ is_noted places at e → new ≡ old ++ filter_map told (cond b (e ∷ []) [])
      → new ++ filter_map told (noted_among places (at + 1) (drop (at + 1) edits)) ≡ old ++ told_left
  told_more e old new b within is noted more =
      let rest = noted_among places (at + 1) (drop (at + 1) edits) in
      ap (λ xs. xs ++ filter_map told rest) more
      ∙ append_assoc old (filter_map told (cond b (e ∷ []) [])) (filter_map told rest)
      ∙ ap (λ xs. old ++ xs) (sym (filter_map-append told (cond b (e ∷ []) []) rest)
      ∙ ap (filter_map told) (by b rest ∙ ap (λ c. cond c (e ∷ rest) rest) noted
      ∙ ap (λ d. noted_among places at (d ∷ drop (at + 1) edits)) is
      ∙ sym (at_drop_more (noted_among places at) edits at e within)))
    where
      by : (b : Bool) (rest : List Edit) → cond b (e ∷ []) [] ++ rest ≡ cond b (e ∷ rest) rest
      by true rest = refl
      by false rest = refl

  pub told_all : (xs all : List TermTriple) → length edits ≤ at → xs ++ told_left ≡ all → xs ≡ all
  told_all xs all past is =
      sym (append-nil xs)
      ∙ ap (λ es. xs ++ filter_map told es) (sym (at_drop_all (noted_among places at) edits at past)) ∙ is

-- ---- whether a triple is there

-- what a search for a triple found is whether it is among them
pub any_where_contained : (triples : List Triple) (t : Triple) (found : Bool)
    → (IsTrue found ↔ Contains triples t) → found ≡ list_any (same_triple t) triples
any_where_contained triples t found says =
    let test = Contains-test same_triple same_triple_equiv same_triple_exact triples t in
    both_ways found (list_any (same_triple t) triples) (λ h. test.1 (says.0 h)) (λ h. says.1 (test.0 h))

-- ... which is whether the graph holds it, where it has the numbers that were found of its terms
pub stated_where_found : (g : Graph) (held : List Term) (t : TermTriple) (found : HeldTerms) (u : Triple)
    (there : Bool) → held ≡ g.terms → IsFound held t found → found_triple found ≡ Some u
    → (IsTrue there ↔ Contains g.triples u) → there ≡ is_stated g t
stated_where_found g held t found u there same is number says =
    any_where_contained g.triples u there says
    ∙ ap (stands_among g.triples)
    (sym number ∙ found_numbered held t found is ∙ ap (λ terms. numbered terms t) same)

-- ---- a map of places that is changed at a triple that was borrowed

module _ (g : Graph) (old new : Places) (at : ℕ) (e : Edit) (stated : Bor TermTriple)
    (is : stated.now ≡ stated_by e) where
  -- whatever the map then has
  abbrev HasThen : Option ℕ → Type 0
  HasThen place =
      (q : Bor TermTriple) → new q.now ≡ cond (same_term_triple stated.now q.now) place (old q.now)

  by_triple : (place : Option ℕ) → HasThen place → (t : TermTriple)
      → new t ≡ cond (is_of t e) place (old t)
  by_triple place has t =
      has (record stated { now = t }) ∙ ap (λ u. cond (same_term_triple u t) place (old t)) is

  now_turned : true ≡ turns g e → turned_by_now old e at ≡ place_after g at old e
  now_turned turns =
      λ i. λ t. cond (is_of t e) (cond (turns i) (Some (unwrap_or (old t) at)) None) (old t)

  pub taken_out : false ≡ turns g e → HasThen None → new ≡ place_after g at old e
  taken_out turns has =
      (λ i. λ t. by_triple None has t i)
      ∙ (λ i. λ t. cond (is_of t e) (cond (turns i) (Some (unwrap_or (old t) at)) None) (old t))

  pub put_in : true ≡ turns g e → false ≡ is_some (old stated.now) → HasThen (Some at)
      → new ≡ place_after g at old e
  put_in turns free has =
      (λ i. λ t. by_triple (Some at) has t i)
      ∙ sym (turned_first old e at (sym (free ∙ ap (λ t. is_some (old t)) is))) ∙ now_turned turns

  pub left_in : true ≡ turns g e → true ≡ is_some (old stated.now) → old ≡ place_after g at old e
  left_in turns held =
      sym (turned_before old e at (sym (held ∙ ap (λ t. is_some (old t)) is))) ∙ now_turned turns

-- an empty map keeps none
pub none_kept : {S : Type 0} (turned : HashMap (Bor TermTriple) ℕ S) → IsEmpty turned
    → places_in turned ≡ nowhere
none_kept turned empty = λ i. λ t. lookup (λ kept. same_term_triple t kept.now) (empty i)
