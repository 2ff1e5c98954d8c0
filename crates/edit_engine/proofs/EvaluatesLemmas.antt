-- Pairs that are evaluated in turn.
use Rattle.std.specs.Prelude.{◌≡◌, ℕ, ◌+◌, ◌<◌, Bool, true, false, not, List, [], ◌∷◌, ◌++◌, filter}
use Rattle.std.specs.Prelude.{flat_map, length, take, All, Contains, if◌then◌else◌}
use Rattle.std.proofs.Common.{refl, sym, ap, ◌∙◌, subst, get_or, append_assoc, append-nil, arith}
use Rattle.std.proofs.Common.{length-append}
use Rattle.std.proofs.lemmas.Grind.{flat_map-append}
use Rattle.std.proofs.lemmas.List.{map-append, take_more}
use Rattle.std.proofs.lemmas.List.Elements.{All-append, filter-append}
use Rattle.shx_term.proofs.MemberLemmas.{All_of_each, Contains-at, Contains-filter, Contains-flat_map}
use Rattle.shx_term.proofs.MemberLemmas.{Contains-one, each_of_All, none_in_empty}
use Rattle.graph_view.specs.Graph.{Graph}
use Rattle.comp_core.specs.declared.pair.Pair.{Pair}
use Rattle.shape_eval.specs.declared.shape.PlanShape.{PlanShape}
use Rattle.read_records.specs.declared.reader.Reader.{Reader}
use Rattle.read_records.specs.declared.reader.Reader.TheVariants.{OfPair, OfTarget}
use Rattle.read_records.specs.Reader.{reader_kind}
use Rattle.edit_engine.specs.declared.renewal.Evaluated.{Evaluated}
use Rattle.edit_engine.specs.Renewal.{IsRight}
use Rattle.edit_engine.specs.Touched.{is_among_pairs}
use Rattle.edit_engine.specs.inner.Parts.{Evaluates, pairs_staying, reader_pairs}

module _ {shapes : List PlanShape} {g : Graph} where
  pub Evaluates-none : (old : List Evaluated) → Evaluates shapes g old old []
  Evaluates-none old = record {
    more = [];
    new_is = sym (append-nil old);
    pairs = refl;
    right = All_of_each (IsRight shapes g) [] (λ e c. absurd (none_in_empty e c));
  }

  -- one pair more
  pub Evaluates-more : {old mid : List Evaluated} {ps : List Pair} (p : Pair) (e : Evaluated) → e.pair ≡ p
      → IsRight shapes g e → Evaluates shapes g old mid ps
      → Evaluates shapes g old (mid ++ e ∷ []) (ps ++ p ∷ [])
  Evaluates-more {old} {mid} {ps} p e is right before = record {
    more = before.more ++ e ∷ [];
    new_is = ap (λ es. es ++ e ∷ []) before.new_is ∙ append_assoc old before.more (e ∷ []);
    pairs = map-append (λ (x : Evaluated). x.pair) before.more (e ∷ [])
        ∙ ap (λ qs. qs ++ e.pair ∷ []) before.pairs
        ∙ ap (λ q. ps ++ q ∷ []) is;
    right = All-append (IsRight shapes g) before.more (e ∷ []) before.right
        (All_of_each (IsRight shapes g) (e ∷ []) (λ x c.
        subst (IsRight shapes g) (sym ((Contains-one e x).0 c)) right));
  }

-- so many pairs were evaluated, each of which counts a step
pub record HasEvaluated (shapes : List PlanShape) (g : Graph) (old : List Evaluated) (start : ℕ)
    (new : List Evaluated) (now : ℕ) (ps : List Pair) : Type 0 where
  pub evaluated : Evaluates shapes g old new ps
  pub steps : now ≡ start + length ps

module _ {shapes : List PlanShape} {g : Graph} where
  pub HasEvaluated-none : (old : List Evaluated) (start : ℕ) → HasEvaluated shapes g old start old start []
  HasEvaluated-none old start = record { evaluated = Evaluates-none old; steps = omega arith }

  pub HasEvaluated-more : {old mid new : List Evaluated} {start steps now : ℕ} {ps qs : List Pair}
      (p : Pair) (e : Evaluated) → e.pair ≡ p → IsRight shapes g e → new ≡ mid ++ e ∷ [] → now ≡ steps + 1
      → qs ≡ ps ++ p ∷ [] → HasEvaluated shapes g old start mid steps ps
      → HasEvaluated shapes g old start new now qs
  HasEvaluated-more {old} {mid} {new} {start} {steps} {now} {ps} {qs} p e is right pushed counted more
      before =
      record {
        evaluated = subst (λ es. Evaluates shapes g old es qs) (sym pushed)
            (subst (Evaluates shapes g old (mid ++ e ∷ [])) (sym more)
            (Evaluates-more p e is right before.evaluated));
        steps = omega (arith, counted, before.steps, ap length more, length-append ps (p ∷ []));
      }

  pub HasEvaluated-same : {old mid : List Evaluated} {start steps : ℕ} (ps qs : List Pair) → ps ≡ qs
      → HasEvaluated shapes g old start mid steps ps → HasEvaluated shapes g old start mid steps qs
  HasEvaluated-same {old} {mid} {start} {steps} ps qs same before =
      subst (HasEvaluated shapes g old start mid steps) same before

-- ---- the pairs among some readers, one reader more

-- a test of the pairs that leave, where they are the same as at first
pub among_at_first : (old now : List Pair) (p : Pair) (test outcome : Bool) → now ≡ old
    → test ≡ is_among_pairs now p → test ≡ outcome → is_among_pairs old p ≡ outcome
among_at_first old now p test outcome same told is =
    ap (λ ps. is_among_pairs ps p) (sym same) ∙ sym told ∙ is

module _ (readers : List Reader) (leaving : List Pair) (i : ℕ) (d : Reader)
    (inside : i < length readers) where
  staying_more : pairs_staying (take (i + 1) readers) leaving
      ≡ pairs_staying (take i readers) leaving
      ++ filter (λ p. not (is_among_pairs leaving p)) (reader_pairs (get_or readers i d))
  staying_more =
      let test = λ (p : Pair). not (is_among_pairs leaving p) in
      let reader = get_or readers i d in
      let first = flat_map reader_pairs (take i readers) in
      ap (λ rs. filter test (flat_map reader_pairs rs)) (take_more readers i d inside)
      ∙ ap (filter test) (flat_map-append reader_pairs (take i readers) (reader ∷ []))
      ∙ ap (λ ps. filter test (first ++ ps)) (append-nil (reader_pairs reader))
      ∙ filter-append test first (reader_pairs reader)

  -- a target is no pair
  pub staying-target : reader_kind (get_or readers i d) ≡ 0
      → pairs_staying (take i readers) leaving ≡ pairs_staying (take (i + 1) readers) leaving
  staying-target is =
      let before = pairs_staying (take i readers) leaving in
      let test = λ (p : Pair). not (is_among_pairs leaving p) in
      let none = no_pair (get_or readers i d) is in
      sym (staying_more ∙ ap (λ ps. before ++ filter test ps) none ∙ append-nil before)
    where
      no_pair : (r : Reader) → reader_kind r ≡ 0 → reader_pairs r ≡ []
      no_pair (OfTarget n) e = refl
      no_pair (OfPair p) e = cc

  module _ (p : Pair) (is : get_or readers i d ≡ OfPair p) where
    at_pair : (b : Bool) → is_among_pairs leaving p ≡ b
        → pairs_staying (take (i + 1) readers) leaving
        ≡ pairs_staying (take i readers) leaving ++ (if not b then p ∷ [] else [])
    at_pair b e =
        let before = pairs_staying (take i readers) leaving in
        let test = λ (q : Pair). not (is_among_pairs leaving q) in
        staying_more
        ∙ ap (λ r. before ++ filter test (reader_pairs r)) is
        ∙ ap (λ c. before ++ (if not c then p ∷ [] else [])) e

    pub staying-left : is_among_pairs leaving p ≡ true
        → pairs_staying (take i readers) leaving ≡ pairs_staying (take (i + 1) readers) leaving
    staying-left e = sym (at_pair true e ∙ append-nil (pairs_staying (take i readers) leaving))

    pub staying-pair : is_among_pairs leaving p ≡ false
        → pairs_staying (take (i + 1) readers) leaving ≡ pairs_staying (take i readers) leaving ++ p ∷ []
    staying-pair e = at_pair false e

    -- what holds of all that stay holds of it
    pub holds_of_staying : (P : Pair → Type 0) → All P (pairs_staying readers leaving)
        → is_among_pairs leaving p ≡ false → P p
    holds_of_staying P all e =
        let test = λ (q : Pair). not (is_among_pairs leaving q) in
        let own = subst (Contains readers) is (Contains-at readers i d inside) in
        each_of_All P (pairs_staying readers leaving) all p
        (Contains-filter test (flat_map reader_pairs readers) p
        (Contains-flat_map reader_pairs readers (OfPair p) p own ((Contains-one p p).1 refl)) (ap not e))
