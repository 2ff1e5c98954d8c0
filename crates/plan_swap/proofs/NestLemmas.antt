-- The same pairs are nested in alike shapes, but for the numbers of their shapes, which are alike too.
use Rattle.std.specs.Prelude.{◌≡◌, ◌<◌, ℕ, zero, suc, Bool, true, false, not, List, [], ◌∷◌, Some}
use Rattle.std.specs.Prelude.{filter, flat_map, length, map, slice_get, if◌then◌else◌, Contains}
use Rattle.std.proofs.Common.{refl, sym, ap, ap₂, ◌∙◌, subst, arith, inl, inr}
use Rattle.std.proofs.lemmas.List.Folds.{flat_map-map}
use Rattle.std.proofs.lemmas.Option.{slice_get_within}
use Rattle.shx_term.proofs.MemberLemmas.{Contains-from_flat_map, Contains-head, Contains-tail, none_in_empty}
use Rattle.graph_view.specs.Graph.{Graph}
use Rattle.comp_core.specs.declared.pair.Pair.{Pair}
use Rattle.comp_core.specs.Asking.{pair_of, pairs_asked, pairs_at}
use Rattle.shape_eval.specs.declared.constraint.Constraint.{Constraint}
use Rattle.shape_eval.specs.declared.shape.PlanShape.{PlanShape}
use Rattle.shape_eval.specs.Constraint.{constraint_asks, shapes_named}
use Rattle.shape_eval.specs.Content.{demand_of}
use Rattle.shape_eval.specs.Nested.{asked_at_node, asked_pairs, is_evaluated, is_evaluated_at, nested_within}
use Rattle.shape_eval.specs.Nested.{pairs_below}
use Rattle.shape_eval.specs.Plan.{IsNumbered, nodes_of}
use Rattle.shape_eval.specs.Report.{at_shape}
use Rattle.shape_eval.specs.Results.{value_nodes}
use Rattle.shape_eval.proofs.AskLemmas.{asked_is_named}
use Rattle.shape_eval.proofs.NestedLemmas.{below_asked, nested_cases}
use Rattle.plan_swap.specs.Alike.{AreAlike, AreAlikeWithin, IsAlike}
use Rattle.plan_swap.specs.Renumbered.{AlikeShapesNestAlike, new_number, pair_renumbered}
use Rattle.plan_swap.proofs.AlikeLemmas.{alike_within}
use Rattle.plan_swap.proofs.DemandLemmas.{asked_by}
use Rattle.plan_swap.proofs.LevelLemmas.{named_in_turn, number_is, within_both}
use Rattle.plan_swap.proofs.ShapeLemmas.{values_same}
use Rattle.plan_swap.proofs.TurnLemmas.{InTurn, beside, beside_itself, image_in_turn, in_turn, parts_in_turn}
use Rattle.plan_swap.proofs.TurnLemmas.{weaker_in_turn}

-- a filter of images, by a test that is so of an image where another one is of the member
filter_image : {X Y : Type 0} (r : X → Y) (p : X → Bool) (q : Y → Bool) (xs : List X)
    → ((x : X) → Contains xs x → q (r x) ≡ p x) → filter q (map r xs) ≡ map r (filter p xs)
filter_image r p q [] same = refl
filter_image r p q (x ∷ xs) same =
    ap₂ (λ b ys. if b then r x ∷ ys else ys) (same x (Contains-head x xs))
    (filter_image r p q xs (λ y c. same y (Contains-tail x y xs c)))
    ∙ kept (p x)
  where
    kept : (b : Bool) → (if b then r x ∷ map r (filter p xs) else map r (filter p xs))
        ≡ map r (if b then x ∷ filter p xs else filter p xs)
    kept true = refl
    kept false = refl

map-pair : (f : ℕ → ℕ) (v : ℕ) (is : List ℕ) → pairs_at (map f is) v ≡ map (pair_renumbered f) (pairs_at is v)
map-pair f v [] = refl
map-pair f v (i ∷ is) = ap (λ ps. pair_of v (f i) ∷ ps) (map-pair f v is)

-- each of some nodes at each of some shapes, under new numbers
asked_renumbered : (f : ℕ → ℕ) (is js : List ℕ) → js ≡ map f is → (vs : List ℕ)
    → pairs_asked js vs ≡ map (pair_renumbered f) (pairs_asked is vs)
asked_renumbered f is js same vs =
    parts_in_turn (pair_renumbered f) (pairs_at is) (pairs_at js) vs vs
    (beside_itself (λ v w. pairs_at js w ≡ map (pair_renumbered f) (pairs_at is v)) vs
    (λ v c. ap (λ ns. pairs_at ns v) same ∙ map-pair f v is))

module _ (old new : List PlanShape) (numbered : IsNumbered old) (renumbered : IsNumbered new) where
  abbrev renumber : Pair → Pair
  renumber = pair_renumbered (new_number old new)

  -- alike shapes are evaluated or not
  evaluated_same : (k m n : ℕ) → AreAlikeWithin k old new m n
      → is_evaluated (slice_get new n) ≡ is_evaluated (slice_get old m)
  evaluated_same zero m n alike = absurd alike
  evaluated_same (suc k) m n alike =
      ap is_evaluated alike.new_is ∙ ap not (sym alike.same.deactivated)
      ∙ ap is_evaluated (sym alike.old_is)

  -- a lower old shape and a lower new one that are alike
  record AreLower (k m n a b : ℕ) : Type 0 where
    old_lower : a < m
    new_lower : b < n
    alike : AreAlikeWithin k old new a b

  -- a lower old shape is alike with that of its number in the new plan
  abbrev StaysLower : ℕ → ℕ → ℕ → ℕ → Type 0
  StaysLower k m n a = AreLower k m n a (new_number old new a)

  module _ (k m n : ℕ) (alike : IsAlike (AreAlikeWithin k old new) old new m n) where
    abbrev older : List Constraint
    older = alike.before.constraints.items

    abbrev newer : List Constraint
    newer = alike.after.constraints.items

    abbrev NamesLower : Constraint → Constraint → Type 0
    NamesLower c d = InTurn (AreLower k m n) (shapes_named c) (shapes_named d)

    names_lower : InTurn NamesLower older newer
    names_lower =
        in_turn (demand_of (nodes_of old)) (demand_of (nodes_of new)) NamesLower older newer
        alike.same.demands (λ c d held there same.
        named_in_turn old new numbered renumbered k m n alike c d held there same (AreLower k m n)
        (λ a b low lower both. record { old_lower = low; new_lower = lower; alike = both }))

    number_same : (a b : ℕ) → AreLower k m n a b → new_number old new a ≡ b
    number_same a b both = number_is old new numbered renumbered k a b both.alike

    asks_same : (vs : List ℕ) (c d : Constraint) → NamesLower c d
        → constraint_asks d vs ≡ map renumber (constraint_asks c vs)
    asks_same vs c d named =
        asked_by d vs
        ∙ asked_renumbered (new_number old new) (shapes_named c) (shapes_named d)
        (image_in_turn (AreLower k m n) (new_number old new) number_same (shapes_named c) (shapes_named d)
        named) vs
        ∙ ap (map renumber) (sym (asked_by c vs))

    asked_same : (vs : List ℕ) → asked_pairs newer vs ≡ map renumber (asked_pairs older vs)
    asked_same vs =
        parts_in_turn renumber (λ c. constraint_asks c vs) (λ d. constraint_asks d vs) older newer
        (weaker_in_turn NamesLower (λ c d. constraint_asks d vs ≡ map renumber (constraint_asks c vs))
        (asks_same vs) older newer names_lower)

    -- what is asked is of lower shapes that are alike
    asked_lower : (vs : List ℕ) (d : Pair) → Contains (asked_pairs older vs) d → StaysLower k m n d.shape
    asked_lower vs d asked =
        let of = Contains-from_flat_map (λ c. constraint_asks c vs) older d asked in
        let other = beside NamesLower older newer names_lower of.0 of.1 in
        let both = beside (AreLower k m n) (shapes_named of.0) (shapes_named other.0) other.1 d.shape
        (asked_is_named of.0 vs d of.2) in
        subst (λ b. AreLower k m n d.shape b) (sym (number_same d.shape both.0 both.1)) both.1

    module _ (g : Graph) (node : ℕ) where
      pub below_same : pairs_below new g (at_shape n node)
          ≡ map renumber (pairs_below old g (at_shape m node))
      below_same =
          ap (λ o. filter (is_evaluated_at new) (asked_at_node g o node)) alike.new_is
          ∙ ap₂
          (λ off ws. filter (is_evaluated_at new) (if off then [] else asked_pairs newer ws))
          (sym alike.same.deactivated)
          (values_same g alike.before.path alike.after.path alike.same.path node)
          ∙ either (value_nodes g alike.before.path node) alike.before.deactivated
          ∙ ap (λ o. map renumber (filter (is_evaluated_at old) (asked_at_node g o node)))
          (sym alike.old_is)
        where
          either : (vs : List ℕ) (off : Bool)
              → filter (is_evaluated_at new) (if off then [] else asked_pairs newer vs)
              ≡ map renumber (filter (is_evaluated_at old) (if off then [] else asked_pairs older vs))
          either vs true = refl
          either vs false =
              ap (filter (is_evaluated_at new)) (asked_same vs)
              ∙ filter_image renumber (is_evaluated_at old) (is_evaluated_at new) (asked_pairs older vs)
              (λ d c. evaluated_same k d.shape (new_number old new d.shape) (asked_lower vs d c).alike)

      below_lower : (d : Pair) → Contains (pairs_below old g (at_shape m node)) d
          → StaysLower k m n d.shape
      below_lower d c =
          let is = below_asked old g (at_shape m node) d c in
          let one : Some is.shape ≡ Some alike.before = sym is.at ∙ alike.old_is in
          let same : is.shape ≡ alike.before = cc in
          let vs = value_nodes g is.shape.path node in
          asked_lower vs d
          (subst (λ (sh : PlanShape). Contains (asked_pairs sh.constraints.items vs) d) same is.asked)

  module _ (g : Graph) where
    nested_same : (k l j m n : ℕ) → m < l → n < j → AreAlikeWithin k old new m n → (node : ℕ)
        → nested_within j new g (at_shape n node)
        ≡ map renumber (nested_within l old g (at_shape m node))
    nested_same zero l j m n a b alike node = absurd alike
    nested_same (suc k) zero j m n a b alike node = absurd (omega (arith, a))
    nested_same (suc k) (suc l) zero m n a b alike node = absurd (omega (arith, b))
    nested_same (suc k) (suc l) (suc j) m n a b alike node =
        let was = pairs_below old g (at_shape m node) in
        let deeper = λ (d : Pair). d ∷ nested_within l old g d in
        let later = λ (e : Pair). e ∷ nested_within j new g e in
        ap (flat_map later) (below_same k m n alike g node)
        ∙ flat_map-map later renumber was
        ∙ parts_in_turn renumber deeper (λ d. later (renumber d)) was was
        (beside_itself (λ d e. later (renumber e) ≡ map renumber (deeper d)) was (λ d c.
        let low = below_lower k m n alike g node d c in
        let older = low.old_lower in
        let newer = low.new_lower in
        ap (λ ps. renumber d ∷ ps)
        (nested_same k l j d.shape (new_number old new d.shape) (omega (arith, older, a))
        (omega (arith, newer, b)) low.alike d.node)))

    nested_alike : (k l m n : ℕ) → AreAlikeWithin k old new m n → (node : ℕ) (d : Pair)
        → Contains (nested_within l old g (at_shape m node)) d
        → AreAlike old new d.shape (new_number old new d.shape)
    nested_alike k zero m n alike node d c = absurd (none_in_empty d c)
    nested_alike zero (suc l) m n alike node d c = absurd alike
    nested_alike (suc k) (suc l) m n alike node d c =
        let found = nested_cases l old g (at_shape m node) d c in
        let above = found.0 in
        let low = below_lower k m n alike g node above found.1.0 in
        let newer = low.new_lower in
        let within = slice_get_within new n alike.after alike.new_is in
        elim found.1.1 [
          | inl same ↦
              subst (λ (p : Pair). AreAlike old new p.shape (new_number old new p.shape)) (sym same)
              (alike_within old new numbered renumbered k (length new) above.shape
              (new_number old new above.shape) (omega (arith, newer, within)) low.alike)
          | inr deeper ↦
              nested_alike k l above.shape (new_number old new above.shape) low.alike above.node d deeper
        ]

pub alike_shapes_nest : AlikeShapesNestAlike
alike_shapes_nest old new numbered renumbered g m n alike node =
    let within = within_both old new (length new) m n alike in
    record {
      pairs =
          nested_same old new numbered renumbered g (length new) (length old) (length new) m n within.0
          within.1 alike node;
      alike = nested_alike old new numbered renumbered g (length new) (length old) m n alike node;
    }
