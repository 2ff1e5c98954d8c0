-- Nodes that are entered in turn stand at their places.
use Rattle.std.specs.Prelude.{◌≡◌, ℕ, ◌+◌, ◌<◌, nat_eq, false, List, [], ◌∷◌, ◌++◌, get_or, length}
use Rattle.std.specs.Prelude.{flat_map, position, take, if◌then◌else◌, Option, Some, None, All, Contains}
use Rattle.std.specs.Cmp.{nat_eq_equiv}
use Rattle.std.specs.List.{IsDistinct, list_any}
use Rattle.std.proofs.Common.{refl, sym, ap, ◌∙◌, arith, subst}
use Rattle.std.proofs.lemmas.List.{get_or-map, get_or-take, get_or_default, length-map, length-take-le}
use Rattle.std.proofs.lemmas.List.{take_more}
use Rattle.std.proofs.lemmas.List.Folds.{list_any_none}
use Rattle.std.proofs.lemmas.List.Quantifiers.{position-Some}
use Rattle.std.proofs.lemmas.Map.Keys.{apart_from_distinct}
use Rattle.indexmap.specs.IndexSet.{insert_key}
use Rattle.shx_term.proofs.MemberLemmas.{All_of_each, Contains-from_flat_map, Contains-one, none_in_empty}
use Rattle.shape_eval.specs.declared.shape.PlanShape.{PlanShape}
use Rattle.shape_eval.specs.Plan.{if_any, nodes_of, number_of, numbers_of}

-- an element of distinct ones is not among those before it
is_new : (xs : List ℕ) → IsDistinct nat_eq xs → (i : ℕ) → i < length xs
    → list_any (nat_eq (get_or xs i 0)) (take i xs) ≡ false
is_new xs distinct i inside =
    list_any_none (nat_eq (get_or xs i 0)) (take i xs) (λ k d short.
    let below : k < i = subst (λ n. k < n) (length-take-le i xs (omega (arith, inside))) short in
    nat_eq_equiv.symm (get_or xs i 0) (get_or (take i xs) k d)
    ∙ ap (λ x. nat_eq x (get_or xs i 0)) (get_or-take i xs k d below)
    ∙ ap (λ x. nat_eq (get_or xs k d) x) (get_or_default xs i 0 d inside)
    ∙ apart_from_distinct nat_eq xs k i d distinct below inside)

insert_new : (keys : List ℕ) (x : ℕ) → list_any (nat_eq x) keys ≡ false
    → insert_key nat_eq keys x ≡ keys ++ x ∷ []
insert_new keys x new = ap (λ b. if b then keys else keys ++ x ∷ []) new

-- so it is entered behind them
entered : (xs : List ℕ) → IsDistinct nat_eq xs → (i : ℕ) → i < length xs
    → insert_key nat_eq (take i xs) (get_or xs i 0) ≡ take (i + 1) xs
entered xs distinct i inside =
    insert_new (take i xs) (get_or xs i 0) (is_new xs distinct i inside) ∙ sym (take_more xs i 0 inside)

pub next_node : (shapes : List PlanShape) → IsDistinct nat_eq (nodes_of shapes) → (i : ℕ) (sh : PlanShape)
    → i < length shapes → sh ≡ get_or shapes i sh → (old new : List ℕ) → old ≡ take i (nodes_of shapes)
    → new ≡ insert_key nat_eq old sh.node → new ≡ take (i + 1) (nodes_of shapes)
next_node shapes distinct i sh inside is old new before entered_is =
    let nodes = nodes_of shapes in
    let within : i < length nodes =
    subst (λ n. i < n) (sym (length-map shapes (λ (s : PlanShape). s.node))) inside in
    let node : sh.node ≡ get_or nodes i 0 =
    ap (λ (s : PlanShape). s.node) is ∙ sym (get_or-map (λ (s : PlanShape). s.node) shapes i sh 0 inside) in
    entered_is ∙ ap (λ ks. insert_key nat_eq ks sh.node) before
    ∙ ap (insert_key nat_eq (take i nodes)) node ∙ entered nodes distinct i within

-- and their places are the numbers of the shapes
pub places_are_numbers : (shapes : List PlanShape) (keys : List ℕ) → keys ≡ nodes_of shapes
    → (nodes : List ℕ)
    → flat_map (λ node. if_any (position (nat_eq node) keys)) nodes ≡ numbers_of shapes nodes
places_are_numbers shapes keys placed nodes =
    ap (λ ks. flat_map (λ node. if_any (position (nat_eq node) ks)) nodes) placed

-- the numbers that are found are numbers of shapes
pub numbers_within : (shapes : List PlanShape) (nodes : List ℕ)
    → All (λ n. n < length shapes) (numbers_of shapes nodes)
numbers_within shapes nodes =
    All_of_each (λ n. n < length shapes) (numbers_of shapes nodes) (λ n c.
    let at = Contains-from_flat_map (λ node. if_any (number_of shapes node)) nodes n c in
    within_by shapes at.0 n (number_of shapes at.0) refl at.2)
  where
    within_by : (shapes : List PlanShape) (node n : ℕ) (o : Option ℕ) → number_of shapes node ≡ o
        → Contains (if_any o) n → n < length shapes
    within_by shapes node n None e c = absurd (none_in_empty n c)
    within_by shapes node n (Some i) e c =
        let there = position-Some (nat_eq node) (nodes_of shapes) i 0 e in
        subst (λ m. m < length shapes) (sym ((Contains-one i n).0 c))
        (subst (λ m. i < m) (length-map shapes (λ (s : PlanShape). s.node)) there.0)
