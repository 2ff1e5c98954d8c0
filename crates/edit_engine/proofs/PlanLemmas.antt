-- The shapes that a plan targets: each once; and plans over more terms.
use Rattle.std.specs.Prelude.{◌≡◌, ℕ, ◌<◌, nat_eq, false, List, [], ◌∷◌, ◌++◌, Option, Some, None}
use Rattle.std.specs.Prelude.{map, filter, flat_map, length, All}
use Rattle.std.specs.List.{AllByRecursion, IsDistinct}
use Rattle.std.proofs.Common.{refl, sym, ap, ◌∙◌, inl, inr, get_or, arith, length-append, true≢false}
use Rattle.std.proofs.lemmas.Bool.{eqb-true, eq-eqb}
use Rattle.std.proofs.lemmas.Bool.Decides.{eqb_tells}
use Rattle.std.proofs.lemmas.List.Elements.{All-weaker}
use Rattle.std.proofs.lemmas.List.Quantifiers.{position-Some}
use Rattle.shx_term.specs.declared.term.Term.{Term}
use Rattle.shx_term.specs.IdOrder.{in_term_order}
use Rattle.shx_term.proofs.IdOrderLemmas.{slice_get-append}
use Rattle.shx_term.proofs.MemberLemmas.{All_of_each, Contains-flat_map, Contains-head, each_of_All}
use Rattle.value_space.specs.ReadValues.{value_at, value_if}
use Rattle.shape_eval.specs.declared.constraint.Constraint.{Constraint}
use Rattle.shape_eval.specs.declared.constraint.Constraint.TheVariants as any
use Rattle.shape_eval.specs.declared.shape.PlanShape.{PlanShape}
use Rattle.shape_eval.specs.Constraint.{IsReadOf, members_of, numbers_stated, parameter_of}
use Rattle.shape_eval.specs.Plan.{if_any, is_targeted, nodes_of, number_of, numbers_of, planned}
use Rattle.shape_eval.specs.Plan.{HasTermsOf, IsKnownPlan, path_numbers, target_number}
use Rattle.shape_eval.proofs.AscendingLemmas.{IsDistinct-in_term_order}

-- a number that differs from another is not equal to it
unequal : (a b : ℕ) → (a ≡ b → ⊥) → nat_eq a b ≡ false
unequal a b differ = elim (eqb_tells a b) [ inl same ↦ absurd (differ same.1) | inr other ↦ other.0 ]

module _ (shapes : List PlanShape) where
  node_at : (node i : ℕ) → number_of shapes node ≡ Some i → node ≡ get_or (nodes_of shapes) i 0
  node_at node i at =
      eqb-true node (get_or (nodes_of shapes) i 0) (position-Some (nat_eq node) (nodes_of shapes) i 0 at).1

  -- shapes of other nodes have other numbers
  apart : (a b i j : ℕ) → number_of shapes a ≡ Some i → number_of shapes b ≡ Some j → nat_eq a b ≡ false
      → nat_eq i j ≡ false
  apart a b i j at bt differ =
      unequal i j
      (λ same. true≢false (sym (eq-eqb a b
      (node_at a i at ∙ ap (λ k. get_or (nodes_of shapes) k 0) same ∙ sym (node_at b j bt))) ∙ differ))

  others_apart : (a i : ℕ) → number_of shapes a ≡ Some i → (nodes : List ℕ)
      → AllByRecursion (λ b. nat_eq a b ≡ false) nodes
      → AllByRecursion (λ j. nat_eq i j ≡ false) (numbers_of shapes nodes)
  others_apart a i at [] all = tt
  others_apart a i at (b ∷ nodes) all = by (number_of shapes b) refl (others_apart a i at nodes all.1)
    where
      by : (number : Option ℕ) → number_of shapes b ≡ number
          → AllByRecursion (λ j. nat_eq i j ≡ false) (numbers_of shapes nodes)
          → AllByRecursion (λ j. nat_eq i j ≡ false) (if_any number ++ numbers_of shapes nodes)
      by None is rest = rest
      by (Some j) is rest = (apart a b i j at is all.0, rest)

  numbers_once : (nodes : List ℕ) → IsDistinct nat_eq nodes → IsDistinct nat_eq (numbers_of shapes nodes)
  unfolding IsDistinct
  numbers_once [] once = tt
  numbers_once (a ∷ nodes) once = by (number_of shapes a) refl (numbers_once nodes once.1)
    where
      by : (number : Option ℕ) → number_of shapes a ≡ number → IsDistinct nat_eq (numbers_of shapes nodes)
          → IsDistinct nat_eq (if_any number ++ numbers_of shapes nodes)
      by None is rest = rest
      by (Some i) is rest = (others_apart a i is nodes once.0, rest)

pub targeted_once : (terms : List Term) (shapes : List PlanShape)
    → IsDistinct nat_eq (planned terms shapes).targeted
targeted_once terms shapes =
    let nodes = nodes_of (filter is_targeted shapes) in
    numbers_once shapes (in_term_order terms nodes)
    (IsDistinct-in_term_order terms nodes)

-- ---- more terms

module _ (terms more : List Term) where
  below_more : (ids : List ℕ) → All (λ id. id < length terms) ids
      → All (λ id. id < length (terms ++ more)) ids
  below_more ids all =
      All-weaker (λ id. id < length terms) (λ id. id < length (terms ++ more))
      (λ id below. omega (arith, length-append terms more)) ids all

  read_more : (id : ℕ) → id < length terms → value_at (terms ++ more) id ≡ value_at terms id
  read_more id inside = ap value_if (slice_get-append terms more id inside)

  -- what was read of the parameter of a constraint
  parameter_read : (c : Constraint) → parameter_of c < length terms → IsReadOf c terms
      → IsReadOf c (terms ++ more)
  parameter_read (any.MinCount c) inside is = is ∙ sym (read_more c.value inside)
  parameter_read (any.MaxCount c) inside is = is ∙ sym (read_more c.value inside)
  parameter_read (any.MinExclusive c) inside is = is ∙ sym (read_more c.value inside)
  parameter_read (any.MinInclusive c) inside is = is ∙ sym (read_more c.value inside)
  parameter_read (any.MaxExclusive c) inside is = is ∙ sym (read_more c.value inside)
  parameter_read (any.MaxInclusive c) inside is = is ∙ sym (read_more c.value inside)
  parameter_read (any.MinLength c) inside is = is ∙ sym (read_more c.value inside)
  parameter_read (any.MaxLength c) inside is = is ∙ sym (read_more c.value inside)
  parameter_read (any.QualifiedMinCount c) inside is = is ∙ sym (read_more c.value inside)
  parameter_read (any.QualifiedMaxCount c) inside is = is ∙ sym (read_more c.value inside)
  parameter_read c inside is = is

  constraints_read : (cs : List Constraint) → All (λ id. id < length terms) (flat_map numbers_stated cs)
      → All (λ c. IsReadOf c terms) cs → All (λ c. IsReadOf c (terms ++ more)) cs
  constraints_read cs known read =
      All_of_each (λ c. IsReadOf c (terms ++ more)) cs (λ c i.
      parameter_read c
      (each_of_All (λ id. id < length terms) (flat_map numbers_stated cs) known (parameter_of c)
      (Contains-flat_map numbers_stated cs c (parameter_of c) i
      (Contains-head (parameter_of c) (members_of c))))
      (each_of_All (λ d. IsReadOf d terms) cs read c i))

  shape_known_more : (sh : PlanShape) → HasTermsOf terms sh → HasTermsOf (terms ++ more) sh
  shape_known_more sh has = record {
    node = omega (arith, has.node, length-append terms more);
    severity = omega (arith, has.severity, length-append terms more);
    messages = below_more sh.messages.items has.messages;
    path = below_more (path_numbers sh.path) has.path;
    targets = below_more (map target_number sh.targets.items) has.targets;
    constraints = below_more (flat_map numbers_stated sh.constraints.items) has.constraints;
    read = constraints_read sh.constraints.items has.constraints has.read;
  }

  -- a plan stays known where there are more terms
  pub plan_known_more : (shapes : List PlanShape) → IsKnownPlan terms shapes
      → IsKnownPlan (terms ++ more) shapes
  plan_known_more shapes known = record {
    each = All-weaker (HasTermsOf terms) (HasTermsOf (terms ++ more)) shape_known_more shapes known.each;
  }
