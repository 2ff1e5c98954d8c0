-- Shapes that are declared the same have the same results at a node, but for numbers, and the same is read.
use Rattle.std.specs.Prelude.{◌≡◌, ◌++◌, ℕ, List, [], ◌∷◌, Option, Some, None, if◌then◌else◌}
use Rattle.std.specs.Option.{option_map}
use Rattle.std.proofs.Common.{refl, sym, ap, ap₂, ◌∙◌}
use Rattle.graph_view.specs.declared.key.Key.{Key}
use Rattle.graph_view.specs.Graph.{Graph}
use Rattle.path_eval.specs.declared.direction.Direction.TheVariants.{Forward}
use Rattle.path_eval.specs.declared.path.Path.{Path}
use Rattle.path_eval.specs.Route.{route_of}
use Rattle.path_eval.specs.Values.{path_reads, path_values}
use Rattle.comp_core.specs.declared.pair.At.{At}
use Rattle.comp_core.specs.declared.pair.Pair.{Pair}
use Rattle.comp_core.specs.declared.row.ResultRow.{ResultRow}
use Rattle.comp_core.specs.Asking.{pair_of}
use Rattle.shape_eval.specs.declared.constraint.Constraint.{Constraint}
use Rattle.shape_eval.specs.declared.shape.PlanShape.{PlanShape}
use Rattle.shape_eval.specs.Constraint.{constraint_hits, shapes_named}
use Rattle.shape_eval.specs.Content.{demand_of}
use Rattle.shape_eval.specs.Results.{at_of, hits_of_each, reads_of_each, shape_reads, shape_results}
use Rattle.shape_eval.specs.Results.{value_nodes, value_reads}
use Rattle.plan_swap.specs.Alike.{IsSameShape}
use Rattle.plan_swap.specs.Renumbered.{rows_renumbered}
use Rattle.plan_swap.proofs.AskedLemmas.{AllAnswerAlike}
use Rattle.plan_swap.proofs.FindingLemmas.{constraint_reads_same, constraint_renumbers}
use Rattle.plan_swap.proofs.RenumberLemmas.{at_renumbered, both_renumber, either_renumbers}
use Rattle.plan_swap.proofs.TurnLemmas.{InTurn}

-- ---- paths of one route

module _ (g : Graph) where
  pub values_same : (p q : Option Path) → option_map route_of p ≡ option_map route_of q → (node : ℕ)
      → value_nodes g q node ≡ value_nodes g p node
  values_same None None same node = refl
  values_same None (Some path) same node = absurd (cc)
  values_same (Some path) None same node = absurd (cc)
  values_same (Some path) (Some other) same node =
      let one : route_of path ≡ route_of other = cc in
      ap (λ route. path_values g route node) (sym one)

  value_reads_same : (p q : Option Path) → option_map route_of p ≡ option_map route_of q → (node : ℕ)
      → value_reads g q node ≡ value_reads g p node
  value_reads_same None None same node = refl
  value_reads_same None (Some path) same node = absurd (cc)
  value_reads_same (Some path) None same node = absurd (cc)
  value_reads_same (Some path) (Some other) same node =
      let one : route_of path ≡ route_of other = cc in
      ap (λ route. path_reads g Forward route node) (sym one)

module _ (f : ℕ → ℕ) (m n : Pair → List ResultRow) (r q : Pair → List Key) (old new : List ℕ) where
  -- constraints of one demand, and the shapes that they name answer alike
  pub record DemandAlike (c d : Constraint) : Type 0 where
    pub same : demand_of old c ≡ demand_of new d
    pub named : AllAnswerAlike f m n r q (shapes_named c) (shapes_named d)

  module _ (g : Graph) (at : At) (vs : List ℕ) where
    each_renumbers : (cs ds : List Constraint) → InTurn DemandAlike cs ds
        → hits_of_each g n ds (at_renumbered f at) vs ≡ rows_renumbered f (hits_of_each g m cs at vs)
    each_renumbers [] [] alike = refl
    each_renumbers [] (d ∷ ds) alike = absurd alike
    each_renumbers (c ∷ cs) [] alike = absurd alike
    each_renumbers (c ∷ cs) (d ∷ ds) alike =
        both_renumber f (constraint_hits d g n (at_renumbered f at) vs)
        (hits_of_each g n ds (at_renumbered f at) vs) (constraint_hits c g m at vs)
        (hits_of_each g m cs at vs)
        (constraint_renumbers f m n r q old new c d alike.0.same alike.0.named g at vs)
        (each_renumbers cs ds alike.1)

    reads_same : (cs ds : List Constraint) → InTurn DemandAlike cs ds
        → reads_of_each g q ds (at_renumbered f at) vs ≡ reads_of_each g r cs at vs
    reads_same [] [] alike = refl
    reads_same [] (d ∷ ds) alike = absurd alike
    reads_same (c ∷ cs) [] alike = absurd alike
    reads_same (c ∷ cs) (d ∷ ds) alike =
        ap₂ ◌++◌ (constraint_reads_same f m n r q old new c d alike.0.same alike.0.named g at vs)
        (reads_same cs ds alike.1)

  module _ (g : Graph) (before after : PlanShape) (same : IsSameShape old new before after)
      (alike : InTurn DemandAlike before.constraints.items after.constraints.items) (i j node : ℕ)
      (number : f i ≡ j) where
    at : At
    at = at_of (pair_of node i)

    pub shape_renumbers : shape_results g n (Some after) (pair_of node j)
        ≡ rows_renumbered f (shape_results g m (Some before) (pair_of node i))
    unfolding at
    shape_renumbers =
        let cs = before.constraints.items in
        let ds = after.constraints.items in
        let vs = value_nodes g before.path node in
        let later : hits_of_each g n ds (at_of (pair_of node j)) (value_nodes g after.path node)
        ≡ hits_of_each g n ds (at_renumbered f at) vs =
        ap (λ ws. hits_of_each g n ds (at_of (pair_of node j)) ws)
        (values_same g before.path after.path same.path node)
        ∙ ap (λ k. hits_of_each g n ds (at_of (pair_of node k)) vs) (sym number) in
        ap
        (λ b. if b then [] else hits_of_each g n ds (at_of (pair_of node j)) (value_nodes g after.path node))
        (sym same.deactivated)
        ∙ either_renumbers f before.deactivated [] _ [] (hits_of_each g m cs at vs) refl
        (later ∙ each_renumbers g at vs cs ds alike)

    pub shape_reads_same : shape_reads g q (Some after) (pair_of node j)
        ≡ shape_reads g r (Some before) (pair_of node i)
    unfolding at
    shape_reads_same =
        let cs = before.constraints.items in
        let ds = after.constraints.items in
        let vs = value_nodes g before.path node in
        let later : reads_of_each g q ds (at_of (pair_of node j)) (value_nodes g after.path node)
        ≡ reads_of_each g q ds (at_renumbered f at) vs =
        ap (λ ws. reads_of_each g q ds (at_of (pair_of node j)) ws)
        (values_same g before.path after.path same.path node)
        ∙ ap (λ k. reads_of_each g q ds (at_of (pair_of node k)) vs) (sym number) in
        ap₂ (λ b keys. if b then [] else keys) (sym same.deactivated)
        (ap₂ ◌++◌ (value_reads_same g before.path after.path same.path node)
        (later ∙ reads_same g at vs cs ds alike))
