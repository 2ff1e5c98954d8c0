-- One shape at a node in two graphs, by what is told of the shapes that it names.
use Rattle.std.specs.Prelude.{◌≡◌, ◌<◌, ℕ, Bool, true, false, List, [], ◌∷◌, ◌++◌, Option, Some, None}
use Rattle.std.specs.Prelude.{flat_map, if◌then◌else◌, length, Contains}
use Rattle.std.proofs.Common.{refl, sym, ap, ◌∙◌, subst, inl, inr}
use Rattle.std.proofs.lemmas.List.Elements.{Contains-append_left, Contains-append_right}
use Rattle.shx_term.specs.Members.{SameMembers}
use Rattle.shx_term.proofs.IdOrderLemmas.{in_term_order_lists}
use Rattle.shx_term.proofs.MemberLemmas.{All_of_each, Contains-one, flat_map_agree}
use Rattle.shx_term.proofs.SetLemmas.{SameMembers-append, SameMembers-itself, SameMembers-parts}
use Rattle.graph_view.specs.declared.key.Key.{Key}
use Rattle.graph_view.specs.Agree.{Agree}
use Rattle.graph_view.specs.Graph.{Graph, AllKnown, HasTerms}
use Rattle.graph_view.proofs.AgreeLemmas.{Agree-fewer, Agree-part}
use Rattle.path_eval.specs.declared.direction.Direction.{Direction}
use Rattle.path_eval.specs.declared.direction.Direction.TheVariants.{Forward}
use Rattle.path_eval.specs.declared.path.Path.{Path}
use Rattle.path_eval.specs.Route.{Route, route_of}
use Rattle.path_eval.specs.Values.{IsSamePath, nodes_reached, path_reads}
use Rattle.path_eval.specs.Way.{way}
use Rattle.path_eval.proofs.MeetsLemmas.{path_within}
use Rattle.comp_core.specs.declared.pair.Pair.{Pair}
use Rattle.comp_core.specs.declared.row.ResultRow.{ResultRow}
use Rattle.comp_core.specs.Laws.{SameAnswers, SameFindings}
use Rattle.shape_eval.specs.declared.constraint.Constraint.{Constraint}
use Rattle.shape_eval.specs.declared.shape.PlanShape.{PlanShape}
use Rattle.shape_eval.specs.Constraint.{constraint_asks, constraint_hits, constraint_numbers}
use Rattle.shape_eval.specs.Constraint.{constraint_reads}
use Rattle.shape_eval.specs.Results.{at_of, hits_of_each, reads_of_each, shape_reads, shape_results}
use Rattle.shape_eval.specs.Results.{value_nodes, value_reads}
use Rattle.shape_eval.proofs.ConstraintLemmas.{AgreesAt}
use Rattle.shape_eval.proofs.PartLemmas.{All_in_part}

-- the law of paths
abbrev pub PathsAgree : Type 0
PathsAgree = (g h : Graph) → AllKnown g → AllKnown h → (d : Direction) (route : Route) (x : ℕ)
    → x < length g.terms → Agree g h (Contains (path_reads g d route x)) → IsSamePath g h d route x

-- what a path leads to, in either direction, from a number that has a term has terms
pub reached_known : (g : Graph) → AllKnown g → (d : Direction) (route : Route) (x : ℕ) → x < length g.terms
    → HasTerms g (nodes_reached g d route x)
reached_known g known d route x inside =
    let w = way g d route in
    All_of_each (λ v. v < length g.terms) (nodes_reached g d route x) (λ v c.
    elim (path_within g known d route x v (((in_term_order_lists g.terms (w.to x)).each v).0 c)) [
      | inl e ↦ subst (λ u. u < length g.terms) (sym e) inside
      | inr there ↦ there
    ])

pub values_known : (g : Graph) → AllKnown g → (path : Option Path) (node : ℕ) → node < length g.terms
    → HasTerms g (value_nodes g path node)
values_known g known None node inside =
    All_of_each (λ v. v < length g.terms) (node ∷ [])
    (λ v c. subst (λ w. w < length g.terms) (sym ((Contains-one node v).0 c)) inside)
values_known g known (Some path) node inside = reached_known g known Forward (route_of path) node inside

module _ (paths_agree : PathsAgree) (agrees : (c : Constraint) → AgreesAt c)
    (g h : Graph) (known : AllKnown g) (known' : AllKnown h) where
  pub values_same : (path : Option Path) (node : ℕ) → node < length g.terms
      → Agree g h (Contains (value_reads g path node))
      → (value_nodes g path node ≡ value_nodes h path node)
      × SameMembers (value_reads g path node) (value_reads h path node)
  values_same None node inside agree = (refl, SameMembers-itself [])
  values_same (Some path) node inside agree =
      let same = paths_agree g h known known' Forward (route_of path) node inside agree in
      (same.nodes, same.reads)

  module _ (m n : Pair → List ResultRow) (r q : Pair → List Key) (p : Pair)
      (inside : p.node < length g.terms) where
    -- where the graphs agree on what an asked pair reads, it is answered alike
    abbrev pub AskAlike : List Constraint → List ℕ → Type 0
    AskAlike cs vs = (c : Constraint) → Contains cs c → (d : Pair) → Contains (constraint_asks c vs) d
        → Agree g h (Contains (r d)) → SameAnswers m n r q d

    abbrev pub AreKnown : List Constraint → Type 0
    AreKnown cs = HasTerms g (flat_map constraint_numbers cs)

    numbers_at : (cs : List Constraint) → AreKnown cs → (c : Constraint) → Contains cs c
        → HasTerms g (constraint_numbers c)
    numbers_at cs numbers c i = All_in_part (λ id. id < length g.terms) constraint_numbers cs numbers c i

    each_alike : (cs : List Constraint) (vs : List ℕ) → HasTerms g vs → AreKnown cs → AskAlike cs vs
        → Agree g h (Contains (reads_of_each g r cs (at_of p) vs))
        → SameFindings (hits_of_each g m cs (at_of p) vs) (hits_of_each h n cs (at_of p) vs)
        (reads_of_each g r cs (at_of p) vs) (reads_of_each h q cs (at_of p) vs)
    each_alike cs vs vs_known numbers same agree =
        let one = λ (c : Constraint) (i : Contains cs c).
        agrees c g h m n r q (at_of p) vs
        (record {
          before = known;
          after = known';
          numbers = numbers_at cs numbers c i;
          values = vs_known;
          agree = Agree-part g h (λ d. constraint_reads d g r (at_of p) vs) cs c i agree;
        }) (same c i) in
        record {
          rows = flat_map_agree (λ c. constraint_hits c g m (at_of p) vs)
              (λ c. constraint_hits c h n (at_of p) vs) cs (λ c i. (one c i).rows);
          reads = SameMembers-parts (λ c. constraint_reads c g r (at_of p) vs)
              (λ c. constraint_reads c h q (at_of p) vs) cs (λ c i. (one c i).reads);
        }

    pub unless_alike : (sh : PlanShape) (off : Bool) → AreKnown sh.constraints.items
        → AskAlike sh.constraints.items (value_nodes g sh.path p.node)
        → Agree g h (Contains (if off then [] else value_reads g sh.path p.node
        ++ reads_of_each g r sh.constraints.items (at_of p) (value_nodes g sh.path p.node)))
        → SameFindings
        (if off then [] else hits_of_each g m sh.constraints.items (at_of p) (value_nodes g sh.path p.node))
        (if off then [] else hits_of_each h n sh.constraints.items (at_of p) (value_nodes h sh.path p.node))
        (if off then [] else value_reads g sh.path p.node
        ++ reads_of_each g r sh.constraints.items (at_of p) (value_nodes g sh.path p.node))
        (if off then [] else value_reads h sh.path p.node
        ++ reads_of_each h q sh.constraints.items (at_of p) (value_nodes h sh.path p.node))
    unless_alike sh true numbers same agree = record { rows = refl; reads = SameMembers-itself [] }
    unless_alike sh false numbers same agree =
        let cs = sh.constraints.items in
        let vs = value_nodes g sh.path p.node in
        let ws = value_nodes h sh.path p.node in
        let first = value_reads g sh.path p.node in
        let rest = reads_of_each g r cs (at_of p) vs in
        let path = values_same sh.path p.node inside
        (Agree-fewer (Contains first) (λ key c. Contains-append_left first rest key c) agree) in
        let found = each_alike cs vs (values_known g known sh.path p.node inside) numbers same
        (Agree-fewer (Contains rest) (λ key c. Contains-append_right first rest key c) agree) in
        record {
          rows = found.rows ∙ ap (λ us. hits_of_each h n cs (at_of p) us) path.0;
          reads = SameMembers-append first rest (value_reads h sh.path p.node)
              (reads_of_each h q cs (at_of p) ws) path.1
              (subst (λ us. SameMembers rest (reads_of_each h q cs (at_of p) us)) path.0 found.reads);
        }

    pub shape_alike : (o : Option PlanShape)
        → ((sh : PlanShape) → o ≡ Some sh → AreKnown sh.constraints.items)
        → ((sh : PlanShape) → o ≡ Some sh → AskAlike sh.constraints.items (value_nodes g sh.path p.node))
        → Agree g h (Contains (shape_reads g r o p))
        → SameFindings (shape_results g m o p) (shape_results h n o p) (shape_reads g r o p)
        (shape_reads h q o p)
    shape_alike None numbers same agree = record { rows = refl; reads = SameMembers-itself [] }
    shape_alike (Some sh) numbers same agree =
        unless_alike sh sh.deactivated (numbers sh refl) (same sh refl) agree
