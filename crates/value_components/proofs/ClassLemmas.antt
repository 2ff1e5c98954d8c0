-- The law of sh:class, from the law of paths.
use Rattle.std.specs.Prelude.{◌≡◌, ◌<◌, ℕ, nat_eq, Bool, true, false, ◌&&◌, [], length, Contains}
use Rattle.std.specs.Prelude.{if◌then◌else◌}
use Rattle.std.specs.List.{list_any}
use Rattle.std.proofs.Common.{refl, ap}
use Rattle.shx_term.specs.Members.{SameMembers}
use Rattle.shx_term.specs.TermKinds.{is_node}
use Rattle.shx_term.proofs.SetLemmas.{SameMembers-itself, SameMembers-parts}
use Rattle.graph_view.specs.Agree.{Agree}
use Rattle.graph_view.specs.Graph.{Graph, AllKnown}
use Rattle.graph_view.proofs.AgreeLemmas.{Agree-part, Agree-term}
use Rattle.path_eval.specs.declared.direction.Direction.{Direction}
use Rattle.path_eval.specs.declared.direction.Direction.TheVariants.{Forward}
use Rattle.path_eval.specs.Instances.{instance_route, is_instance}
use Rattle.path_eval.specs.Route.{Route}
use Rattle.path_eval.specs.Values.{IsSamePath, path_reads}
use Rattle.comp_core.specs.declared.kinds.TheConstants.{CLASS}
use Rattle.comp_core.specs.Laws.{Agreement}
use Rattle.comp_core.proofs.LawLemmas.{value_known}
use Rattle.value_components.specs.declared.class.Class.{Class}
use Rattle.value_components.specs.Class.{is_of_class, class_reads_at, class_hits, class_reads}
use Rattle.comp_core.proofs.ResultLemmas.{each_unless-agree}

module _ (paths_agree : (g h : Graph) → AllKnown g → AllKnown h → (d : Direction) (route : Route) (x : ℕ)
    → x < length g.terms → Agree g h (Contains (path_reads g d route x)) → IsSamePath g h d route x) where
  module _ (g h : Graph) (known : AllKnown g) (known' : AllKnown h) (class node : ℕ)
      (inside : node < length g.terms) where
    by_kind : (node_is : Bool)
        → Agree g h (Contains (if node_is then path_reads g Forward instance_route node else []))
        → ((node_is && is_instance g node class) ≡ (node_is && is_instance h node class))
        × SameMembers (if node_is then path_reads g Forward instance_route node else [])
        (if node_is then path_reads h Forward instance_route node else [])
    by_kind true agree =
        let same = paths_agree g h known known' Forward instance_route node inside agree in
        (ap (list_any (nat_eq class)) same.nodes, same.reads)
    by_kind false agree = (refl, SameMembers-itself [])

    class_same_at : Agree g h (Contains (class_reads_at g node))
        → (is_of_class g class node ≡ is_of_class h class node)
        × SameMembers (class_reads_at g node) (class_reads_at h node)
    class_same_at agree = rw (← Agree-term g h node agree inside) (by_kind (is_node g.terms node) agree)

  pub class_agrees : Agreement {C = Class} (λ c. []) (λ c vs. [])
      (λ c g m at vs. class_hits c g at vs) (λ c g r at vs. class_reads g vs)
  class_agrees c g h m n r q at vs alike same =
      let at_node = λ (v : ℕ) (i : Contains vs v).
      class_same_at g h alike.before alike.after c.value v
      (value_known g h [] vs (class_reads g vs) alike v i)
      (Agree-part g h (class_reads_at g) vs v i alike.agree) in
      record {
        rows = each_unless-agree (is_of_class g c.value) (is_of_class h c.value) CLASS at vs
            (λ v i. (at_node v i).0);
        reads = SameMembers-parts (class_reads_at g) (class_reads_at h) vs (λ v i. (at_node v i).1);
      }
