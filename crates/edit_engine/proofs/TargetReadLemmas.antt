-- What is read for the instances of a class is read for its subclasses, and under rdf:type for each of them.
-- So what is read for targets are parts of the graph, and no answers.
use Rattle.std.specs.Prelude.{◌≡◌, ℕ, false, List, [], ◌∷◌, ◌++◌, flat_map, slice_get, Contains}
use Rattle.std.proofs.Common.{refl, sym, ap, ◌∙◌, append-nil, subst, inl, inr}
use Rattle.std.proofs.lemmas.List.Elements.{Contains-append_cases}
use Rattle.shx_term.specs.Members.{SameMembers}
use Rattle.shx_term.specs.declared.vocabulary.TheConstants.{RDF_TYPE, RDFS_SUB_CLASS_OF}
use Rattle.shx_term.proofs.IdOrderLemmas.{in_term_order_lists}
use Rattle.shx_term.proofs.MemberLemmas.{Contains-from_flat_map, Contains-one, none_in_empty}
use Rattle.shx_term.proofs.SetLemmas.{SameMembers-append, SameMembers-is, SameMembers-itself}
use Rattle.shx_term.proofs.SetLemmas.{SameMembers-flat_map, SameMembers-then}
use Rattle.graph_view.specs.declared.key.Key.{Key}
use Rattle.graph_view.specs.declared.key.Key.TheVariants.{In, Predicate}
use Rattle.graph_view.specs.Graph.{Graph}
use Rattle.graph_view.specs.Key.{is_answer}
use Rattle.path_eval.specs.declared.direction.Direction.TheVariants.{Backward, Forward}
use Rattle.path_eval.specs.Instances.{instance_route}
use Rattle.path_eval.specs.Route.{along, some_times, turned}
use Rattle.path_eval.specs.Values.{nodes_reached, path_reads}
use Rattle.path_eval.specs.Way.{way}
use Rattle.shape_eval.specs.declared.shape.PlanShape.{PlanShape}
use Rattle.shape_eval.specs.declared.target.Target.{Target}
use Rattle.shape_eval.specs.declared.target.Target.TheVariants as target
use Rattle.shape_eval.specs.Targets.{reads_of_target, target_reads, targets_of}
use Rattle.edit_engine.specs.inner.Told.{subclass_route}

-- the key of the instances that are stated of a class
abbrev pub type_keys : ℕ → List Key
type_keys class = In RDF_TYPE class ∷ []

abbrev subclasses_of : Graph → ℕ → List ℕ
subclasses_of g class = (way g Forward subclass_route).to class

-- the nodes that are reached are these
same_nodes : (g : Graph) (class : ℕ)
    → SameMembers (nodes_reached g Forward subclass_route class) (subclasses_of g class)
same_nodes g class = record { each = (in_term_order_lists g.terms (subclasses_of g class)).each }

whole_reads : (g : Graph) (class : ℕ) → path_reads g Backward instance_route class
    ≡ path_reads g Forward subclass_route class ++ flat_map type_keys (subclasses_of g class)
whole_reads g class =
    λ i. append-nil (path_reads g Forward subclass_route class) i
    ++ flat_map type_keys (append-nil (subclasses_of g class) i)

-- what is read for its subclasses, and then for these, is what is read for its instances
pub class_reads : (g : Graph) (class : ℕ)
    → SameMembers (path_reads g Forward subclass_route class
    ++ flat_map type_keys (nodes_reached g Forward subclass_route class))
    (path_reads g Backward instance_route class)
class_reads g class =
    let reads = path_reads g Forward subclass_route class in
    let nodes = nodes_reached g Forward subclass_route class in
    SameMembers-then
    (SameMembers-append reads (flat_map type_keys nodes) reads (flat_map type_keys (subclasses_of g class))
    (SameMembers-itself reads)
    (SameMembers-flat_map type_keys type_keys nodes (subclasses_of g class) (same_nodes g class)
    (λ z c. SameMembers-itself (type_keys z))))
    (SameMembers-is _ _ (sym (whole_reads g class)))

-- ---- parts of the graph

one_part : (key : Key) → is_answer key ≡ false → (k : Key) → Contains (key ∷ []) k → is_answer k ≡ false
one_part key is k c = ap is_answer ((Contains-one key k).0 c) ∙ is

class_part : (g : Graph) (class : ℕ) (key : Key) → Contains (path_reads g Backward instance_route class) key
    → is_answer key ≡ false
class_part g class key c =
    let first = path_reads g Forward subclass_route class in
    let types = flat_map type_keys (subclasses_of g class) in
    let above = class ∷ (way g Forward (some_times (turned (along RDFS_SUB_CLASS_OF)))).to class in
    elim (Contains-append_cases first types key (subst (λ ks. Contains ks key) (whole_reads g class) c)) [
      | inl d ↦
          let at = Contains-from_flat_map (λ x. In RDFS_SUB_CLASS_OF x ∷ []) above key d in
          one_part (In RDFS_SUB_CLASS_OF at.0) refl key at.2
      | inr d ↦
          let at = Contains-from_flat_map type_keys (subclasses_of g class) key d in
          one_part (In RDF_TYPE at.0) refl key at.2
    ]

part_of_target : (g : Graph) (t : Target) (key : Key) → Contains (reads_of_target g t) key
    → is_answer key ≡ false
part_of_target g (target.Node node) key c = absurd (none_in_empty key c)
part_of_target g (target.Class class) key c = class_part g class key c
part_of_target g (target.SubjectsOf p) key c = one_part (Predicate p) refl key c
part_of_target g (target.ObjectsOf p) key c = one_part (Predicate p) refl key c

pub target_part : (shapes : List PlanShape) (g : Graph) (n : ℕ) (key : Key)
    → Contains (target_reads shapes g n) key → is_answer key ≡ false
target_part shapes g n key c =
    let at = Contains-from_flat_map (reads_of_target g) (targets_of (slice_get shapes n)) key c in
    part_of_target g at.0 key at.2
