-- SHACL instances: the test, what it depends on, and what a type tells.
use Rattle.std.specs.Prelude.{◌≡◌, ◌≢◌, ◌<◌, ℕ, nat_eq, List, length, Contains, ◌↔◌, IsTrue}
use Rattle.std.specs.Cmp.{nat_eq_equiv}
use Rattle.std.specs.List.{list_any}
use Rattle.std.proofs.Common.{ap, ◌∙◌, inl, inr, arith, refl}
use Rattle.std.proofs.lemmas.Bool.{eqb-true}
use Rattle.shx_term.specs.declared.triple.Triple.{Triple}
use Rattle.shx_term.specs.declared.vocabulary.TheConstants.{RDF_TYPE, RDFS_SUB_CLASS_OF}
use Rattle.shx_term.proofs.MemberLemmas.{Contains-test}
use Rattle.graph_view.specs.Agree.{Agree}
use Rattle.graph_view.specs.Graph.{Graph, AllKnown, HasAlso, IsWithout}
use Rattle.path_eval.specs.declared.direction.Direction.{Direction}
use Rattle.path_eval.specs.declared.direction.Direction.TheVariants.{Backward, Forward}
use Rattle.path_eval.specs.Instances.{IsInstance, instance_route, is_instance}
use Rattle.path_eval.specs.inner.Course.{whole}
use Rattle.shx_term.specs.Chains.{Chain}
use Rattle.path_eval.specs.Values.{nodes_reached, path_reads}
use Rattle.path_eval.proofs.AgreementLemmas.{path_agreement}
use Rattle.path_eval.proofs.ChainLemmas.{Chain-keeps, chain_here, chain_step}
use Rattle.path_eval.proofs.MeetsLemmas.{path_lists}

-- the path of instances ends at the same place in either direction
pub instance_end : (d : Direction) → 1 ≡ (whole d instance_route).end
instance_end Forward = refl
instance_end Backward = refl

pub instance_test : (g : Graph) → AllKnown g → (node class : ℕ)
    → IsTrue (is_instance g node class) ↔ IsInstance g.triples node class
instance_test g known node class =
    let test =
    Contains-test nat_eq nat_eq_equiv eqb-true (nodes_reached g Forward instance_route node) class in
    let listed = (path_lists g known Forward instance_route node).each class in
    (λ h. listed.0 (test.0 h), λ is. test.1 (listed.1 is))

pub instance_agreement : (g h : Graph) → AllKnown g → AllKnown h → (node : ℕ) → node < length g.terms
    → Agree g h (Contains (path_reads g Forward instance_route node))
    → (class : ℕ) → is_instance g node class ≡ is_instance h node class
instance_agreement g h known known' node inside agree class =
    ap (list_any (nat_eq class))
    (path_agreement g h known known' Forward instance_route node inside agree).nodes

-- where the types of a node are kept, and all subclasses, so are its classes
pub instance_kept : (ts us : List Triple) (node : ℕ)
    → ((o : ℕ) → Contains ts (record { s = node; p = RDF_TYPE; o = o })
    → Contains us (record { s = node; p = RDF_TYPE; o = o }))
    → ((s o : ℕ) → Contains ts (record { s = s; p = RDFS_SUB_CLASS_OF; o = o })
    → Contains us (record { s = s; p = RDFS_SUB_CLASS_OF; o = o }))
    → (class : ℕ) → IsInstance ts node class → IsInstance us node class
instance_kept ts us node types wider class is =
    let R = λ (s o : ℕ). Contains ts (record { s = s; p = RDFS_SUB_CLASS_OF; o = o }) in
    let S = λ (s o : ℕ). Contains us (record { s = s; p = RDFS_SUB_CLASS_OF; o = o }) in
    let kind = is.0 in
    let rest = is.2 in
    let chain : Chain S kind rest.0 =
    Chain-keeps R (Chain S kind) (λ x y c step. chain_step S kind x y c (wider x y step)) kind rest.0 rest.1
    (chain_here S kind) in
    (kind, types kind is.1, (rest.0, chain, rest.2))

-- neither a type of another node nor a subclass is the triple
module _ (t : Triple) (type : t.p ≡ RDF_TYPE) where
  other_node : (node o : ℕ) → node ≢ t.s → record { s = node; p = RDF_TYPE; o = o } ≡ t → ⊥
  other_node node o other e = other (ap (λ (u : Triple). u.s) e)

  other_predicate : (s o : ℕ) → record { s = s; p = RDFS_SUB_CLASS_OF; o = o } ≡ t → ⊥
  other_predicate s o e =
      let same : RDFS_SUB_CLASS_OF ≡ RDF_TYPE = ap (λ (u : Triple). u.p) e ∙ type in
      omega (arith, same)

pub instance_inserted : (ts us : List Triple) (t : Triple) → t.p ≡ RDF_TYPE → HasAlso ts us t
    → (node class : ℕ) → node ≢ t.s → IsInstance ts node class ↔ IsInstance us node class
instance_inserted ts us t type also node class other =
    let more = λ (u : Triple) (c : Contains ts u). (also.each u).1 (inl c) in
    let back : (u : Triple) → (u ≡ t → ⊥) → Contains us u → Contains ts u =
    λ u not c. elim ((also.each u).0 c) [ inl d ↦ d | inr e ↦ absurd (not e) ] in (
      instance_kept ts us node (λ o. more _) (λ s o. more _) class,
      instance_kept us ts node (λ o. back _ (other_node t type node o other))
          (λ s o. back _ (other_predicate t type s o)) class,
    )

pub instance_removed : (ts us : List Triple) (t : Triple) → t.p ≡ RDF_TYPE → IsWithout ts us t
    → (node class : ℕ) → node ≢ t.s → IsInstance ts node class ↔ IsInstance us node class
instance_removed ts us t type without node class other =
    let fewer = λ (u : Triple) (not : u ≡ t → ⊥) (c : Contains ts u). (without.each u).1 (c, not) in
    let back = λ (u : Triple) (c : Contains us u). ((without.each u).0 c).0 in (
      instance_kept ts us node (λ o. fewer _ (other_node t type node o other))
          (λ s o. fewer _ (other_predicate t type s o)) class,
      instance_kept us ts node (λ o. back _) (λ s o. back _) class,
    )
