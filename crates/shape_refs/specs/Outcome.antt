-- What stands in the way of an order of shapes (SHACL, section 3.4.3): a shape that reaches itself, or one
-- from which more references lead on than the limit.
use Rattle.std.specs.Prelude.{◌≡◌, ℕ, suc, List, slice_index, ⊤}
use Rattle.std.specs.declared.cmp.Ordering.TheVariants.{Less}
use Rattle.shx_term.specs.IdOrder.{id_cmp}
use Rattle.shx_term.specs.declared.term.Term.{Term}
use Rattle.shape_decl.specs.Declarations.{Declaration}
use Rattle.shape_order.specs.Chain.{IsCycle, IsRecursive}
use Rattle.shape_order.specs.Levels.{HasSteps}
use Rattle.shape_refs.specs.References.{refers_to}
use Rattle.shape_refs.specs.declared.fault.ReferenceFault.{ReferenceFault}
use Rattle.shape_refs.specs.declared.fault.ReferenceFault.TheVariants as fault

-- no shape reaches itself
pub record IsWithoutCycle (terms : List Term) (ds : List Declaration) : Type 0 where
  pub none : (n : ℕ) → IsRecursive (refers_to terms ds) n → ⊥

-- a cycle of distinct shapes, the first of which is the least shape that reaches itself
pub record IsLeastRecursive (terms : List Term) (ds : List Declaration) (nodes : List ℕ) : Type 0 where
  pub cycle : IsCycle (refers_to terms ds) (slice_index nodes 0) nodes
  pub recursive : IsRecursive (refers_to terms ds) (slice_index nodes 0)
  pub least : (n : ℕ) → id_cmp terms n (slice_index nodes 0) ≡ Less → IsRecursive (refers_to terms ds) n → ⊥

-- the least shape from which more references lead on than the limit
pub record IsLeastTooDeep (limit : ℕ) (terms : List Term) (ds : List Declaration) (shape : ℕ) : Type 0 where
  pub cycles : IsWithoutCycle terms ds
  pub deep : HasSteps (refers_to terms ds) (suc limit) shape
  pub least : (n : ℕ) → id_cmp terms n shape ≡ Less → HasSteps (refers_to terms ds) (suc limit) n → ⊥

-- no shape reaches itself, and none stands too high
pub record AreInReach (limit : ℕ) (terms : List Term) (ds : List Declaration) : Type 0 where
  pub cycles : IsWithoutCycle terms ds
  pub shallow : (n : ℕ) → HasSteps (refers_to terms ds) (suc limit) n → ⊥

-- what each answer says
abbrev pub Tells : ℕ → List Term → List Declaration → ReferenceFault → Type 0
Tells limit terms ds (fault.Recursive cycle) = IsLeastRecursive terms ds cycle.items
Tells limit terms ds (fault.TooDeep shape) = IsLeastTooDeep limit terms ds shape
Tells limit terms ds fault.Memory = ⊤
