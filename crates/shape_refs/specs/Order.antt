-- Declared shapes in an order in which each stands behind those that it refers to.
use Rattle.std.specs.Prelude.{ℕ, nat_eq, List, map, Contains}
use Rattle.std.specs.List.{IsDistinct}
use Rattle.std.specs.List.Sorted.{IsStrictlySortedBy}
use Rattle.shx_term.specs.IdOrder.{id_cmp}
use Rattle.shx_term.specs.Members.{SameMembers}
use Rattle.shx_term.specs.declared.term.Term.{Term}
use Rattle.shape_decl.specs.Declarations.{Declaration}
use Rattle.shape_order.specs.Order.{IsOrdered}
use Rattle.shape_refs.specs.References.{named_by, refers_to}

abbrev pub nodes_declared : List Declaration → List ℕ
nodes_declared ds = map (λ d. d.node) ds

-- in term order, each shape once
abbrev pub StandInOrder : List Term → List Declaration → Type 0
StandInOrder terms ds = IsStrictlySortedBy (id_cmp terms) (nodes_declared ds)

-- what a shape names is declared
abbrev pub NameDeclared : List Declaration → Type 0
NameDeclared ds =
    (d : Declaration) (n : ℕ) → Contains ds d → Contains (named_by d) n → Contains (nodes_declared ds) n

-- the nodes of the declared shapes, each once, and behind those that it refers to
pub record IsShapeOrder (terms : List Term) (ds : List Declaration) (nodes : List ℕ) : Type 0 where
  pub declared : SameMembers nodes (nodes_declared ds)
  pub once : IsDistinct nat_eq nodes
  pub behind : IsOrdered (refers_to terms ds) nodes
