-- What is known of the classes above classes, and of the node that was asked about last.
use Rattle.std.specs.Prelude.{ℕ, List, All, IfSome}
use Rattle.shx_term.specs.declared.vocabulary.TheConstants.{RDFS_SUB_CLASS_OF}
use Rattle.shx_term.specs.Members.{SameMembers}
use Rattle.graph_view.specs.declared.key.Key.{Key}
use Rattle.graph_view.specs.Graph.{Graph}
use Rattle.path_eval.specs.declared.direction.Direction.TheVariants.{Forward}
use Rattle.path_eval.specs.declared.superclasses.Superclasses.{Superclasses}
use Rattle.path_eval.specs.declared.wider.Wider.{Wider}
use Rattle.path_eval.specs.Instances.{instance_route}
use Rattle.path_eval.specs.Route.{Route, along, any_times}
use Rattle.path_eval.specs.Values.{nodes_reached, path_reads}

-- from a class to the classes above it, and to itself
abbrev pub superclass_route : Route
superclass_route = any_times (along RDFS_SUB_CLASS_OF)

-- what a path reaches from x, and the keys that are read on the way there
pub record AreReached (g : Graph) (route : Route) (x : ℕ) (found : List ℕ) (read : List Key) : Type 0 where
  pub classes : SameMembers found (nodes_reached g Forward route x)
  pub keys : SameMembers read (path_reads g Forward route x)

-- the classes above a class
abbrev pub AreWider : Graph → ℕ → Wider → Type 0
AreWider g class wider = AreReached g superclass_route class wider.classes.keys wider.reads

-- the classes of a node
abbrev pub AreClassesOf : Graph → ℕ → Wider → Type 0
AreClassesOf g node all = AreReached g instance_route node all.classes.keys all.reads

-- of each class, the classes above it
abbrev pub AreAllWider : Graph → List (ℕ × Wider) → Type 0
AreAllWider g entries = All (λ entry. AreWider g entry.0 entry.1) entries

-- what is known is right of the graph: what stands above the classes, and the classes of the last node, where
-- they are kept
pub record IsRightOf (known : Superclasses) (g : Graph) : Type 0 where
  pub above : AreAllWider g known.found.entries
  pub last : IfSome known.last.kept (λ all. AreClassesOf g known.last.node all)

-- the same as a word that who calls passes on, and never takes apart
unfoldable pub AreSuperclassesOf : Superclasses → Graph → Type 0
AreSuperclassesOf known g = IsRightOf known g
