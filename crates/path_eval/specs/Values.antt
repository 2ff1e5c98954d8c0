-- The values of a path, and what is read for them.
use Rattle.std.specs.Prelude.{◌≡◌, ℕ, List}
use Rattle.shx_term.specs.IdOrder.{id_cmp, in_term_order}
use Rattle.shx_term.specs.InOrder.{Lists}
use Rattle.graph_view.specs.declared.key.Key.{Key}
use Rattle.graph_view.specs.Graph.{Graph}
use Rattle.shx_term.specs.Members.{SameMembers}
use Rattle.path_eval.specs.declared.direction.Direction.{Direction}
use Rattle.path_eval.specs.declared.direction.Direction.TheVariants.{Forward}
use Rattle.path_eval.specs.Relation.{PathRelates, Reaches}
use Rattle.path_eval.specs.Route.{Route}
use Rattle.path_eval.specs.Way.{way}

-- the nodes that a path reaches from x
abbrev pub nodes_reached : Graph → Direction → Route → ℕ → List ℕ
nodes_reached g d route x = in_term_order g.terms ((way g d route).to x)

abbrev pub path_reads : Graph → Direction → Route → ℕ → List Key
path_reads g d route x = (way g d route).reads x

-- the values of a path at x (SHACL, section 3.7: the value nodes of a property shape)
abbrev pub path_values : Graph → Route → ℕ → List ℕ
path_values g route x = nodes_reached g Forward route x

-- the list has the nodes that the path relates, in term order, each once
abbrev pub ListsReached : Graph → Direction → Route → ℕ → List ℕ → Type 0
ListsReached g d route x ys = Lists (id_cmp g.terms) (Reaches d (PathRelates g.triples route) x) ys

-- the path does the same from x in both graphs
pub record IsSamePath (g h : Graph) (d : Direction) (route : Route) (x : ℕ) : Type 0 where
  pub nodes : nodes_reached g d route x ≡ nodes_reached h d route x
  pub reads : SameMembers (path_reads g d route x) (path_reads h d route x)
