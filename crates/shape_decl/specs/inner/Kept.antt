-- What is kept of a graph while its shapes are declared: of each number that was read, what it reads.
use Rattle.std.specs.Prelude.{◌≡◌, ℕ, nat_eq, List, Option, Some}
use Rattle.indexmap.specs.IndexSet.{contains}
use Rattle.indexmap.specs.IndexMap.{IndexMap, get}
use Rattle.shx_term.specs.declared.limits.Limits.{Limits}
use Rattle.shx_term.specs.declared.vocabulary.TheConstants.{RDFS_CLASS, SH_NODE_SHAPE}
use Rattle.graph_view.specs.Graph.{Graph}
use Rattle.path_eval.specs.Instances.{is_instance}
use Rattle.shape_decl.specs.declared.cell.Cell.{Cell}
use Rattle.shape_decl.specs.declared.path_reading.PathReading.{PathReading}
use Rattle.shape_decl.specs.declared.readings.KnownGraph.{KnownGraph}
use Rattle.shape_decl.specs.declared.readings.ReadLists.{ReadLists}
use Rattle.shape_decl.specs.Lists.{cell_at, list_of}
use Rattle.shape_decl.specs.PathReadings.{path_reading, told_reading}

-- what is kept of a number is so of it
abbrev pub Keeps : {T S : Type 0} → (ℕ → T → Type 0) → IndexMap ℕ T S → Type 0
Keeps P kept = (n : ℕ) (x : _) → get nat_eq kept n ≡ Some x → P n x

abbrev pub IsCellAt : Graph → ℕ → Cell → Type 0
IsCellAt g n cell = cell ≡ cell_at g n

abbrev pub IsListAt : Graph → ℕ → Option (List ℕ) → Type 0
IsListAt g n list = list ≡ list_of g n

abbrev pub IsPathAt : Limits → Graph → ℕ → PathReading → Type 0
IsPathAt limits g n reading = told_reading reading ≡ path_reading limits g n

-- readings are those of the graph
pub record AreReadingsOf (g : Graph) (readings : ReadLists) : Type 0 where
  pub cells : Keeps (IsCellAt g) readings.cells
  pub lists : Keeps (IsListAt g) readings.lists

-- and so is all that is known of it
pub record IsKnownOf (limits : Limits) (g : Graph) (known : KnownGraph) : Type 0 where
  pub readings : AreReadingsOf g known.readings
  pub paths : Keeps (IsPathAt limits g) known.paths
  pub node_shapes : (n : ℕ) → contains nat_eq known.node_shapes n ≡ is_instance g n SH_NODE_SHAPE
  pub classes : (n : ℕ) → contains nat_eq known.classes n ≡ is_instance g n RDFS_CLASS
