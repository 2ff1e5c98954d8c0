-- What a search for the classes above a class has met and read.
use Rattle.std.specs.Prelude.{◌≡◌, ℕ, List, ◌++◌, Contains, ◌⊎◌}
use Rattle.shx_term.specs.declared.vocabulary.TheConstants.{RDFS_SUB_CLASS_OF}
use Rattle.graph_view.specs.declared.key.Key.{Key}
use Rattle.graph_view.specs.declared.key.Key.TheVariants.{Out}
use Rattle.graph_view.specs.Graph.{Graph, AllKnown}
use Rattle.path_eval.specs.declared.wider.Wider.{Wider}
use Rattle.path_eval.specs.Relation.{PathRelates}
use Rattle.path_eval.specs.Route.{along}
use Rattle.path_eval.specs.Superclasses.{AreAllWider, AreWider, superclass_route}

-- y stands directly above x
abbrev pub IsNext : Graph → ℕ → ℕ → Type 0
IsNext g x y = PathRelates g.triples (along RDFS_SUB_CLASS_OF) x y

-- y is x, or stands above it
abbrev pub IsAbove : Graph → ℕ → ℕ → Type 0
IsAbove g x y = PathRelates g.triples superclass_route x y

-- what is read of a class
abbrev pub class_key : ℕ → Key
class_key class = Out class RDFS_SUB_CLASS_OF

-- the key is that of a class above this one, and all that stands directly above that was met
pub record IsFollowed (g : Graph) (from : ℕ) (met : List ℕ) (key : Key) : Type 0 where
  pub class : ℕ
  pub is : key ≡ class_key class
  pub above : IsAbove g from class
  pub next : (y : ℕ) → IsNext g class y → Contains met y

-- more was met behind what was met, and more is read: nothing but what is above a class, and what is read of
-- such classes once all above them was met
pub record Grows (g : Graph) (from : ℕ) (met : List ℕ) (read : List Key) (met' : List ℕ) (read' : List Key)
    : Type 0 where
  pub rest : List ℕ
  pub begins : met' ≡ met ++ rest
  pub keeps : (k : Key) → Contains read k → Contains read' k
  pub only : (y : ℕ) → Contains met' y → Contains met y ⊎ IsAbove g from y
  pub followed : (k : Key) → Contains read' k → Contains read k ⊎ IsFollowed g from met' k

abbrev pub GrowsTo : Graph → ℕ → Wider → Wider → Type 0
GrowsTo g from old new = Grows g from old.classes.keys old.reads new.classes.keys new.reads

-- what was met stays met; if what is known is right of a class in a graph, and the class is above another, no
-- more is met than what is above that
pub record TakesOver (known old new : Wider) : Type 0 where
  pub held : (y : ℕ) → Contains old.classes.keys y → Contains new.classes.keys y
  pub grows : (g : Graph) → AllKnown g → (class from : ℕ) → AreWider g class known → IsAbove g from class
      → GrowsTo g from old new

-- classes were met; if what is known is right of a graph, and these are above another, no more is met than
-- what is above that
pub record Meets (known : List (ℕ × Wider)) (classes : List ℕ) (old new : Wider) : Type 0 where
  pub here : (y : ℕ) → Contains classes y → Contains new.classes.keys y
  pub held : (y : ℕ) → Contains old.classes.keys y → Contains new.classes.keys y
  pub grows : (g : Graph) → AllKnown g → AreAllWider g known → (from : ℕ)
      → ((y : ℕ) → Contains classes y → IsAbove g from y) → GrowsTo g from old new

-- a class was looked up, and what is above it was met
pub record Follows (g : Graph) (class : ℕ) (old new : Wider) : Type 0 where
  pub grows : GrowsTo g class old new
  pub read : Contains new.reads (class_key class)
