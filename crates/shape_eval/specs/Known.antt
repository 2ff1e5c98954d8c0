-- What evaluations know of one graph.
use Rattle.graph_view.specs.Graph.{Graph}
use Rattle.path_eval.specs.Superclasses.{AreSuperclassesOf}
use Rattle.shape_eval.specs.declared.known.Known.{Known}

abbrev pub IsKnownOf : Known → Graph → Type 0
IsKnownOf known g = AreSuperclassesOf known.superclasses g
