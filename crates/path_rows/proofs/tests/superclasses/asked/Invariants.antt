use Rattle.graph_view.specs.ListGraph.{plain_graph}
use Rattle.path_eval.specs.Superclasses.{AreSuperclassesOf}
use Rattle.path_rows.proofs.tests.superclasses.asked.Given as goal

abbrev pub invariant-loop-word : goal.invariant-loop-word
invariant-loop-word l = AreSuperclassesOf l.known (plain_graph l.graph)
