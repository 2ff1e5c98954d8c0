-- How a refusal of a triple is printed.
use Rattle.std.specs.Prelude.{ℕ, List, codes}
use Rattle.graph_view.specs.declared.edit.StoreFault.{StoreFault}
use Rattle.graph_view.specs.declared.edit.StoreFault.TheVariants.{TooMany, Memory}

abbrev pub fault_text : StoreFault → List ℕ
fault_text TooMany = codes "the graph is full"
fault_text Memory = codes "out of memory"
