-- How a refusal of an edit is printed.
use Rattle.std.specs.Prelude.{ℕ, List, codes}
use Rattle.edit_engine.specs.declared.edit.EditFault.{EditFault}
use Rattle.edit_engine.specs.declared.edit.EditFault.TheVariants.{TooManyTriples, TooManyTerms, Memory}

abbrev pub fault_text : EditFault → List ℕ
fault_text TooManyTriples = codes "the graph is full"
fault_text TooManyTerms = codes "the pool is full"
fault_text Memory = codes "out of memory"
