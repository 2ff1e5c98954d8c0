-- How a fault is told.
use Rattle.std.specs.Prelude.{ℕ, List, codes}
use Rattle.iri_resolve.specs.declared.fault.IriFault.{IriFault}
use Rattle.iri_resolve.specs.declared.fault.IriFault.TheVariants.{NotAllowed, Memory}

abbrev pub fault_text : IriFault → List ℕ
fault_text NotAllowed = codes "the reference has a character that an IRI may not have"
fault_text Memory = codes "out of memory"
