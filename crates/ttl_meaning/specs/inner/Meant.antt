-- That a call answers what is meant.
use Rattle.std.specs.Prelude.{◌≡◌, Result, Ok, Err}
use Rattle.ttl_meaning.specs.declared.fault.NoTerm.{NoTerm}
use Rattle.ttl_meaning.specs.declared.fault.NoTerm.TheVariants.{Fault, Memory}
use Rattle.ttl_meaning.specs.declared.fault.TermFaultKind.{TermFaultKind}

-- want of memory says nothing
abbrev pub IsMeant : {X : Type 0} → Result X TermFaultKind → Result X NoTerm → Type 0
IsMeant meant (Ok x) = meant ≡ Ok x
IsMeant meant (Err (Fault kind)) = meant ≡ Err kind
IsMeant meant (Err Memory) = Unit
