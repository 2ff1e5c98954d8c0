use Rattle.std.proofs.Common.{◌≡◌, ◌++◌, map}
use Rattle.std.specs.Prelude.{string_bytes}
use Rattle.ttl_meaning.proofs.tables.label_table.Given as goal

abbrev pub invariant-loop-label : goal.invariant-loop-label
invariant-loop-label l =
    l.table.items ++ map string_bytes l.label-iterator ≡ map string_bytes l.fn.labels.keys
