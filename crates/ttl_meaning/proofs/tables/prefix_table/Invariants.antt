use Rattle.std.proofs.Common.{◌≡◌, ◌++◌, map}
use Rattle.ttl_meaning.proofs.DocumentLemmas.{prefix_of_entry}
use Rattle.ttl_meaning.proofs.tables.prefix_table.Given as goal

abbrev pub invariant-loop-name : goal.invariant-loop-name
invariant-loop-name l =
    l.table.items ++ map prefix_of_entry l.name-iterator ≡ map prefix_of_entry l.fn.prefixes.entries
