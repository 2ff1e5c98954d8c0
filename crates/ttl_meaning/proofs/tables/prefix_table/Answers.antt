use Rattle.ttl_meaning.proofs.DocumentLemmas.{ArePrefixes-entries, none_left, prefix_of_entry}
use Rattle.ttl_meaning.proofs.tables.prefix_table.Goals as goal

pub returns : goal.returns
returns c =
    ArePrefixes-entries c.args.prefixes c.loop-name.table.items c.len.ensures.ordered
    (none_left prefix_of_entry c.loop-name.table.items c.loop-name.name-iterator c.args.prefixes.entries
    c.in-None.ensures.steps.0 c.loop-name.invariant)
