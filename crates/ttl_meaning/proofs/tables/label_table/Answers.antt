use Rattle.std.specs.Prelude.{string_bytes}
use Rattle.ttl_meaning.proofs.DocumentLemmas.{AreLabels-keys, none_left}
use Rattle.ttl_meaning.proofs.tables.label_table.Goals as goal

pub returns : goal.returns
returns c =
    AreLabels-keys c.args.labels c.loop-label.table.items c.len.ensures.ordered
    (none_left string_bytes c.loop-label.table.items c.loop-label.label-iterator c.args.labels.keys
    c.in-None.ensures.steps.0 c.loop-label.invariant)
