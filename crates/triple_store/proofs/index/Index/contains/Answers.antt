use Rattle.triple_store.proofs.IndexLemmas.{tested_at}
use Rattle.triple_store.proofs.index.Index.contains.Goals as goal

pub returns : goal.returns
returns c =
    let entries = c.self.inside.entries.keys in
    let t = c.args.t.now in
    rw (← c.self.view_is)
    (tested_at c.self.inside.arrangement entries t c.entry.result c.contains.result
    c.entry.ensures.entry c.contains.ensures)
