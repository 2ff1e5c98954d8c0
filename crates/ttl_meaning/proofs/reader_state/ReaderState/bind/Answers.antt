use Rattle.std.proofs.Common.{Some, string_bytes}
use Rattle.std.proofs.lemmas.Map.Text.{btree_map_updates_text}
use Rattle.ttl_meaning.proofs.ItemLemmas.{kept_bound}
use Rattle.ttl_meaning.proofs.reader_state.ReaderState.bind.Goals as goal

pub returns : goal.returns
returns c = λ pool.
    let name = c.take_held-name.result in
    let taken = c.take_held-name.new.self in
    kept_bound c.args.iri name c.insert.new.self c.args.self.now pool taken c.take_held-name.ensures.said
    (btree_map_updates_text (string_bytes name) taken.prefixes c.insert.new.self (Some c.args.iri)
    c.in_ok-insert.ensures.updates)
    (c.take_held-name.ensures.kept pool)
