use Rattle.std.proofs.Common.{true, sym, subst}
use Rattle.std.specs.String.{string_bytes}
use Rattle.std.proofs.lemmas.Map.Text.{btree_set_updates_text}
use Rattle.std.proofs.lemmas.Result.{on_ok_weaker}
use Rattle.ttl_meaning.proofs.KeepsLemmas.{KeepsOn-put_label, KnowsLabel, HasAlso, HasAlso-itself}
use Rattle.ttl_meaning.proofs.reader_state.ReaderState.put_label.Goals as goal
use Rattle.ttl_meaning.proofs.reader_state.ReaderState.put_label.Goals.{
  then-not-contains+in_ok-from_str+in_ok-insert,
}
use Rattle.ttl_meaning.proofs.reader_state.ReaderState.put_label.Goals.{else-not-contains}

pub returns-clause-does : goal.returns-clause-does
returns-clause-does c =
    let label = c.args.label.now in
    let knows : KnowsLabel label c.args.self.now c.if-not-contains.self =
    elim c.if-not-contains.branch [
      | then-not-contains+in_ok-from_str+in_ok-insert w ↦ record {
        labels = w.insert.new.self;
        same = w.self-is;
        also =
            subst (λ text. HasAlso c.args.self.now.labels text w.insert.new.self) w.in_ok-from_str.ensures.ok
            (btree_set_updates_text (string_bytes w.in_ok-from_str.field-0) c.args.self.now.labels
            w.insert.new.self true w.in_ok-insert.ensures.updates);
      }
      | else-not-contains w ↦ record {
        labels = c.args.self.now.labels;
        same = w.self-is;
        also = HasAlso-itself c.args.self.now.labels label (sym w.if-not-contains.ensures);
      }
    ] in
    on_ok_weaker c.put.result
    (KeepsOn-put_label c.args.self.now c.if-not-contains.self c.put.new.self c.args.pool.now c.put.new.pool
    c.in_ok-node.node label knows c.in_ok-node.ensures) c.put.ensures.does
