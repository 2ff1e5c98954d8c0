use Rattle.std.proofs.lemmas.Result.{on_ok_weaker}
use Rattle.ttl_meaning.proofs.KeepsLemmas.{KeepsOn-put_new}
use Rattle.ttl_meaning.proofs.reader_state.ReaderState.put_new.Goals as goal

pub returns-clause-does : goal.returns-clause-does
returns-clause-does c =
    on_ok_weaker c.put.result
    (KeepsOn-put_new c.args.self.now c.put.new.self c.args.pool.now c.put.new.pool c.anonymous-node.result
    c.in-Some.next c.anonymous-node.ensures c.in-Some.ensures.1) c.put.ensures.does
