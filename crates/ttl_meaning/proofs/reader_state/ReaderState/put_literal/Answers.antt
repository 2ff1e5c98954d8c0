use Rattle.std.proofs.lemmas.Result.{on_ok_weaker}
use Rattle.ttl_meaning.proofs.KeepsLemmas.{DoesSound-put_literal}
use Rattle.ttl_meaning.proofs.reader_state.ReaderState.put_literal.Goals as goal

pub returns-in-Ok-clause-does : goal.returns-in-Ok-clause-does
returns-in-Ok-clause-does c =
    on_ok_weaker c.put_object.result
    (DoesSound-put_literal c.args.self.now c.put_object.new.self c.args.pool.now c.put_object.new.pool
    c.args.at c.args.literal c.in-Ok.term c.in-Ok.ensures.judged) c.put_object.ensures.does
