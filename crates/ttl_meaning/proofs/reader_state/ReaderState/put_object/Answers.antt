use Rattle.ttl_meaning.proofs.KeepsLemmas.{KeepsOn-put_object}
use Rattle.ttl_meaning.proofs.reader_state.ReaderState.put_object.Goals as goal

pub returns-clause-does : goal.returns-clause-does
returns-clause-does c =
    let behind = c.in_ok-context.ensures in
    KeepsOn-put_object c.args.self.now c.args.pool.now c.behind_literal.new.pool c.in-Some.context
    c.in_ok-context.context c.pop.new.self.items c.push.new.self c.behind_literal.new.stated
    c.in-Some.ensures.items c.in_ok-push.ensures.items behind.keeps c.len.ensures.vocabulary c.args.literal
    c.requires behind.context behind.stated
