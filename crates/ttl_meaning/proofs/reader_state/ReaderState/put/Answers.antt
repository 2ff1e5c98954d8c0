use Rattle.ttl_meaning.proofs.KeepsLemmas.{KeepsOn-put}
use Rattle.ttl_meaning.proofs.reader_state.ReaderState.put.Goals as goal

pub returns-clause-does : goal.returns-clause-does
returns-clause-does c = λ n placed.
    let behind = c.in_ok-context.ensures in
    KeepsOn-put c.args.self.now c.args.pool.now c.behind_node.new.pool c.in-Some.context
    c.in_ok-context.context c.pop.new.self.items c.push.new.self c.behind_node.new.stated
    c.in-Some.ensures.items c.in_ok-push.ensures.items behind.keeps c.len.ensures.vocabulary n
    (λ k is. behind.context k n is placed)
    (λ k bounds triples is here. behind.stated k n bounds triples is placed here)
