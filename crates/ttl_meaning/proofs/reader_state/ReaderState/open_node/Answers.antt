use Rattle.std.proofs.lemmas.Result.{on_ok_weaker}
use Rattle.ttl_meaning.specs.declared.context.Context.TheVariants.{About as AnAbout}
use Rattle.ttl_meaning.specs.declared.placed.Placed.TheVariants.{Term}
use Rattle.ttl_meaning.specs.State.{ABlank, About, enter}
use Rattle.ttl_meaning.specs.Items.{put_new}
use Rattle.ttl_meaning.specs.Terms.{anonymous}
use Rattle.ttl_meaning.proofs.ItemLemmas.{item_kept, kept_entered}
use Rattle.ttl_meaning.proofs.reader_state.ReaderState.open_node.Goals as goal

pub returns-clause-does : goal.returns-clause-does
returns-clause-does c =
    on_ok_weaker _
    (item_kept (λ s. enter (About (ABlank (anonymous s.scope s.next))) (put_new s)) _ _ _ _
    c.if-is_some.ensures)
    (on_ok_weaker _
    (kept_entered put_new (λ s. About (ABlank (anonymous s.scope s.next)))
    (AnAbout (Term c.anonymous-node.result)) c.args.self.now c.args.pool.now _ c.put_new.new.pool _
    (λ bounds s keeps has. cc (c.anonymous-node.ensures, keeps.scope, keeps.next))
    c.in_ok-put_new.ensures.does)
    c.enter.ensures)
