use Rattle.std.proofs.Common.{codes}
use Rattle.std.proofs.lemmas.Result.{on_ok_weaker}
use Rattle.ttl_meaning.specs.declared.context.Context.TheVariants.{Of as AnOf}
use Rattle.ttl_meaning.specs.declared.placed.Placed.TheVariants.{Term, Id}
use Rattle.ttl_meaning.specs.State.{ABlank, Of, enter}
use Rattle.ttl_meaning.specs.Items.{put_new}
use Rattle.ttl_meaning.specs.Terms.{anonymous, rdf_iri}
use Rattle.ttl_meaning.proofs.ItemLemmas.{item_kept, kept_entered}
use Rattle.ttl_meaning.proofs.PlacedLemmas.{first_placed}
use Rattle.ttl_meaning.proofs.reader_state.ReaderState.first_cell.Goals as goal

pub returns-clause-does : goal.returns-clause-does
returns-clause-does c =
    let first = rdf_iri (codes "first") in
    on_ok_weaker _
    (item_kept (λ s. enter (Of (ABlank (anonymous s.scope s.next)) first) (put_new s)) _ _ _ _
    c.if-is_some.ensures)
    (on_ok_weaker _
    (kept_entered put_new (λ s. Of (ABlank (anonymous s.scope s.next)) first)
    (AnOf (Term c.anonymous-cell.result) (Id 1)) c.args.self.now c.args.pool.now _ c.put_new.new.pool _
    (λ bounds s keeps has. (
      cc (c.anonymous-cell.ensures, keeps.scope, keeps.next),
      first_placed c.put_new.new.pool.terms has,
    ))
    c.in_ok-put_new.ensures.does)
    c.enter.ensures)
