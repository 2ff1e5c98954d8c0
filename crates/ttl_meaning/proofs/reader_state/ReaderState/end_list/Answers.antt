use Rattle.std.proofs.Common.{codes}
use Rattle.ttl_meaning.specs.declared.placed.Placed.TheVariants.{Id}
use Rattle.ttl_meaning.specs.State.{AnIri, put, leave}
use Rattle.ttl_meaning.specs.Terms.{rdf_iri}
use Rattle.ttl_meaning.proofs.ItemLemmas.{item_kept, kept_in_turn, kept_node}
use Rattle.ttl_meaning.proofs.PlacedLemmas.{nil_placed}
use Rattle.ttl_meaning.proofs.reader_state.ReaderState.end_list.Goals as goal

pub returns-clause-does : goal.returns-clause-does
returns-clause-does c =
    let nil = AnIri (rdf_iri (codes "nil")) in
    item_kept (λ s. leave (put nil s)) _ _ _ _ c.if-is_some.ensures
    (kept_in_turn (put nil) leave _ _ _ _ _ _
    (kept_node (Id 3) nil _ _ _ _ (nil_placed c.args.pool.now.terms) c.in_ok-put.ensures.does)
    (c.leave.ensures _))
