use Rattle.std.proofs.Common.{codes}
use Rattle.std.proofs.lemmas.Result.{on_ok_weaker}
use Rattle.ttl_meaning.specs.declared.placed.Placed.TheVariants.{Id}
use Rattle.ttl_meaning.specs.State.{AnIri, put}
use Rattle.ttl_meaning.specs.Terms.{rdf_iri}
use Rattle.ttl_meaning.proofs.ItemLemmas.{item_kept, kept_node}
use Rattle.ttl_meaning.proofs.PlacedLemmas.{nil_placed}
use Rattle.ttl_meaning.proofs.reader_state.ReaderState.empty_list.Goals as goal

pub returns-clause-does : goal.returns-clause-does
returns-clause-does c =
    let nil = AnIri (rdf_iri (codes "nil")) in
    on_ok_weaker _ (item_kept (put nil) _ _ _ _ c.if-is_some.ensures)
    (on_ok_weaker _ (kept_node (Id 3) nil _ _ _ _ (nil_placed c.args.pool.now.terms))
    c.put.ensures.does)
