use Rattle.std.proofs.Common.{codes}
use Rattle.std.proofs.lemmas.Result.{on_ok_weaker}
use Rattle.ttl_meaning.specs.declared.placed.Placed.TheVariants.{Id}
use Rattle.ttl_meaning.specs.State.{begin_verb}
use Rattle.ttl_meaning.specs.Terms.{rdf_iri}
use Rattle.ttl_meaning.proofs.ItemLemmas.{item_kept, kept_verb}
use Rattle.ttl_meaning.proofs.PlacedLemmas.{type_placed}
use Rattle.ttl_meaning.proofs.reader_state.ReaderState.on_a.Goals as goal

pub returns : goal.returns
returns c = λ pool.
    on_ok_weaker _ (item_kept (begin_verb (rdf_iri (codes "type"))) _ pool _ _ c.if-is_some.ensures)
    (on_ok_weaker _ (kept_verb (Id 0) (rdf_iri (codes "type")) _ _ pool (type_placed pool.terms))
    c.begin_verb.ensures)
