use Rattle.ttl_meaning.proofs.DocumentLemmas.{IsDocumentOf-kept}
use Rattle.ttl_meaning.proofs.reader_state.ReaderState.finish.Goals as goal

pub returns : goal.returns
returns c = λ bounds s pool none within is.
    IsDocumentOf-kept bounds s c.args.self pool _ (is.keeps none) within c.into_triples.ensures
    c.in_ok-prefix_table.ensures c.into_iri.ensures.same c.into_iri.ensures.absolute
    c.in_ok-label_table.ensures c.saturating_sub.ensures
