use Rattle.std.proofs.Common.{◌∙◌}
use Rattle.shx_term.proofs.HeldLemmas.{with_terms_grow}
use Rattle.shx_term.specs.TripleTerms.{terms_of}
use Rattle.engine_rows.proofs.tests.opened.read.Goals as goal

pub returns-in-Ok : goal.returns-in-Ok
returns-in-Ok c =
    let held = c.read_document.ensures.pool in
    let grown = with_terms_grow c.args.pool.now.terms (terms_of held.reached.state.triples) in
    (grown.0, held.terms ∙ grown.1)
