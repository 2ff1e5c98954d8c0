use Rattle.std.proofs.lemmas.Str.{IsCharBoundary-start}
use Rattle.turtle_rows.proofs.tests.terms.add_found_by.Goals as goal

pub next_token-requires-clause-boundary : goal.next_token-requires-clause-boundary
next_token-requires-clause-boundary c = IsCharBoundary-start c.args.text.now c.utf8.text
