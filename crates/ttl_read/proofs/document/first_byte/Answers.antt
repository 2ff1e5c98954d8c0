use Rattle.std.proofs.lemmas.Str.{IsCharBoundary-start}
use Rattle.ttl_read.proofs.StartLemmas.{mark_passed, no_mark}
use Rattle.ttl_read.proofs.document.first_byte.Goals as goal

pub returns-then-starts_with-clause-place : goal.returns-then-starts_with-clause-place
returns-then-starts_with-clause-place c =
    mark_passed c.args.text.now _ c.if-starts_with.ensures.cases.1.split

pub returns-else-starts_with-clause-place : goal.returns-else-starts_with-clause-place
returns-else-starts_with-clause-place c = no_mark c.args.text.now c.if-starts_with.ensures.cases

pub returns-else-starts_with-clause-boundary : goal.returns-else-starts_with-clause-boundary
returns-else-starts_with-clause-boundary c = IsCharBoundary-start c.args.text.now c.utf8.text
