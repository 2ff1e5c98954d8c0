use Rattle.std.proofs.Common.{length}
use denote.Text.{Utf8}
use denote.Shadow.{shadow}
use Rattle.std.specs.Str.{chars}
use Rattle.ttl_tokens.specs.Chars.{PastChar}
use Rattle.ttl_tokens.specs.inner.IriRefForms.{iri_item}
use Rattle.ttl_tokens.specs.Walks.{Runs}
use Rattle.ttl_tokens.proofs.iri_ref.skip_iri_items.Given as goal

abbrev pub invariant-loop-behind : goal.invariant-loop-behind
invariant-loop-behind l = shadow (Utf8 l.rest) × Runs PastChar iri_item (chars l.text) (chars l.rest)

abbrev pub decreases-loop-behind : goal.decreases-loop-behind
decreases-loop-behind l = length (chars l.rest)
