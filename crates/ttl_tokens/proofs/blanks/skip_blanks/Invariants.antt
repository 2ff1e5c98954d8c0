use Rattle.std.proofs.Common.{◌≡◌, false, length}
use denote.Text.{Utf8}
use denote.Shadow.{shadow}
use Rattle.std.specs.Str.{chars}
use Rattle.ttl_tokens.specs.inner.BlankWalk.{after_blanks}
use Rattle.ttl_tokens.proofs.blanks.skip_blanks.Given as goal

abbrev pub invariant-loop-first : goal.invariant-loop-first
invariant-loop-first l =
    shadow (Utf8 l.rest) × (after_blanks l.in_comment (chars l.rest) ≡ after_blanks false (chars l.text))

abbrev pub decreases-loop-first : goal.decreases-loop-first
decreases-loop-first l = length (chars l.rest)
