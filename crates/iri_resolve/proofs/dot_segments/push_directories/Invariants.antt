use Rattle.std.proofs.Common.{length, string_bytes}
use denote.Text.{Utf8}
use denote.Shadow.{shadow}
use Rattle.iri_resolve.proofs.WalkLemmas.{Walking}
use Rattle.iri_resolve.proofs.dot_segments.push_directories.Given as goal

-- the rest is text, and the walk has come to it
abbrev pub invariant-loop-segment : goal.invariant-loop-segment
invariant-loop-segment l = shadow (Utf8 l.rest)
    × Walking l.start (string_bytes l.fn.out) (string_bytes l.out) l.slash l.next l.path l.rest

-- a segment and its slash go
abbrev pub decreases-loop-segment : goal.decreases-loop-segment
decreases-loop-segment l = length l.rest
