use Rattle.std.proofs.Common.{sym}
use Rattle.ttl_tokens.proofs.BlankLemmas.{walk_stops, walk_ends}
use Rattle.ttl_tokens.proofs.blanks.skip_blanks.Goals as goal

pub returns-then-not-is_white : goal.returns-then-not-is_white
returns-then-not-is_white c =
    walk_stops _ _ _ _ (rw c.if-in_comment.false at c.loop-first.invariant.1) c.in-Some.ensures
    (sym c.if-not-is_white.ensures) c.if-first-eq35.false

pub returns : goal.returns
returns c = walk_ends _ _ _ c.loop-first.invariant.1 c.in_default.ensures
