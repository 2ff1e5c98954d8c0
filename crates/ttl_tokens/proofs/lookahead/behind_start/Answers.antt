use Rattle.std.proofs.Common.{rules}
use Rattle.std.specs.Str.{IsUtf8}
use Rattle.ttl_tokens.proofs.PlaceLemmas.{rest_le}
use Rattle.ttl_tokens.proofs.AheadLemmas.{prefix_rest, none_at}
use Rattle.ttl_tokens.proofs.lookahead.behind_start.Goals as goal

pub overflow_sub-result : goal.overflow_sub-result
overflow_sub-result c =
    let utf8 : IsUtf8 c.in-Some.end.now = search rules in
    rest_le _ _
    (prefix_rest c.args.text.now c.args.start _ _ c.range_from.ensures.value c.range_from.utf8 utf8
    c.in-Some.ensures.takes)

pub returns-in-Some : goal.returns-in-Some
returns-in-Some c =
    let utf8 : IsUtf8 c.in-Some.end.now = search rules in
    λ p. none_at c.args.text.now c.args.start p _ _ c.utf8.text c.range_from.ensures.value c.range_from.utf8
    utf8 c.requires.none c.in-Some.ensures.takes

pub returns-in-None : goal.returns-in-None
returns-in-None c = c.new.ensures c.args.text.now
