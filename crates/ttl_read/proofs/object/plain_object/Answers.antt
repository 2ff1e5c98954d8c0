use Rattle.std.proofs.Common.{◌≡◌, true, false, refl, sym, ◌∙◌}
use Rattle.ttl_read.specs.Grammar.{node, literal}
use Rattle.ttl_read.specs.inner.Stops.{goes_on}
use Rattle.ttl_read.proofs.AnswerLemmas.{alone_parses, left_parses, right_parses}
use Rattle.ttl_read.proofs.HereLemmas.{is_here, here_refuses}
use Rattle.ttl_read.proofs.KindLemmas.{apart, begins_literal, literal_begins_no_node, begins_other}
use Rattle.ttl_read.proofs.object.plain_object.Goals as goal

pub returns-then-begins_literal-clause-parses : goal.returns-then-begins_literal-clause-parses
returns-then-begins_literal-clause-parses c =
    let text = c.args.text.now in
    let here = is_here c.args.reader.now c.utf8.text c.requires.stands c.requires.next in
    let k = c.args.token.kind in
    let is : begins_literal k ≡ true = sym c.begins_literal.ensures ∙ c.if-begins_literal.true in
    right_parses (here_refuses (node text) _ goes_on here refl (apart _ _ (literal_begins_no_node text k) is))
    _ _ _ c.literal.result c.literal.ensures.parses

pub returns-else-begins_literal-clause-parses : goal.returns-else-begins_literal-clause-parses
returns-else-begins_literal-clause-parses c =
    let text = c.args.text.now in
    let here = is_here c.args.reader.now c.utf8.text c.requires.stands c.requires.next in
    let k = c.args.token.kind in
    let other : begins_literal k ≡ false = sym c.begins_literal.ensures ∙ c.if-begins_literal.false in
    left_parses (here_refuses (literal text) _ goes_on here refl (begins_other text k other))
    _ _ _ c.node.result (alone_parses _ _ _ _ _ _ _ c.node.result c.node.ensures.parses)
