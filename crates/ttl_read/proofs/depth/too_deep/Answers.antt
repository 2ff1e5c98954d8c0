use Rattle.std.proofs.Common.{Result, subst, sym, ◌∙◌}
use Rattle.ttl_tokens.specs.declared.token.Token.{Token}
use Rattle.ttl_tokens.specs.declared.token.NoToken.{NoToken}
use Rattle.ttl_read.specs.inner.Reads.{IsNext}
use Rattle.ttl_read.proofs.DepthLemmas.{none_at_none, not_counted, not_too_deep, too_deep_where}
use Rattle.ttl_read.proofs.depth.too_deep.Goals as goal

pub returns-then-is_prefix_or_base : goal.returns-then-is_prefix_or_base
returns-then-is_prefix_or_base c =
    let place = c.args.tokens.now.place in
    let here = subst (λ (n : Result Token NoToken). IsNext c.args.text.now place n) c.in-Ok.is
    c.requires.stands.next in
    not_counted _ _ _ c.in-Ok.first c.utf8.text here
    (sym c.is_prefix_or_base.ensures ∙ c.if-is_prefix_or_base.true)

pub returns-else-is_prefix_or_base : goal.returns-else-is_prefix_or_base
returns-else-is_prefix_or_base c =
    let place = c.args.tokens.now.place in
    let here = subst (λ (n : Result Token NoToken). IsNext c.args.text.now place n) c.in-Ok.is
    c.requires.stands.next in
    too_deep_where _ _ _ c.in-Ok.first _ c.utf8.text here
    (sym c.is_prefix_or_base.ensures ∙ c.if-is_prefix_or_base.false) c.one_too_many.ensures

pub returns-in-Err : goal.returns-in-Err
returns-in-Err c =
    let place = c.args.tokens.now.place in
    let none = subst (λ (n : Result Token NoToken). IsNext c.args.text.now place n) c.in-Err.is
    c.requires.stands.next in
    not_too_deep c.args.text.now c.args.limit place
    (none_at_none c.args.text.now c.args.limit place 0 c.in-Err.field-0.at c.utf8.text none)
