use Rattle.std.proofs.Common.{◌≡◌, sym, ◌∙◌}
use Rattle.ttl_tokens.specs.declared.token.TokenKind.TheVariants.{BlankLabel}
use Rattle.ttl_tokens.specs.Unescaped.{token_text}
use Rattle.ttl_meaning.specs.Terms.{datatype_of, judged, typed}
use Rattle.ttl_read.specs.ReadTerm.{IsFound, IsNodeFound, ANode, ALiteral, found}
use Rattle.ttl_read.proofs.FoundLemmas.{Answers-weaker}
use Rattle.ttl_read.proofs.KindLemmas.{kind_is}
use Rattle.ttl_read.proofs.term.term_at.Goals as goal

pub returns-then-eq : goal.returns-then-eq
returns-then-eq c =
    let text = c.args.text.now in
    let token = c.args.token.now in
    let label = kind_is BlankLabel token.kind (sym c.eq.ensures ∙ c.if-eq.true) in
    Answers-weaker (IsNodeFound text token c.args.document.now) (IsFound text token c.args.document.now)
    (λ answer is. ANode label is) c.node.result c.node.ensures

pub returns-then-is_bare_literal : goal.returns-then-is_bare_literal
returns-then-is_bare_literal c =
    let text = c.args.text.now in
    let token = c.args.token.now in
    let meant = judged (typed (token_text text token) (datatype_of token.kind)) in
    Answers-weaker (λ answer. answer ≡ found token.start token.end meant)
    (IsFound text token c.args.document.now)
    (λ answer is. ALiteral (sym c.if-is_bare_literal.ensures) is) c.judged.result
    (c.judged.ensures meant c.bare_literal.ensures)
