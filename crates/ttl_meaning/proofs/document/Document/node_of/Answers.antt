use Rattle.std.proofs.Common.{true≢false, sym, ap, ◌≡◌, ◌∙◌, codes, ◌++◌}
use Rattle.ttl_tokens.specs.Unescaped.{token_text as text_of}
use Rattle.ttl_meaning.proofs.NodeLemmas.{its_label}
use Rattle.ttl_meaning.proofs.document.Document.node_of.Goals as goal

pub returns-in-Some : goal.returns-in-Some
returns-in-Some c = λ node has is.
    let text = text_of c.args.text.now c.args.token.now in
    let label = c.in-Some.label.now in
    let stripped = c.in-Some.ensures.cases in
    let spelled : text ≡ codes "_:d-" ++ label =
    sym c.token_text-name.ensures ∙ stripped.1.1 ∙ ap (λ l. codes "_:d-" ++ l) (sym stripped.2) in
    let labelled = its_label c.args.self.now node label has (is ∙ spelled) in
    true≢false (sym (c.has_label.ensures.1 labelled) ∙ c.if-has_label.false)
