use Rattle.std.proofs.Common.{◌≡◌, sym, ◌∙◌, arith}
use Rattle.std.proofs.lemmas.Fmt.{decimal_injective}
use Rattle.ttl_meaning.proofs.document.Document.number.Goals as goal

pub returns-else-number-self : goal.returns-else-number-self
returns-else-number-self c = λ n most some is.
    let number = c.in_ok-number.number in
    let same : n ≡ number =
    decimal_injective n number (omega (arith, most, c.args.self.now.few)) (omega arith)
    (is ∙ sym c.in_ok-number.ensures.1) in
    omega (arith, most, same, c.if-number-self.false)
