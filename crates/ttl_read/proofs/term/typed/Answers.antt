use Rattle.std.proofs.Common.{◌≡◌, sym, subst}
use Rattle.ttl_meaning.specs.Terms.{judged, typed, said}
use Rattle.ttl_read.specs.Found.{Answers}
use Rattle.ttl_read.specs.ReadTerm.{found_typed}
use Rattle.ttl_read.proofs.term.typed.Goals as goal

pub returns-in-Ok : goal.returns-in-Ok
returns-in-Ok c =
    let text = c.args.text.now in
    let string = c.args.token.now in
    let iri = c.args.iri.now in
    subst (λ datatype. Answers (λ answer. answer ≡ found_typed text string iri datatype) c.judged.result)
    (sym c.in-Ok.ensures)
    (c.judged.ensures (judged (typed (said text string) c.in-Ok.datatype)) c.typed_string.ensures)
