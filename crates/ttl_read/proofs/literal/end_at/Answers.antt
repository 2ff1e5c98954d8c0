use Rattle.std.proofs.Common.{refl, sym, ◌∙◌, rules}
use Rattle.ttl_read.proofs.HereLemmas.{is_here}
use Rattle.ttl_read.proofs.LiteralLemmas.{tag_ends, datatype_ends, plain_ends}
use Rattle.ttl_read.proofs.literal.end_at.Goals as goal

pub returns-then-eq-clause-parses : goal.returns-then-eq-clause-parses
returns-then-eq-clause-parses c =
    let here = is_here c.args.reader.now c.utf8.text c.requires.stands c.requires.next in
    tag_ends here (sym c.eq.ensures ∙ c.if-eq.true) (search rules) c.pass.ensures.place

pub returns-then-eq-2-clause-parses : goal.returns-then-eq-2-clause-parses
returns-then-eq-2-clause-parses c =
    let here = is_here c.args.reader.now c.utf8.text c.requires.stands c.requires.next in
    datatype_ends here (sym c.eq-2.ensures ∙ c.if-eq-2.true) _ refl
    c.pass-then-eq-2.ensures.place _ _ _ c.iri.result c.iri.ensures.parses

pub returns-clause-parses : goal.returns-clause-parses
returns-clause-parses c =
    let here = is_here c.args.reader.now c.utf8.text c.requires.stands c.requires.next in
    plain_ends here (sym c.eq.ensures ∙ c.if-eq.false)
    (sym c.eq-2.ensures ∙ c.if-eq-2.false) (search rules) refl
