use Rattle.std.proofs.Common.{◌≡◌, true, refl, sym, ◌∙◌}
use Rattle.ttl_meaning.specs.declared.iris.IriRole.TheVariants.{Node}
use Rattle.ttl_read.specs.Grammar.{is_iri, iri, blank_node}
use Rattle.ttl_read.proofs.AnswerLemmas.{left_alone, right_alone}
use Rattle.ttl_read.proofs.HereLemmas.{is_here, here_nowhere, none_nowhere}
use Rattle.ttl_read.proofs.KindLemmas.{apart, iri_or_blank_node}
use Rattle.ttl_read.proofs.node.node.Goals as goal

pub returns-then-is_iri-clause-parses : goal.returns-then-is_iri-clause-parses
returns-then-is_iri-clause-parses c =
    let here = is_here c.args.reader.now c.utf8.text c.requires.stands c.in-Ok.is in
    let k = c.in-Ok.token.kind in
    let holds : is_iri k ≡ true = sym c.is_iri.ensures ∙ c.if-is_iri.true in
    left_alone (here_nowhere (blank_node c.args.text.now) _ here refl (apart _ _ (iri_or_blank_node k) holds))
    _ _ _ c.iri.result c.iri.ensures.parses

pub returns-else-is_iri-clause-parses : goal.returns-else-is_iri-clause-parses
returns-else-is_iri-clause-parses c =
    let here = is_here c.args.reader.now c.utf8.text c.requires.stands c.in-Ok.is in
    right_alone
    (here_nowhere (iri c.args.text.now Node) _ here refl (sym c.is_iri.ensures ∙ c.if-is_iri.false))
    _ _ _ c.blank_node.result c.blank_node.ensures.parses

pub returns-in-Err-clause-parses : goal.returns-in-Err-clause-parses
returns-in-Err-clause-parses c =
    none_nowhere _ _ c.in-Err.field-0 _ _ c.utf8.text c.requires.stands c.in-Err.is refl
