use Rattle.std.proofs.Common.{◌≡◌, true, refl, sym, ◌∙◌, rules}
use Rattle.ttl_meaning.specs.Items.{on_iri}
use Rattle.ttl_read.specs.Grammar.{is_iri}
use Rattle.ttl_read.proofs.HereLemmas.{is_here, pass_advances, here_nowhere, none_nowhere, group_passes}
use Rattle.ttl_read.proofs.node.iri.Goals as goal

pub returns-in_default-clause-parses : goal.returns-in_default-clause-parses
returns-in_default-clause-parses c =
    none_nowhere _ _ c.in_default.field-0 _ _ c.utf8.text c.requires.stands c.in_default.is refl

pub returns-then-not-is_iri-clause-parses : goal.returns-then-not-is_iri-clause-parses
returns-then-not-is_iri-clause-parses c =
    let here = is_here c.args.reader.now c.utf8.text c.requires.stands c.in-Ok.is in
    here_nowhere _ _ here refl (sym c.is_iri.ensures ∙ c.if-not-is_iri.true)

pub returns-clause-advances : goal.returns-clause-advances
returns-clause-advances c =
    let here = is_here c.args.reader.now c.utf8.text c.requires.stands c.in-Ok.is in
    let holds : is_iri c.in-Ok.token.kind ≡ true = sym c.is_iri.ensures ∙ c.if-not-is_iri.false in
    pass_advances is_iri _ here holds refl c.pass.ensures.stands c.pass.ensures.place

pub returns-clause-parses : goal.returns-clause-parses
returns-clause-parses c =
    let here = is_here c.args.reader.now c.utf8.text c.requires.stands c.in-Ok.is in
    let holds : is_iri c.in-Ok.token.kind ≡ true = sym c.is_iri.ensures ∙ c.if-not-is_iri.false in
    group_passes is_iri (on_iri c.args.text.now c.args.role) here holds (search rules) c.pass.ensures.place
