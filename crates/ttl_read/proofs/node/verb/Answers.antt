use Rattle.std.proofs.Common.{◌≡◌, true, refl, sym, ◌∙◌}
use Rattle.ttl_meaning.specs.Items.{on_a}
use Rattle.ttl_meaning.specs.declared.iris.IriRole.TheVariants.{Verb}
use Rattle.ttl_tokens.specs.declared.token.TokenKind.TheVariants.{WordA}
use Rattle.ttl_read.specs.Grammar.{iri, sign, is_kind}
use Rattle.ttl_read.proofs.AnswerLemmas.{left_alone, right_alone}
use Rattle.ttl_read.proofs.HereLemmas.{is_here, here_nowhere, none_nowhere}
use Rattle.ttl_read.proofs.KindLemmas.{kind_is}
use Rattle.ttl_read.proofs.node.verb.Goals as goal

pub returns-then-eq-clause-parses : goal.returns-then-eq-clause-parses
returns-then-eq-clause-parses c =
    let here = is_here c.args.reader.now c.utf8.text c.requires.stands c.in-Ok.is in
    let holds : is_kind WordA c.in-Ok.token.kind ≡ true = sym c.eq.ensures ∙ c.if-eq.true in
    right_alone (here_nowhere (iri c.args.text.now Verb) _ here refl (rw (kind_is WordA _ holds) refl))
    _ _ _ c.word_a.result (c.word_a.ensures.parses c.args.pool.now)

pub returns-else-eq-clause-parses : goal.returns-else-eq-clause-parses
returns-else-eq-clause-parses c =
    let here = is_here c.args.reader.now c.utf8.text c.requires.stands c.in-Ok.is in
    left_alone
    (here_nowhere (sign WordA on_a) _ here refl (sym c.eq.ensures ∙ c.if-eq.false))
    _ _ _ c.iri.result c.iri.ensures.parses

pub returns-in-Err-clause-parses : goal.returns-in-Err-clause-parses
returns-in-Err-clause-parses c =
    none_nowhere _ _ c.in-Err.field-0 _ _ c.utf8.text c.requires.stands c.in-Err.is refl
