use Rattle.std.proofs.Common.{refl, rules}
use Rattle.ttl_meaning.specs.Items.{on_a}
use Rattle.ttl_tokens.specs.declared.token.TokenKind.TheVariants.{WordA}
use Rattle.ttl_read.specs.Grammar.{is_kind}
use Rattle.ttl_read.proofs.HereLemmas.{is_here, sign_passes, pass_advances}
use Rattle.ttl_read.proofs.node.word_a.Goals as goal

pub returns-clause-advances : goal.returns-clause-advances
returns-clause-advances c =
    let here = is_here c.args.reader.now c.utf8.text c.requires.stands c.requires.next in
    pass_advances (is_kind WordA) _ here c.requires.kind refl c.pass.ensures.stands c.pass.ensures.place

pub returns-clause-parses : goal.returns-clause-parses
returns-clause-parses c =
    let here = is_here c.args.reader.now c.utf8.text c.requires.stands c.requires.next in
    λ pool. sign_passes WordA on_a here c.requires.kind (search rules) c.pass.ensures.place
