use Rattle.std.proofs.Common.{refl, sym, ◌∙◌, rules}
use Rattle.ttl_tokens.specs.declared.token.TokenKind.TheVariants.{IriRef}
use Rattle.ttl_meaning.specs.Items.{on_base}
use Rattle.ttl_read.specs.Grammar.{is_kind, token}
use Rattle.ttl_read.proofs.HereLemmas.{found_here, token_passes, pass_advances, nowhere_unless}
use Rattle.ttl_read.proofs.directive.base_setting.Goals as goal

pub returns-in_default-clause-parses : goal.returns-in_default-clause-parses
returns-in_default-clause-parses c =
    λ pool. nowhere_unless _ (is_kind IriRef) (token IriRef (on_base c.args.text.now)) _ pool c.utf8.text
    c.requires.stands refl (λ t e. e) (sym c.next_of.ensures ∙ c.in_default.is)

pub returns-clause-advances : goal.returns-clause-advances
returns-clause-advances c =
    let here = found_here c.args.reader.now (is_kind IriRef) c.in-Some.token c.utf8.text c.requires.stands
    (sym c.next_of.ensures ∙ c.in-Some.is) in
    pass_advances (is_kind IriRef) _ here.0 here.1 refl c.pass.ensures.stands c.pass.ensures.place

pub returns-clause-parses : goal.returns-clause-parses
returns-clause-parses c =
    let here = found_here c.args.reader.now (is_kind IriRef) c.in-Some.token c.utf8.text c.requires.stands
    (sym c.next_of.ensures ∙ c.in-Some.is) in
    λ pool. token_passes IriRef (on_base c.args.text.now) here.0 here.1 (search rules) c.pass.ensures.place
