use Rattle.std.proofs.Common.{refl, sym, ◌∙◌, rules}
use Rattle.std.proofs.lemmas.Bool.{or_from}
use Rattle.ttl_tokens.specs.declared.token.TokenKind.TheVariants.{PnameNs}
use Rattle.ttl_meaning.specs.Items.{hold_prefix}
use Rattle.ttl_read.specs.Grammar.{is_kind, prefix_binding}
use Rattle.ttl_read.proofs.AnswerLemmas.{then_alone}
use Rattle.ttl_read.proofs.HereLemmas.{found_here, token_passes, nowhere_unless}
use Rattle.ttl_read.proofs.directive.prefix_binding.Goals as goal

pub returns-in_default-clause-parses : goal.returns-in_default-clause-parses
returns-in_default-clause-parses c =
    λ pool. nowhere_unless _ (is_kind PnameNs) (prefix_binding c.args.text.now) _ pool c.utf8.text
    c.requires.stands refl (λ t e. or_from _ _ e refl) (sym c.next_of.ensures ∙ c.in_default.is)

pub returns-clause-parses : goal.returns-clause-parses
returns-clause-parses c =
    let here = found_here c.args.reader.now (is_kind PnameNs) c.in-Some.token c.utf8.text c.requires.stands
    (sym c.next_of.ensures ∙ c.in-Some.is) in
    λ pool. then_alone {q = pool}
    (token_passes PnameNs (hold_prefix c.args.text.now) here.0 here.1 (search rules) c.pass.ensures.place)
    _ _ _ c.namespace.result (c.namespace.ensures.parses pool)
