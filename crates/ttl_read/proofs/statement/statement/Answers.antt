use Rattle.std.proofs.Common.{◌≡◌, true, refl, sym, ◌∙◌}
use Rattle.ttl_meaning.specs.Items.{begin_statement}
use Rattle.ttl_read.specs.declared.reader.Reader.{Reader}
use Rattle.ttl_tokens.specs.declared.token.TokenKind.TheVariants.{LangTag, WordPrefix, WordBase}
use Rattle.ttl_read.specs.Grammar.{is_kind}
use Rattle.ttl_read.proofs.AnswerLemmas.{leads_alone, passed_on_alone}
use Rattle.ttl_read.proofs.DirectiveLemmas.{tagged_alone, word_prefix_alone, word_base_alone}
use Rattle.ttl_read.proofs.HereLemmas.{is_here, none_nowhere}
use Rattle.ttl_read.proofs.KindLemmas.{kind_is}
use Rattle.ttl_read.proofs.PassLemmas.{do_passes, behind_nowhere, refuses_then}
use Rattle.ttl_read.proofs.StatementLemmas.{statement_body, body_takes, dot_avoids}
use Rattle.ttl_read.proofs.StatementLemmas.{begun_alone, directive_alone, triples_alone}
use Rattle.ttl_read.proofs.statement.statement.Goals as goal

pub returns-in_default-clause-parses : goal.returns-in_default-clause-parses
returns-in_default-clause-parses c =
    let text = c.args.text.now in
    let pool = c.args.pool.now in
    let r : Reader = record { tokens = c.args.reader.now.tokens; reading = c.begin_statement.new.self } in
    behind_nowhere (do_passes text begin_statement _ pool r pool (c.in_ok-begin_statement.ensures pool) refl)
    (none_nowhere text (statement_body text c.args.depth) c.in_default.field-0 r pool c.utf8.text
    c.requires.stands c.in_default.is (body_takes text c.args.depth))

pub returns-then-eq-clause-parses : goal.returns-then-eq-clause-parses
returns-then-eq-clause-parses c =
    let pool = c.args.pool.now in
    let result = c.tagged_directive.result in
    let r : Reader = record { tokens = c.args.reader.now.tokens; reading = c.begin_statement.new.self } in
    let here = is_here r c.utf8.text c.requires.stands c.in-Ok.is in
    let holds : is_kind LangTag c.in-Ok.token.kind ≡ true = sym c.eq.ensures ∙ c.if-eq.true in
    begun_alone c.args.text.now c.args.depth _ r pool (c.in_ok-begin_statement.ensures pool) refl _ _ result
    (directive_alone c.args.depth here (rw (kind_is LangTag _ holds) refl) pool _ _ result
    (tagged_alone here holds pool _ _ result (c.tagged_directive.ensures.parses pool)))

pub returns-then-eq-2-clause-parses : goal.returns-then-eq-2-clause-parses
returns-then-eq-2-clause-parses c =
    let pool = c.args.pool.now in
    let result = c.prefix_binding.result in
    let r : Reader = record { tokens = c.args.reader.now.tokens; reading = c.begin_statement.new.self } in
    let here = is_here r c.utf8.text c.requires.stands c.in-Ok.is in
    let holds : is_kind WordPrefix c.in-Ok.token.kind ≡ true =
    sym c.eq-2.ensures ∙ c.if-eq-2.true in
    begun_alone c.args.text.now c.args.depth _ r pool (c.in_ok-begin_statement.ensures pool) refl _ _ result
    (directive_alone c.args.depth here (rw (kind_is WordPrefix _ holds) refl) pool _ _ result
    (word_prefix_alone here holds _ refl c.pass.ensures.place pool _ _ result
    (c.prefix_binding.ensures.parses pool)))

pub returns-then-eq-3-clause-parses : goal.returns-then-eq-3-clause-parses
returns-then-eq-3-clause-parses c =
    let pool = c.args.pool.now in
    let result = c.base_setting.result in
    let r : Reader = record { tokens = c.args.reader.now.tokens; reading = c.begin_statement.new.self } in
    let here = is_here r c.utf8.text c.requires.stands c.in-Ok.is in
    let holds : is_kind WordBase c.in-Ok.token.kind ≡ true =
    sym c.eq-3.ensures ∙ c.if-eq-3.true in
    begun_alone c.args.text.now c.args.depth _ r pool (c.in_ok-begin_statement.ensures pool) refl _ _ result
    (directive_alone c.args.depth here (rw (kind_is WordBase _ holds) refl) pool _ _ result
    (word_base_alone here holds _ refl c.pass-then-eq-3.ensures.place pool _ _ result
    (c.base_setting.ensures.parses pool)))

pub returns-in_err-triples-clause-parses : goal.returns-in_err-triples-clause-parses
returns-in_err-triples-clause-parses c =
    let pool = c.args.pool.now in
    let passed = c.from_residual-in_err-triples in
    let r : Reader = record { tokens = c.args.reader.now.tokens; reading = c.begin_statement.new.self } in
    let here = is_here r c.utf8.text c.requires.stands c.in-Ok.is in
    begun_alone c.args.text.now c.args.depth _ r pool (c.in_ok-begin_statement.ensures pool) refl _ _
    passed.result
    (triples_alone c.args.depth here (sym c.eq.ensures ∙ c.if-eq.false)
    (sym c.eq-2.ensures ∙ c.if-eq-2.false)
    (sym c.eq-3.ensures ∙ c.if-eq-3.false) pool _ _ passed.result
    (passed_on_alone _ _ c.in_err-triples.field-0.0 passed.result passed.ensures.1
    c.in_err-triples.ensures.parses (λ n. refuses_then dot_avoids n)))

pub returns-clause-parses : goal.returns-clause-parses
returns-clause-parses c =
    let pool = c.args.pool.now in
    let result = c.dot.result in
    let r : Reader = record { tokens = c.args.reader.now.tokens; reading = c.begin_statement.new.self } in
    let here = is_here r c.utf8.text c.requires.stands c.in-Ok.is in
    begun_alone c.args.text.now c.args.depth _ r pool (c.in_ok-begin_statement.ensures pool) refl _ _ result
    (triples_alone c.args.depth here (sym c.eq.ensures ∙ c.if-eq.false)
    (sym c.eq-2.ensures ∙ c.if-eq-2.false)
    (sym c.eq-3.ensures ∙ c.if-eq-3.false) pool _ _ result
    (leads_alone dot_avoids c.in_ok-triples.ensures.parses _ _ result
    (c.dot.ensures.parses c.triples.new.pool)))
