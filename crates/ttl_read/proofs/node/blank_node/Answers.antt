use Rattle.std.proofs.Common.{◌≡◌, true, false, refl, sym, ◌∙◌, rules}
use Rattle.ttl_meaning.specs.Items.{on_label, on_anon}
use Rattle.ttl_tokens.specs.declared.token.TokenKind.TheVariants.{BlankLabel, Anon}
use Rattle.ttl_read.specs.Grammar.{is_kind}
use Rattle.ttl_read.proofs.HereLemmas.{is_here, token_passes, sign_passes, pass_advances, here_nowhere}
use Rattle.ttl_read.proofs.HereLemmas.{none_nowhere}
use Rattle.ttl_read.proofs.KindLemmas.{kind_is}
use Rattle.ttl_read.proofs.PassLemmas.{left_passes, right_passes}
use Rattle.ttl_read.proofs.node.blank_node.Goals as goal

pub returns-in_default-clause-parses : goal.returns-in_default-clause-parses
returns-in_default-clause-parses c =
    none_nowhere _ _ c.in_default.field-0 _ _ c.utf8.text c.requires.stands c.in_default.is refl

pub returns-then-eq-clause-advances : goal.returns-then-eq-clause-advances
returns-then-eq-clause-advances c =
    let here = is_here c.args.reader.now c.utf8.text c.requires.stands c.in-Ok.is in
    pass_advances (is_kind BlankLabel) _ here (sym c.eq.ensures ∙ c.if-eq.true) refl
    c.pass.ensures.stands c.pass.ensures.place

pub returns-then-eq-clause-parses : goal.returns-then-eq-clause-parses
returns-then-eq-clause-parses c =
    let here = is_here c.args.reader.now c.utf8.text c.requires.stands c.in-Ok.is in
    let holds : is_kind BlankLabel c.in-Ok.token.kind ≡ true =
    sym c.eq.ensures ∙ c.if-eq.true in
    left_passes
    (token_passes BlankLabel (on_label c.args.text.now) here holds (search rules) c.pass.ensures.place)
    (here_nowhere _ _ here refl (rw (kind_is BlankLabel _ holds) refl))

pub returns-then-eq-2-clause-advances : goal.returns-then-eq-2-clause-advances
returns-then-eq-2-clause-advances c =
    let here = is_here c.args.reader.now c.utf8.text c.requires.stands c.in-Ok.is in
    pass_advances (is_kind Anon) _ here (sym c.eq-2.ensures ∙ c.if-eq-2.true) refl
    c.pass-then-eq-2.ensures.stands c.pass-then-eq-2.ensures.place

pub returns-then-eq-2-clause-parses : goal.returns-then-eq-2-clause-parses
returns-then-eq-2-clause-parses c =
    let here = is_here c.args.reader.now c.utf8.text c.requires.stands c.in-Ok.is in
    let holds : is_kind Anon c.in-Ok.token.kind ≡ true = sym c.eq-2.ensures ∙ c.if-eq-2.true in
    right_passes (here_nowhere _ _ here refl (rw (kind_is Anon _ holds) refl))
    (sign_passes Anon on_anon here holds (search rules) c.pass-then-eq-2.ensures.place)

pub returns-clause-parses : goal.returns-clause-parses
returns-clause-parses c =
    let here = is_here c.args.reader.now c.utf8.text c.requires.stands c.in-Ok.is in
    let label : is_kind BlankLabel c.in-Ok.token.kind ≡ false =
    sym c.eq.ensures ∙ c.if-eq.false in
    let anon : is_kind Anon c.in-Ok.token.kind ≡ false = sym c.eq-2.ensures ∙ c.if-eq-2.false in
    here_nowhere _ _ here refl (rw (label, anon) refl)
