use Rattle.std.proofs.Common.{◌≡◌, true, false, refl, sym, ◌∙◌, rules}
use Rattle.ttl_meaning.specs.Items.{on_literal}
use Rattle.ttl_read.specs.Grammar.{is_string, is_bare_literal, string_literal, literal, one_of}
use Rattle.ttl_read.specs.inner.Stops.{goes_on}
use Rattle.ttl_read.proofs.AnswerLemmas.{left_parses}
use Rattle.ttl_read.proofs.HereLemmas.{is_here, pass_advances, here_refuses, none_nowhere, group_passes}
use Rattle.ttl_read.proofs.KindLemmas.{apart, string_or_bare}
use Rattle.ttl_read.proofs.PassLemmas.{passes_reads, nowhere_refuses}
use Rattle.ttl_read.proofs.ReadLemmas.{right_reads}
use Rattle.ttl_read.proofs.literal.literal.Goals as goal

pub returns-in_default-clause-parses : goal.returns-in_default-clause-parses
returns-in_default-clause-parses c =
    nowhere_refuses
    (none_nowhere _ _ c.in_default.field-0 _ _ c.utf8.text c.requires.stands c.in_default.is refl)

pub returns-then-is_string-clause-parses : goal.returns-then-is_string-clause-parses
returns-then-is_string-clause-parses c =
    let here = is_here c.args.reader.now c.utf8.text c.requires.stands c.in-Ok.is in
    let holds : is_string c.in-Ok.token.kind ≡ true = sym c.is_string.ensures ∙ c.if-is_string.true in
    let bare = one_of is_bare_literal (on_literal c.args.text.now) in
    left_parses (here_refuses bare _ goes_on here refl (apart _ _ (string_or_bare _) holds))
    _ _ _ c.string_literal.result c.string_literal.ensures.parses

pub returns-then-not-is_bare_literal-clause-parses :
    goal.returns-then-not-is_bare_literal-clause-parses
returns-then-not-is_bare_literal-clause-parses c =
    let here = is_here c.args.reader.now c.utf8.text c.requires.stands c.in-Ok.is in
    let string : is_string c.in-Ok.token.kind ≡ false = sym c.is_string.ensures ∙ c.if-is_string.false in
    let bare : is_bare_literal c.in-Ok.token.kind ≡ false =
    sym c.is_bare_literal.ensures ∙ c.if-not-is_bare_literal.true in
    here_refuses (literal c.args.text.now) _ goes_on here refl (rw (string, bare) refl)

pub returns-clause-advances : goal.returns-clause-advances
returns-clause-advances c =
    let here = is_here c.args.reader.now c.utf8.text c.requires.stands c.in-Ok.is in
    let holds : is_bare_literal c.in-Ok.token.kind ≡ true =
    sym c.is_bare_literal.ensures ∙ c.if-not-is_bare_literal.false in
    pass_advances is_bare_literal _ here holds refl c.pass.ensures.stands c.pass.ensures.place

pub returns-clause-parses : goal.returns-clause-parses
returns-clause-parses c =
    let text = c.args.text.now in
    let here = is_here c.args.reader.now c.utf8.text c.requires.stands c.in-Ok.is in
    let string : is_string c.in-Ok.token.kind ≡ false = sym c.is_string.ensures ∙ c.if-is_string.false in
    let bare : is_bare_literal c.in-Ok.token.kind ≡ true =
    sym c.is_bare_literal.ensures ∙ c.if-not-is_bare_literal.false in
    right_reads (here_refuses (string_literal text) _ goes_on here refl (rw string refl))
    (passes_reads
    (group_passes is_bare_literal (on_literal text) here bare (search rules) c.pass.ensures.place))
