use Rattle.std.proofs.Common.{refl, rules}
use Rattle.ttl_meaning.specs.Items.{on_string}
use Rattle.ttl_read.specs.Grammar.{is_string}
use Rattle.ttl_read.proofs.AnswerLemmas.{passes_then_parses, answer_advances}
use Rattle.ttl_read.proofs.HereLemmas.{is_here, pass_advances, group_passes}
use Rattle.ttl_read.proofs.literal.string_literal.Goals as goal

pub returns-clause-advances : goal.returns-clause-advances
returns-clause-advances c =
    let here = is_here c.args.reader.now c.utf8.text c.requires.stands c.requires.next in
    answer_advances
    (pass_advances is_string _ here c.requires.kind refl c.pass.ensures.stands c.pass.ensures.place)
    _ c.string_end.result c.string_end.ensures.stands c.string_end.ensures.further

pub returns-clause-parses : goal.returns-clause-parses
returns-clause-parses c =
    let here = is_here c.args.reader.now c.utf8.text c.requires.stands c.requires.next in
    passes_then_parses {q = c.args.pool.now}
    (group_passes is_string (on_string c.args.text.now) here c.requires.kind (search rules)
    c.pass.ensures.place)
    _ _ _ _ c.string_end.result c.string_end.ensures.parses
