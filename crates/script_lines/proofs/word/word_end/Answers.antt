use Rattle.std.proofs.Common.{◌+◌, ◌≤◌, length, arith}
use Rattle.script_lines.specs.inner.Parts.{IsWordEnd}
use Rattle.script_lines.proofs.WordLemmas.{start_boundary, word_is_there, word_is_not}
use Rattle.script_lines.proofs.word.word_end.Goals as goal

pub range_from-requires : goal.range_from-requires
range_from-requires c = rw c.requires (λ some. start_boundary c.args.line.now c.utf8.line)

pub overflow_add-result : goal.overflow_add-result
overflow_add-result c =
    let end : IsWordEnd c.args.line.now c.args.word.now (c.args.start + length c.args.word.now) =
    word_is_there c.args.line.now c.args.word.now c.range_from.result.now c.args.start c.requires
    c.range_from.ensures.value c.starts_with.result c.starts_with.ensures.cases c.if-starts_with.true in
    let within : c.args.start + length c.args.word.now ≤ length c.args.line.now = end.boundary.0 in
    omega (arith, within)

pub returns-then-starts_with : goal.returns-then-starts_with
returns-then-starts_with c =
    word_is_there c.args.line.now c.args.word.now c.range_from.result.now c.args.start c.requires
    c.range_from.ensures.value c.starts_with.result c.starts_with.ensures.cases c.if-starts_with.true

pub returns-else-starts_with : goal.returns-else-starts_with
returns-else-starts_with c =
    word_is_not c.args.line.now c.args.word.now c.range_from.result.now c.args.start c.requires
    c.range_from.ensures.value c.starts_with.result c.starts_with.ensures.cases c.if-starts_with.false
