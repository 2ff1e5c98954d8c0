use Rattle.std.proofs.Common.{sym, ◌∙◌, true≢false}
use Rattle.std.proofs.lemmas.Str.{IsCharBoundary-start}
use Rattle.script_lines.proofs.FormLemmas.{alone_answer, no_insert, no_remove, no_slice, no_shapes}
use Rattle.script_lines.proofs.line_form.form_of.Goals as goal

pub ends_at-requires-clause-boundary : goal.ends_at-requires-clause-boundary
ends_at-requires-clause-boundary c = IsCharBoundary-start c.args.line.now c.utf8.line

pub returns-in-Some : goal.returns-in-Some
returns-in-Some c =
    alone_answer c.args.line.now (λ end. true≢false (sym (c.ends_at.ensures.1 end) ∙ c.if-ends_at.false))
    c.in-Some.at c.in-Some.word c.in-Some.ensures c.alone.result c.alone.ensures

pub returns-in_err-triple_at : goal.returns-in_err-triple_at
returns-in_err-triple_at c =
    rw c.from_residual.ensures
    (no_insert c.args.line.now (λ end. true≢false (sym (c.ends_at.ensures.1 end) ∙ c.if-ends_at.false))
    c.in-Some-parted_word.at c.in-Some-parted_word.ensures c.in_err-triple_at.ensures)

pub returns-in_err-triple_at-2 : goal.returns-in_err-triple_at-2
returns-in_err-triple_at-2 c =
    rw c.from_residual-in_err-triple_at-2.ensures
    (no_remove c.args.line.now (λ end. true≢false (sym (c.ends_at.ensures.1 end) ∙ c.if-ends_at.false))
    c.in-Some-parted_word-2.at c.in-Some-parted_word-2.ensures c.in_err-triple_at-2.ensures)

pub returns-in_err-pair_at : goal.returns-in_err-pair_at
returns-in_err-pair_at c =
    rw c.from_residual-in_err-pair_at.ensures
    (no_slice c.args.line.now (λ end. true≢false (sym (c.ends_at.ensures.1 end) ∙ c.if-ends_at.false))
    c.in-Some-parted_word-3.at c.in-Some-parted_word-3.ensures c.in_err-pair_at.ensures)

pub returns-in_err-name_at : goal.returns-in_err-name_at
returns-in_err-name_at c =
    rw c.from_residual-in_err-name_at.ensures
    (no_shapes c.args.line.now (λ end. true≢false (sym (c.ends_at.ensures.1 end) ∙ c.if-ends_at.false))
    c.in-Some-parted_word-4.at c.in-Some-parted_word-4.ensures c.in_err-name_at.ensures)
