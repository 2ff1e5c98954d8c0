use Rattle.std.proofs.Common.{ap, ◌∙◌, sym, ℕ, take, arith}
use Rattle.ttl_read.specs.Documents.{setting}
use Rattle.ttl_read.proofs.KeepsTermsLemmas.{cut_back, no_fewer, vocabulary_within}
use Rattle.ttl_read.proofs.SoundLemmas.{on_any_error, sound_at_fault}
use Rattle.ttl_read.proofs.statements.sound_statement.Goals as goal

pub cut-requires-clause-vocabulary : goal.cut-requires-clause-vocabulary
cut-requires-clause-vocabulary c =
    omega (
      arith,
      vocabulary_within _ c.len-held.ensures.vocabulary,
      no_fewer c.judged_statement-read.ensures.keeps,
    )

pub cut-requires-clause-within : goal.cut-requires-clause-within
cut-requires-clause-within c =
    omega (
      arith,
      vocabulary_within _ c.len-held.ensures.vocabulary,
      no_fewer c.judged_statement-read.ensures.keeps,
    )

pub returns-then-is_err-clause-refused : goal.returns-then-is_err-clause-refused
returns-then-is_err-clause-refused c =
    let terms = c.judged_statement-read.new.pool.terms in
    on_any_error c.judged_statement-read.result
    (c.cut.ensures.terms ∙ ap (λ (n : ℕ). take n terms) c.len-held.ensures.count
    ∙ cut_back c.judged_statement-read.ensures.keeps)

pub returns-then-is_err-clause-sound : goal.returns-then-is_err-clause-sound
returns-then-is_err-clause-sound c = λ before.
    let read = c.judged_statement-read in
    sound_at_fault (setting c.args.text.now c.args.limits.now before) c.args.reader.now c.args.pool.now
    read.new.reader read.new.pool c.cut.new.self read.result (sym c.is_err.ensures.value ∙ c.if-is_err.true)
    (read.ensures.sound before)
