use Rattle.std.proofs.Common.{refl, sym, ◌∙◌}
use Rattle.ttl_read.specs.Documents.{setting}
use Rattle.ttl_read.proofs.DocumentLemmas.{leading_on, concludes_wrong, holds_led}
use Rattle.ttl_read.proofs.statements.statements.Goals as goal

pub loop-reader-preserved : goal.loop-reader-preserved
loop-reader-preserved c = record {
  limit = c.in_ok-sound_statement.ensures.limit ∙ c.loop-reader.invariant.limit;
  stands = c.in_ok-sound_statement.ensures.advances.stands;
  leading = λ before.
      leading_on (setting c.args.text.now c.args.limits.now before) c.args.reader.now c.args.pool.now
      c.loop-reader.reader c.loop-reader.pool c.sound_statement.new.reader c.sound_statement.new.pool
      c.in_ok-sound_statement.field-0
      (c.loop-reader.invariant.leading before) (c.in_ok-sound_statement.ensures.sound before);
}

pub returns-in_err-sound_statement : goal.returns-in_err-sound_statement
returns-in_err-sound_statement c = record {
  limit = c.in_err-sound_statement.ensures.limit ∙ c.loop-reader.invariant.limit;
  holds = λ before s.
      holds_led (setting c.args.text.now c.args.limits.now before) c.args.reader.now c.args.pool.now
      c.loop-reader.reader c.loop-reader.pool s c.sound_statement.new.pool
      (c.loop-reader.invariant.leading before) c.in_err-sound_statement.ensures.refused;
  concludes = λ before.
      concludes_wrong (setting c.args.text.now c.args.limits.now before) c.args.reader.now c.args.pool.now
      c.loop-reader.reader c.loop-reader.pool c.sound_statement.new.reader c.sound_statement.new.pool
      c.sound_statement.new.reader c.sound_statement.new.pool c.in_err-sound_statement.field-0.0 _
      c.utf8.text c.in_err-sound_statement.ensures.refused c.from_residual.ensures.1
      (c.loop-reader.invariant.leading before) c.loop-reader.invariant.stands
      (sym c.is_at_end.ensures ∙ c.loop-reader-test.true) (c.in_err-sound_statement.ensures.sound before);
}

pub returns-clause-holds : goal.returns-clause-holds
returns-clause-holds c = λ before s.
    holds_led (setting c.args.text.now c.args.limits.now before) c.args.reader.now c.args.pool.now
    c.loop-reader.reader c.loop-reader.pool s c.loop-reader.pool (c.loop-reader.invariant.leading before) refl
