use Rattle.std.proofs.Common.{arith}
use Rattle.std.proofs.lemmas.Str.{IsCharBoundary-start}
use Rattle.turtle_rows.proofs.tests.tokens.add_tokens.Goals as goal

pub loop-init : goal.loop-init
loop-init c = record {
  within = omega arith;
  boundary = IsCharBoundary-start c.args.text.now c.utf8.text;
  known = c.new-ahead.ensures c.args.text.now;
}
