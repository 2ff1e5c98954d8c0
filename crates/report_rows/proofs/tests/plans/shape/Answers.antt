use Rattle.std.specs.Prelude.{Some}
use Rattle.std.proofs.Common.{ap, arith}
use Rattle.report_rows.proofs.BareLemmas.{bare_shape}
use Rattle.report_rows.proofs.tests.plans.shape.Goals as goal

pub returns : goal.returns
returns c =
    bare_shape c.args.pool.now.terms _ 61 c.requires (omega arith) (omega arith)
    (ap Some c.in_ok-path.ensures) c.in_ok-messages.ensures.items (omega arith) c.new-2.ensures.items
    c.new-3.ensures.items
