use Rattle.std.proofs.Common.{arith}
use Rattle.path_eval.proofs.RowLemmas.{Enters-row, Enters-none}
use Rattle.path_eval.proofs.rows.enter.Goals as goal

pub returns : goal.returns
returns c =
    Enters-row c.args.rows.now.items c.args.edge c.index_mut.result.now c.push.new.self
    (omega (arith, c.if-place-len.false, c.len.ensures)) c.index_mut.ensures.value c.in_ok-push.ensures.items

pub returns-then-place-len : goal.returns-then-place-len
returns-then-place-len c =
    Enters-none c.args.rows.now.items c.args.edge (omega (arith, c.if-place-len.true, c.len.ensures))
