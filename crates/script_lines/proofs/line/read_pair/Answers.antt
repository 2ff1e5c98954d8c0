use Rattle.std.proofs.lemmas.Result.{err_from_is_err_and}
use Rattle.script_lines.proofs.PairReadLemmas.{bad_shape, bad_node, both_terms}
use Rattle.script_lines.proofs.line.read_pair.Goals as goal

pub returns-in_err-shape-clause-refused : goal.returns-in_err-shape-clause-refused
returns-in_err-shape-clause-refused c =
    let exit = err_from_is_err_and c.from_residual.result c.from_residual.ensures.1 in
    rw (exit.1, exit.2)
    (bad_shape c.args.line.now c.args.document.now c.args.pair.now c.in_err-shape.field-0.0
    c.in_err-shape.ensures)

pub returns-in_err-node-clause-refused : goal.returns-in_err-node-clause-refused
returns-in_err-node-clause-refused c =
    let exit = err_from_is_err_and c.from_residual-in_err-node.result c.from_residual-in_err-node.ensures.1 in
    rw (exit.1, exit.2)
    (bad_node c.args.line.now c.args.document.now c.args.pair.now c.in_ok-shape.shape c.in_ok-shape.ensures
    c.in_err-node.field-0.0 c.in_err-node.ensures)

pub returns-clause-command : goal.returns-clause-command
returns-clause-command c =
    both_terms c.args.line.now c.args.document.now c.args.pair.now c.in_ok-shape.shape c.in_ok-shape.ensures
    c.in_ok-node.node c.in_ok-node.ensures
