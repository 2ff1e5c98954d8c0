use Rattle.script_lines.proofs.PairLemmas.{no_node, no_node_term, no_pair_end}
use Rattle.script_lines.proofs.line_form.pair_at.Goals as goal

pub returns-in_err-node : goal.returns-in_err-node
returns-in_err-node c =
    rw c.from_residual-in_err-node.ensures
    (no_node c.args.line.now c.utf8.line c.args.at c.in_ok-shape.shape c.in_ok-shape.ensures
    c.in_err-node.ensures)

pub returns-in_err-term_end : goal.returns-in_err-term_end
returns-in_err-term_end c =
    rw c.from_residual-in_err-term_end.ensures
    (no_node_term c.args.line.now c.utf8.line c.args.at c.in_ok-shape.shape c.in_ok-shape.ensures
    c.in_ok-node.node c.in_ok-node.ensures c.in_err-term_end.ensures)

pub returns-else-ends_at : goal.returns-else-ends_at
returns-else-ends_at c =
    no_pair_end c.args.line.now c.utf8.line c.args.at c.in_ok-shape.shape c.in_ok-shape.ensures
    c.in_ok-node.node c.in_ok-node.ensures c.in_ok-term_end.field-0 c.in_ok-term_end.ensures
    c.ends_at.result c.ends_at.ensures c.if-ends_at.false
