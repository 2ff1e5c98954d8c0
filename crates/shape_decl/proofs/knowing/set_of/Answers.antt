use Rattle.std.proofs.Common.{true, sym, ap, ◌∙◌, get_or}
use Rattle.std.specs.Prelude.{◌==◌, cond}
use Rattle.shape_decl.proofs.KeptLemmas.{any_more}
use Rattle.shape_decl.proofs.knowing.set_of.Goals as goal

pub loop-node-preserved : goal.loop-node-preserved
loop-node-preserved c = λ n.
    let nodes = c.args.nodes.now in
    let i = c.loop-node.node-index in
    c.in_ok-insert.ensures.updates.0 n
    ∙ ap (cond (get_or nodes i 0 == n) true) (c.loop-node.invariant n)
    ∙ sym (any_more (λ node. node == n) nodes i c.loop-node-test.true)
