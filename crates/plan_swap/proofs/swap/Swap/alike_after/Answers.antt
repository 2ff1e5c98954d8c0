use Rattle.std.specs.Prelude.{◌≤◌}
use Rattle.std.proofs.Common.{sym, ◌∙◌, subst}
use Rattle.plan_swap.specs.Swap.{plan_after, plan_before}
use Rattle.plan_swap.proofs.SwapLemmas.{none_of_its_node, none_past, place_by_node}
use Rattle.plan_swap.proofs.swap.Swap.alike_after.Goals as goal

pub returns-then-m-len : goal.returns-then-m-len
returns-then-m-len c =
    let swap = c.args.self.now in
    sym (none_past (plan_before swap).shapes (plan_after swap).shapes c.shapes_are_numbered-2.ensures
    swap.alikes.now c.requires.alikes c.args.m (subst (λ n. n ≤ c.args.m) c.len.ensures c.if-m-len.true))

pub returns-in_err-n : goal.returns-in_err-n
returns-in_err-n c =
    let swap = c.args.self.now in
    c.from_residual.ensures
    ∙ sym (none_of_its_node (plan_before swap).shapes (plan_after swap).shapes c.shapes_are_numbered-2.ensures
    swap.alikes.now c.requires.alikes c.args.m c.shape.result.now c.shape.ensures
    (sym c.number.ensures ∙ c.in_err-n.was))

pub returns : goal.returns
returns c =
    let swap = c.args.self.now in
    c.then_some.ensures
    ∙ place_by_node (plan_before swap).shapes (plan_after swap).shapes c.shapes_are_numbered-2.ensures
    swap.alikes.now c.requires.alikes c.args.m c.shape.result.now c.shape.ensures c.in_ok-n.n
    (sym c.number.ensures ∙ c.in_ok-n.was) c.old_number.result c.old_number.ensures c.eq.result c.eq.ensures
