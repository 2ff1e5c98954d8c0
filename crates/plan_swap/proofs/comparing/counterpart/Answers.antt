use Rattle.std.proofs.Common.{ap, sym, ◌∙◌, true≢false}
use Rattle.shape_eval.specs.Planned.{plan_of}
use Rattle.plan_swap.specs.inner.Stated.{are_known}
use Rattle.plan_swap.proofs.AlikeLemmas.{alike_is, none_known, none_of_node, none_same}
use Rattle.plan_swap.proofs.comparing.counterpart.Goals as goal

pub returns-in_err-m : goal.returns-in_err-m
returns-in_err-m c =
    rw c.from_residual.ensures
    (none_of_node (plan_of c.args.old.now).shapes (plan_of c.args.new.now).shapes c.requires.old
    c.requires.new c.args.n c.shape-shape.result.now c.shape-shape.ensures
    (sym c.number.ensures ∙ c.in_err-m.was))

pub returns-then-are_known : goal.returns-then-are_known
returns-then-are_known c =
    alike_is (plan_of c.args.old.now).shapes (plan_of c.args.new.now).shapes c.requires.old c.requires.new
    c.args.n c.shape-shape.result.now c.shape-shape.ensures c.args.found.now c.requires.below c.in_ok-m.m
    c.shape.result.now c.shape.ensures (c.is_same_shape.ensures.0 c.if-is_same_shape.true)
    (ap (λ cs. are_known cs c.args.found.now) (sym c.deref.ensures.value) ∙ sym c.are_known.ensures
    ∙ c.if-are_known.true)

pub returns-else-is_same_shape : goal.returns-else-is_same_shape
returns-else-is_same_shape c = elim c.else-is_same_shape.branch [
  | goal.else-is_same_shape-via-then-is_same_shape+else-are_known w ↦
      none_known (plan_of c.args.old.now).shapes (plan_of c.args.new.now).shapes c.requires.old c.requires.new
      c.args.n c.shape-shape.result.now c.shape-shape.ensures c.args.found.now c.requires.below
      (ap (λ cs. are_known cs c.args.found.now) (sym w.deref.ensures.value) ∙ sym w.are_known.ensures
      ∙ w.if-are_known.false)
  | goal.else-is_same_shape-via-else-is_same_shape w ↦
      none_same (plan_of c.args.old.now).shapes (plan_of c.args.new.now).shapes c.requires.old c.requires.new
      c.args.n c.shape-shape.result.now c.shape-shape.ensures c.in_ok-m.m c.shape.result.now
      (sym c.number.ensures ∙ c.in_ok-m.was) c.shape.ensures
      (λ same. true≢false (sym (c.is_same_shape.ensures.1 same) ∙ w.if-is_same_shape.false))
]
