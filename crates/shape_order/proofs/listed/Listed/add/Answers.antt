use Rattle.std.specs.Prelude.{◌≡◌, ◌<◌, ◌+◌, ℕ, false, length, List}
use Rattle.std.proofs.Common.{sym, ap, ◌∙◌, subst, arith, rules, get_or}
use Rattle.shape_order.proofs.ListedLemmas.{IsMarked-add, IsMarked-longer, resized_same}
use Rattle.shape_order.proofs.listed.Listed.add.Goals as goal
use Rattle.shape_order.proofs.listed.Listed.add.Goals.{then-at-len+in_ok-resize, else-at-len}

pub invariant_of-self-then-not-index : goal.invariant_of-self-then-not-index
invariant_of-self-then-not-index c =
    let marks = c.if-at-len.self-inside.held.items in
    let held = c.self.inside.held.items in
    let same : (i : ℕ) → get_or marks i false ≡ get_or held i false =
    elim c.if-at-len.branch [
      | then-at-len+in_ok-resize w ↦
          let room : (i : ℕ) → get_or w.resize.new.self.items i false ≡ get_or held i false =
          resized_same held w.resize.new.self.items c.len.result (c.args.shape + 1)
          (search rules) (omega arith) (search rules) in
          λ i. ap (λ a. get_or a.held.items i false) w.self-inside-is ∙ room i
      | else-at-len w ↦ λ i. ap (λ a. get_or a.held.items i false) w.self-inside-is
    ] in
    let shapes : c.if-at-len.self-inside.shapes.items ≡ c.self.inside.shapes.items =
    elim c.if-at-len.branch [
      | then-at-len+in_ok-resize w ↦ ap (λ a. a.shapes.items) w.self-inside-is
      | else-at-len w ↦ ap (λ a. a.shapes.items) w.self-inside-is
    ] in
    let within : c.args.shape < length marks =
    elim c.if-at-len.branch [
      | then-at-len+in_ok-resize w ↦
          subst (λ (a : List _). c.args.shape < length a) (sym (ap (λ a. a.held.items) w.self-inside-is))
          (search rules)
      | else-at-len w ↦
          subst (λ (a : List _). c.args.shape < length a) (sym (ap (λ a. a.held.items) w.self-inside-is))
          (search rules)
    ] in
    let off : get_or marks c.args.shape false ≡ false = search rules in
    let e : c.push.new.self.items ≡ _ = c.in_ok-push.ensures.items in
    let xs = c.self.inside.shapes.items in
    rw (e, shapes)
    (IsMarked-add marks xs c.args.shape within off (IsMarked-longer held marks xs same c.self.invariant))

pub returns-in_ok-push-clause-distinct : goal.returns-in_ok-push-clause-distinct
returns-in_ok-push-clause-distinct c = (invariant_of-self-then-not-index c).distinct
