use Rattle.std.specs.Prelude.{◌≡◌, None}
use Rattle.std.proofs.Common.{rules, ap, ◌∙◌}
use Rattle.pair_results.proofs.ToComeLemmas.{HasNoneLeft, HasNoneLeft-only}
use Rattle.pair_results.proofs.ToComeLemmas.{to_come-next_shape, turns_left-next_shape, within-next_shape}
use Rattle.pair_results.specs.inner.ToCome.{left_of}
use Rattle.pair_results.proofs.rows.Ahead.turn.Goals as goal
use Rattle.pair_results.proofs.rows.Ahead.turn.Goals.{in_default-via-in-None-1}
use Rattle.pair_results.proofs.rows.Ahead.turn.Goals.{in_default-via-in-Some+in-None-1}

left : (c : goal.After-others-2-1) → HasNoneLeft c.args.self.now c.in_default.self
left c =
    elim c.in_default.branch [
      | in_default-via-in-None-1 w ↦
          let none : c.args.self.now.nodes ≡ None = search rules in
          HasNoneLeft-only _ _ _ w.self-is (ap left_of none)
      | in_default-via-in-Some+in-None-1 w ↦
          let none : w.next.result ≡ None = search rules in
          let steps = rw none at w.next.ensures.steps in
          HasNoneLeft-only _ _ _ w.self-is (ap left_of w.in-Some.is ∙ steps.0)
    ]

pub returns-2-clause-shapes : goal.returns-2-clause-shapes
returns-2-clause-shapes c =
    within-next_shape _ _ (left c) _ _ c.in_ok-shape.ensures.cases.0 c.requires.shapes _ _
    c.values.ensures.rest

pub returns-2-clause-same : goal.returns-2-clause-same
returns-2-clause-same c =
    to_come-next_shape _ _ (left c) _ _ c.in_ok-shape.ensures.cases.0 c.requires.shapes _ _
    c.values.ensures.rest

pub returns-2-clause-turns : goal.returns-2-clause-turns
returns-2-clause-turns c =
    turns_left-next_shape _ _ (left c) _ _ c.in_ok-shape.ensures.cases.0 c.requires.shapes _ _
    c.values.ensures.rest
