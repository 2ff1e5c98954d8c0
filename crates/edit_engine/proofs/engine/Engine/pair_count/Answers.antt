use Rattle.std.proofs.Common.{length, ap, ◌∙◌}
use Rattle.shape_eval.specs.Report.{pairs}
use Rattle.edit_engine.proofs.engine.Engine.pair_count.Goals as goal

pub returns : goal.returns
returns g c = c.self.invariant.1.count ∙ ap (λ state. length (pairs state.plan state.graph)) c.self.view_is
