use Rattle.std.proofs.Common.{◌∙◌}
use Rattle.std.proofs.lemmas.Result.{IfOk-weaker}
use Rattle.edit_engine.specs.inner.Turned.{places_in}
use Rattle.edit_engine.proofs.NettingLemmas.{net_is}
use Rattle.edit_engine.proofs.engine.Engine.net_of.Goals as goal

pub returns : goal.returns
returns g c =
    IfOk-weaker c.net_among.result _ _
    (λ net is. is ∙ net_is c.args.self.now.graph c.args.edits.now (places_in c.in_ok-turned.turned)
    c.in_ok-turned.ensures)
    c.net_among.ensures
