use Rattle.std.proofs.Common.{sym, ap, ◌∙◌}
use Rattle.edit_engine.specs.Edits.{is_stated}
use Rattle.edit_engine.proofs.NettingLemmas.{stated_where_found}
use Rattle.edit_engine.proofs.engine.Engine.states.Goals as goal

pub returns-in-Some : goal.returns-in-Some
returns-in-Some g c =
    stated_where_found (g.V.GraphView.graph c.self.inside.view) c.pool.result.now.terms c.args.stated.now
    c.find.result c.in-Some.triple c.contains.result c.pool.ensures.terms c.find.ensures
    (sym c.triple.ensures ∙ c.in-Some.is) c.contains.ensures
    ∙ ap (λ state. is_stated state.graph c.args.stated.now) c.self.view_is
