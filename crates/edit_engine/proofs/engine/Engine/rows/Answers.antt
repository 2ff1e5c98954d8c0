use Rattle.edit_engine.proofs.TellLemmas.{report_rows}
use Rattle.edit_engine.proofs.engine.Engine.rows.Goals as goal

pub returns : goal.returns
returns g c =
    report_rows _ c.args.self.now c.self.view_is c.self.inside.kept c.pool.result.now.terms
    (c.self.invariant.0, c.self.invariant.1) c.pool.ensures.terms
    c.len.ensures.distinct c.rows.ensures.ordered c.results_stand_in_term_order.ensures
    c.targeted.result.now c.rows.result c.targeted.ensures.targeted c.rows.ensures.rows
