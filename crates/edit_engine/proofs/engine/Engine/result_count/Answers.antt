use Rattle.edit_engine.proofs.TellLemmas.{report_count}
use Rattle.edit_engine.proofs.engine.Engine.result_count.Goals as goal

pub returns : goal.returns
returns g c =
    report_count _ c.args.self.now c.self.view_is c.self.inside.kept c.pool.result.now.terms
    (c.self.invariant.0, c.self.invariant.1) c.pool.ensures.terms
    c.len.ensures.distinct c.len-2.ensures.ordered
    c.results_stand_in_term_order.ensures c.len-2.result c.len-2.ensures.count
