use Rattle.std.proofs.Common.{sym, subst}
use Rattle.graph_view.specs.ListGraph.{plain_graph}
use Rattle.shape_eval.specs.Plan.{IsKnownPlan}
use Rattle.shape_eval.specs.Planned.{plan_of}
use Rattle.shx_term.specs.Pool.{Pooled}
use Rattle.shacl_run.proofs.StandsLemmas.{valid_stored}
use Rattle.shacl_run.proofs.open_validation.validation_over.Goals as goal

pub returns-clause-stands : goal.returns-clause-stands
returns-clause-stands c = record {
  valid = valid_stored c.args.accepted.pool.terms c.args.document.triples.items
      (plain_graph c.in_ok-graph.graph)
      (rw c.replace-triples.ensures.value at c.in_ok-graph.ensures.holds) c.requires.valid;
  known = subst (λ (pool : Pooled). IsKnownPlan pool.terms (plan_of c.args.accepted.plan).shapes)
      (sym c.in_ok-graph.ensures.pool) c.requires.plan;
  refers = c.requires.refers;
  within = c.requires.within_plan.within;
  once = c.requires.within_plan.once;
}
