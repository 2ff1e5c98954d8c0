use Rattle.std.specs.List.{list_all}
use Rattle.comp_core.specs.Asking.{conforms}
use Rattle.comp_core.specs.declared.kinds.TheConstants.{AND}
use Rattle.comp_core.proofs.CountLemmas.{all_counted}
use Rattle.logic_components.specs.declared.demand.Demand.TheVariants.{All}
use Rattle.logic_components.proofs.DemandLemmas.{results_of_demand}
use Rattle.logic_components.proofs.conjunction.AndComponent.check.Goals as goal

pub returns-clause-rows : goal.returns-clause-rows
returns-clause-rows g c =
    let shapes = c.args.self.now.shapes.items in
    rw (
      c.deref.ensures.value,
      results_of_demand All shapes (λ m v. list_all (conforms m v) shapes)
          (λ m v. all_counted (conforms m v) shapes) (g.C.Conform.rows_of c.args.conform.now) AND
          c.args.at c.args.values.now,
    ) at c.check_demand.ensures.rows
