use Rattle.std.specs.List.{list_any}
use Rattle.comp_core.specs.Asking.{conforms}
use Rattle.comp_core.specs.declared.kinds.TheConstants.{OR}
use Rattle.comp_core.proofs.CountLemmas.{some_counted}
use Rattle.logic_components.specs.declared.demand.Demand.TheVariants.{Some}
use Rattle.logic_components.proofs.DemandLemmas.{results_of_demand}
use Rattle.logic_components.proofs.disjunction.OrComponent.check.Goals as goal

pub returns-clause-rows : goal.returns-clause-rows
returns-clause-rows g c =
    let shapes = c.args.self.now.shapes.items in
    rw (
      c.deref.ensures.value,
      results_of_demand Some shapes (λ m v. list_any (conforms m v) shapes)
          (λ m v. some_counted (conforms m v) shapes) (g.C.Conform.rows_of c.args.conform.now) OR
          c.args.at c.args.values.now,
    ) at c.check_demand.ensures.rows
