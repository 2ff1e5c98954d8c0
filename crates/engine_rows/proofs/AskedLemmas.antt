-- When the plan of some shapes may be asked of a graph.
use Rattle.std.specs.Prelude.{◌≡◌, ◌<◌, List, nat_eq, length, All}
use Rattle.std.specs.List.{IsDistinct}
use Rattle.std.proofs.Common.{sym, ap, subst}
use Rattle.shx_term.specs.declared.term.Term.{Term}
use Rattle.graph_view.specs.Graph.{Graph}
use Rattle.graph_view.specs.Valid.{IsValidView}
use Rattle.shape_eval.specs.Plan.{IsKnownPlan, IsPlan, Planned, planned}
use Rattle.edit_engine.specs.MayBeAsked.{MayBeAsked}

-- the graph is valid, the numbers of the plan have terms in it, and what is targeted is as it is in the terms
-- that the plan was made of
pub may_be_asked : (plan : Planned) (terms : List Term) (g : Graph) → plan ≡ planned terms plan.shapes
    → IsPlan terms plan.shapes → IsKnownPlan g.terms plan.shapes
    → All (λ n. n < length plan.shapes) (planned terms plan.shapes).targeted
    → IsDistinct nat_eq (planned terms plan.shapes).targeted → IsValidView g → MayBeAsked plan g
may_be_asked plan terms g is fits known within once valid =
    let targeted = sym (ap (λ (p : Planned). p.targeted) is) in
    record {
      valid = valid;
      known = known;
      refers = fits.refers;
      within = subst (All (λ n. n < length plan.shapes)) targeted within;
      once = subst (IsDistinct nat_eq) targeted once;
    }
