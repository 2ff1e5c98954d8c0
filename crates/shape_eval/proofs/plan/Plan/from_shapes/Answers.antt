use Rattle.std.specs.Prelude.{◌<◌, All, length}
use Rattle.std.proofs.Common.{sym, ap, ◌∙◌, subst}
use Rattle.shape_eval.specs.Plan.{nodes_of}
use Rattle.shape_eval.proofs.PlaceLemmas.{numbers_within, places_are_numbers}
use Rattle.shape_eval.proofs.plan.Plan.from_shapes.Goals as goal

pub invariant_of-result-clause-within : goal.invariant_of-result-clause-within
invariant_of-result-clause-within c =
    let shapes = c.args.shapes.items in
    let nodes = c.deref-3.result.now in
    subst (All (λ n. n < length shapes)) (sym (c.in_ok-targeted.ensures
    ∙ places_are_numbers shapes c.in_ok-places.places.keys
    (c.in_ok-places.ensures ∙ ap nodes_of c.deref.ensures.value) nodes))
    (numbers_within shapes nodes)
