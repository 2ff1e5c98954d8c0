use Rattle.std.specs.Prelude.{◌≡◌, ◌<◌, length}
use Rattle.std.proofs.Common.{refl, sym, ap, ◌∙◌, subst, arith}
use Rattle.std.proofs.lemmas.Bool.{eqb-true}
use Rattle.std.proofs.lemmas.List.{set-set}
use Rattle.pair_results.specs.PairResults.{place_of, Kept}
use Rattle.pair_results.proofs.NodeLemmas.{empty_if, none_if, none_of}
use Rattle.pair_results.proofs.ShapeLemmas.{entries_of, nodes_indexed, within_trees}
use Rattle.pair_results.proofs.StageLemmas.{IsCounted-lost, IsCounted-same, IsCounted-staged}
use Rattle.pair_results.proofs.StageLemmas.{SameOtherPlaces-then, SameChanges-stored, SameRows-stored}
use Rattle.pair_results.proofs.StageLemmas.{SameRowsIn-then, Stages-nothing, Stages-stored, Vacates}
use Rattle.pair_results.proofs.StageLemmas.{Vacates-set}
use Rattle.pair_results.proofs.StageLemmas.{on_any_Err}
use Rattle.pair_results.proofs.pair_results.PairResults.stage.Goals as goal

pub returns-then-not-contains_key-clause-staged : goal.returns-then-not-contains_key-clause-staged
returns-then-not-contains_key-clause-staged c =
    let none = eqb-true _ _ (sym c.if-is_empty.ensures) in
    let long : length c.args.rows.items ≡ 0 = omega arith in
    let inside : c.args.shape < length (entries_of c.self.inside.shapes.items) =
    subst (λ (k : Kept). c.args.shape < length k.shapes) (sym c.self.view_is) c.requires in
    let same = nodes_indexed _ _ _ (within_trees _ _ inside) c.index.ensures in
    rw (← c.self.view_is)
    (Stages-nothing _ _ _ _ c.self.invariant.places
    (ap (λ nodes. place_of nodes c.args.node.now) same
    ∙ none_of _ (sym c.contains_key.ensures ∙ c.if-not-contains_key.true))
    (empty_if _ long))

pub invariant_of-self : goal.invariant_of-self
invariant_of-self c =
    IsCounted-same _ _ _ _ c.self.view_is _ c.requires _ _ c.index_mut.ensures.value _ _ _ _ c.self.invariant
    c.in_err-is_new.ensures.ordered c.in_err-is_new.ensures.all c.in_ok-self-inside.ensures.enough
    c.in_ok-self-inside.ensures.fits refl c.in_err-is_new.ensures.refused

pub returns-in_err-is_new-clause-kept : goal.returns-in_err-is_new-clause-kept
returns-in_err-is_new-clause-kept c =
    SameRows-stored _ _ _ _ c.self.view_is _ c.requires _ _ c.index_mut.ensures.value
    c.make_place.ensures.rows

pub returns-in_err-is_new-clause-refused : goal.returns-in_err-is_new-clause-refused
returns-in_err-is_new-clause-refused c =
    on_any_Err _ _
    (SameChanges-stored _ _ _ _ c.self.view_is _ c.requires _ _ c.index_mut.ensures.value refl
    c.make_place.ensures.rows)

-- the place that was made is taken out
vacated : (c : goal.After-self-then-is_new-1)
    → Vacates c.args.node.now c.make_place.new.nodes c.vacate.new.nodes
vacated c =
    let inside : c.args.shape < length (entries_of c.self.inside.shapes.items) =
    subst (λ (k : Kept). c.args.shape < length k.shapes) (sym c.self.view_is) c.requires in
    Vacates-set _ _ _ _ _ _ (within_trees _ _ inside) c.index_mut-then-is_new.ensures.value (record {
      rows = c.vacate.ensures.rows;
      others = c.vacate.ensures.others;
      filled = c.vacate.ensures.filled;
      all = c.vacate.ensures.all;
      ordered = c.vacate.ensures.ordered;
    })

pub invariant_of-self-then-is_new : goal.invariant_of-self-then-is_new
invariant_of-self-then-is_new c =
    let vacates = vacated c in
    rw set-set
    (IsCounted-lost _ _ _ _ c.self.view_is _ c.requires _ _ c.index_mut.ensures.value _ _ _ _ c.self.invariant
    (λ sorted. vacates.ordered (c.make_place.ensures.ordered sorted))
    (vacates.all ∙ c.make_place.ensures.all) c.in_ok-self-inside.ensures.enough
    c.in_ok-self-inside.ensures.fits _ c.in-Err.ensures.refused
    (SameOtherPlaces-then _ _ _ _ c.make_place.ensures.others vacates.others) vacates.filled
    (none_if _ (sym c.in_ok-is_new.ensures.new ∙ c.if-is_new.true)))

pub invariant_of-self-else-is_new : goal.invariant_of-self-else-is_new
invariant_of-self-else-is_new c =
    IsCounted-same _ _ _ _ c.self.view_is _ c.requires _ _ c.index_mut.ensures.value _ _ _ _ c.self.invariant
    c.make_place.ensures.ordered c.make_place.ensures.all c.in_ok-self-inside.ensures.enough
    c.in_ok-self-inside.ensures.fits c.in-Err.ensures.refused (c.in_ok-is_new.ensures.held c.if-is_new.false)

pub returns-then-is_new-clause-kept : goal.returns-then-is_new-clause-kept
returns-then-is_new-clause-kept c =
    let vacates = vacated c in
    rw set-set
    (SameRows-stored _ _ _ _ c.self.view_is _ c.requires _ _ c.index_mut.ensures.value
    (SameRowsIn-then _ _ _ c.make_place.ensures.rows vacates.rows))

pub returns-then-is_new-clause-refused : goal.returns-then-is_new-clause-refused
returns-then-is_new-clause-refused c =
    let vacates = vacated c in
    rw set-set
    (SameChanges-stored _ _ _ _ c.self.view_is _ c.requires _ _ c.index_mut.ensures.value
    c.in-Err.ensures.refused (SameRowsIn-then _ _ _ c.make_place.ensures.rows vacates.rows))

pub returns-else-is_new-clause-kept : goal.returns-else-is_new-clause-kept
returns-else-is_new-clause-kept c =
    SameRows-stored _ _ _ _ c.self.view_is _ c.requires _ _ c.index_mut.ensures.value
    c.make_place.ensures.rows

pub returns-else-is_new-clause-refused : goal.returns-else-is_new-clause-refused
returns-else-is_new-clause-refused c =
    SameChanges-stored _ _ _ _ c.self.view_is _ c.requires _ _ c.index_mut.ensures.value
    c.in-Err.ensures.refused c.make_place.ensures.rows

pub invariant_of-self-in_default : goal.invariant_of-self-in_default
invariant_of-self-in_default c =
    IsCounted-staged _ _ _ _ c.self.view_is _ c.requires _ _ c.index_mut.ensures.value _ _ _ _
    c.self.invariant c.make_place.ensures.ordered c.make_place.ensures.all c.in_ok-self-inside.ensures.enough
    c.in_ok-self-inside.ensures.fits _ _ c.in_default.ensures.staged c.len.ensures c.make_place.ensures.places
    c.make_place.ensures.others c.in_ok-is_new.ensures.made

pub returns-clause-kept : goal.returns-clause-kept
returns-clause-kept c =
    SameRows-stored _ _ _ _ c.self.view_is _ c.requires _ _ c.index_mut.ensures.value
    c.make_place.ensures.rows

pub returns-clause-staged : goal.returns-clause-staged
returns-clause-staged c =
    rw (← c.new-rows.ensures)
    (Stages-stored _ _ _ _ c.self.view_is _ c.requires _ _ c.index_mut.ensures.value _ _
    c.in_default.ensures.staged c.make_place.ensures.rows)
