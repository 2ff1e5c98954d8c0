-- Plans that mean the same come to the same on every graph.
use Rattle.std.specs.Prelude.{◌≡◌, List, length, map}
use Rattle.std.proofs.Common.{sym, ap, ◌∙◌}
use Rattle.std.proofs.lemmas.List.{length-map}
use Rattle.shx_term.specs.declared.term.Term.{Term}
use Rattle.graph_view.specs.Graph.{Graph}
use Rattle.comp_core.specs.Pairs.{same_pair}
use Rattle.shape_eval.specs.Nested.{nested_pairs}
use Rattle.shape_eval.specs.Plan.{Planned, planned}
use Rattle.shape_eval.specs.Report.{pairs, report}
use Rattle.shape_eval.specs.Results.{results}
use Rattle.plan_swap.specs.Renumbered.{new_number, row_renumbered, rows_renumbered}
use Rattle.plan_swap.proofs.TurnLemmas.{InTurn, parts_in_turn, weaker_in_turn}
use Rattle.shape_text.specs.SamePlans.{PlansWriteTheSame}
use Rattle.shape_text.proofs.InTurnLemmas.{InTurn-distinct_count, InTurn-length}
use Rattle.shape_text.proofs.SameNestedLemmas.{all_nested_in_turn}
use Rattle.shape_text.proofs.SamePairLemmas.{AreOnePair, pairs_in_turn, same_pairs}
use Rattle.shape_text.proofs.SamePlaceLemmas.{one_node}
use Rattle.shape_text.proofs.SameResultLemmas.{same_results}
use Rattle.shape_text.proofs.SameShapeLemmas.{HaveSameShapes, HaveSameShapes-sym, same_shapes}
use Rattle.shape_text.proofs.SameTextLemmas.{report_same}

module _ (terms : List Term) (p q : Planned) (same : HaveSameShapes p.shapes q.shapes)
    (first : p ≡ planned terms p.shapes) (second : q ≡ planned terms q.shapes) (g : Graph) where
  both : InTurn (AreOnePair p.shapes q.shapes) (pairs p g) (pairs q g)
  both = pairs_in_turn terms p q same first second g

  -- the report is that of the other plan, under new numbers
  same_report : report q g ≡ rows_renumbered (new_number p.shapes q.shapes) (report p g)
  same_report =
      parts_in_turn (row_renumbered (new_number p.shapes q.shapes)) (results p.shapes g) (results q.shapes g)
      (pairs p g) (pairs q g)
      (weaker_in_turn (AreOnePair p.shapes q.shapes)
      (λ a b. results q.shapes g b
      ≡ map (row_renumbered (new_number p.shapes q.shapes)) (results p.shapes g a))
      (λ a b one.
      ap (λ node. results q.shapes g (record b { node = node })) (sym one.node)
      ∙ same_results p.shapes q.shapes same g a.shape b.shape
      (one_node p.shapes q.shapes a.shape b.shape one.shape) a.node)
      (pairs p g) (pairs q g) both)

pub plans_same : PlansWriteTheSame
plans_same limits terms ds p q first second g =
    let same = same_shapes terms ds p.shapes q.shapes first.means second.means in
    let turned = HaveSameShapes-sym p.shapes q.shapes same in
    let there = same_report terms p q same first.targeted second.targeted g in
    let here = same_report terms q p turned second.targeted first.targeted g in
    let each = both terms p q same first.targeted second.targeted g in
    record {
      text = λ format. report_same p.shapes q.shapes same g.terms format (report p g) (report q g) there here;
      results = sym (length-map (report p g) (row_renumbered (new_number p.shapes q.shapes)))
          ∙ ap length (sym there);
      pairs = InTurn-length (AreOnePair p.shapes q.shapes) (pairs p g) (pairs q g) each;
      nested = InTurn-distinct_count (AreOnePair p.shapes q.shapes) same_pair same_pair
          (same_pairs p.shapes q.shapes same) (nested_pairs p g) (nested_pairs q g)
          (all_nested_in_turn p.shapes q.shapes same g (pairs p g) (pairs q g) each);
    }
