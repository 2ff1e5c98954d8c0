use Rattle.std.specs.Prelude.{◌<◌, List, Contains, flat_map, length, take}
use Rattle.std.proofs.Common.{inl, inr, refl, sym, subst}
use Rattle.std.proofs.lemmas.Bool.{or_cases}
use Rattle.std.proofs.lemmas.List.Elements.{Contains-append_left, Contains-append_right}
use Rattle.graph_view.specs.declared.key.Key.{Key}
use Rattle.comp_core.specs.declared.pair.Pair.{Pair}
use Rattle.value_components.specs.Class.{class_reads}
use Rattle.shape_eval.specs.declared.constraint.Constraint.{Constraint}
use Rattle.shape_eval.specs.Constraint.{constraint_asks, constraint_hits, constraint_numbers}
use Rattle.shape_eval.specs.Constraint.{IsReadOf, constraint_reads}
use Rattle.shape_eval.proofs.CheckedLemmas.{noted_unless}
use Rattle.shape_eval.proofs.ItemLemmas.{flat_map-take_item, item_at, part_at}
use Rattle.shape_eval.proofs.checking.check_each.Goals as goal

pub check_next-requires-clause-numbers : goal.check_next-requires-clause-numbers
check_next-requires-clause-numbers g c =
    part_at (λ id. id < length (g.V.GraphView.graph c.args.view.now).terms) constraint_numbers
    c.args.constraints.now c.loop-constraint.constraint-index c.constraint-item.result
    c.loop-constraint-test.true c.constraint-item.is c.requires.numbers

pub check_next-requires-clause-read : goal.check_next-requires-clause-read
check_next-requires-clause-read g c =
    item_at (λ k. IsReadOf k (g.V.GraphView.graph c.args.view.now).terms) c.args.constraints.now
    c.loop-constraint.constraint-index c.constraint-item.result c.loop-constraint-test.true
    c.constraint-item.is c.requires.read

pub check_next-requires-clause-held : goal.check_next-requires-clause-held
check_next-requires-clause-held g c =
    part_at (g.C.Conform.holds c.args.conform.now) (λ k. constraint_asks k c.args.values.now)
    c.args.constraints.now c.loop-constraint.constraint-index c.constraint-item.result
    c.loop-constraint-test.true c.constraint-item.is c.requires.held

pub loop-constraint-preserved : goal.loop-constraint-preserved
loop-constraint-preserved g c =
    let view = g.V.GraphView.graph c.args.view.now in
    let i = c.loop-constraint.constraint-index in
    let item = c.constraint-item.result in
    let constraints = c.args.constraints.now in
    let inside = c.loop-constraint-test.true in
    let class_keys = class_reads view c.args.values.now in
    let keys : (Pair → List Key) → Constraint → List Key =
    λ r k. constraint_reads k view r c.args.at c.args.values.now in
    record {
      known = c.in_ok-check_next.ensures.known;
      rows = flat_map-take_item
          (λ k. constraint_hits k view (g.C.Conform.rows_of c.args.conform.now) c.args.at c.args.values.now)
          constraints i item inside c.constraint-item.is c.loop-constraint.rows.items
          c.check_next.new.rows.items c.loop-constraint.invariant.rows c.in_ok-check_next.ensures.rows;
      reads = λ r told.
          subst (g.C.Noted.Notes.notes c.args.reads.now c.check_next.new.reads)
          (flat_map-take_item (keys r) constraints i item inside c.constraint-item.is _ _ refl refl)
          (noted_unless g.met.C.Noted.Notes.laws c.loop-constraint.classes_noted
          (flat_map (keys r) (take i constraints)) (keys r item) class_keys
          (λ is. c.loop-constraint.invariant.classes is r) _ _ _
          (c.loop-constraint.invariant.reads r told) (c.in_ok-check_next.ensures.reads r told));
      classes = λ is r key held.
          subst (λ ks. Contains ks key)
          (flat_map-take_item (keys r) constraints i item inside c.constraint-item.is _ _ refl refl)
          (elim (or_cases _ _ is) [
            | inl before ↦ Contains-append_left (flat_map (keys r) (take i constraints)) (keys r item) key
                (c.loop-constraint.invariant.classes before r key held)
            | inr here ↦ Contains-append_right (flat_map (keys r) (take i constraints)) (keys r item) key
                (subst (λ ks. Contains ks key)
                (sym ((c.is_class-classes_noted.ensures here view).each r c.args.at c.args.values.now)) held)
          ]);
    }
